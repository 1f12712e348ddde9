use Rattle.okws_play.proofs.Launching.{all_revoked, keeps_more}
use Rattle.okws_play.proofs.play.run.Play.revoke_all.Goals as goal

pub returns-clause-state : goal.returns-clause-state
returns-clause-state c = all_revoked _ _ _ _ _ c.in_ok-revoke_at_proxies.ensures.state c.in_ok-revoke.ensures.state c.in_ok-revoke-2.ensures.state

pub returns-clause-cells : goal.returns-clause-cells
returns-clause-cells c = keeps_more _ _ _ (keeps_more _ _ _ c.in_ok-revoke_at_proxies.ensures.cells c.in_ok-revoke.ensures.cells) c.in_ok-revoke-2.ensures.cells
