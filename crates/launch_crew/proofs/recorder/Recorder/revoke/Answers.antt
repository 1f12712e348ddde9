use Rattle.std.proofs.Common.{◌∙◌, ap}
use Rattle.launch_crew.proofs.Places.{revokes_three}
use Rattle.monitor_model.specs.Launches.{with_revoke_log, with_revoke_pubd}
use Rattle.launch_crew.proofs.recorder.Recorder.revoke.Goals as goal

pub returns-clause-revokes : goal.returns-clause-revokes
returns-clause-revokes g c =
    revokes_three g.N.Numbered.site c.args.service c.args.self.now.sat c.revoke_at_proxies.new.self.sat c.revoke_at_pubd.new.self.sat c.revoke_at_log.new.self.sat
    (record {
      proxies_only = c.revoke_at_proxies.ensures.only;
      row = c.revoke_at_proxies.ensures.row;
      pubd_only = c.revoke_at_pubd.ensures.only;
      pubd = c.revoke_at_pubd.ensures.revoked;
      log_only = c.revoke_at_log.ensures.only;
      oklogd = c.revoke_at_log.ensures.revoked;
    })

pub returns-clause-own : goal.returns-clause-own
returns-clause-own g c =
    let s = c.args.service in
    c.revoke_at_log.ensures.own ∙ ap (with_revoke_log s) (c.revoke_at_pubd.ensures.own ∙ ap (with_revoke_pubd s) c.revoke_at_proxies.ensures.own)
