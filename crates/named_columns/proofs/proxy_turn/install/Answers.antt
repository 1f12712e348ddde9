use Rattle.std.proofs.Common.{◌∙◌, ap, subst}
use Rattle.okws_base.specs.Turns.{GrowsBy}
use Rattle.named_columns.specs.Launched.{by_entry}
use Rattle.std.proofs.lemmas.Result.{on_ok_weaker, on_err_weaker}
use Rattle.okws_plan.specs.declared.event.ProxyEvent.TheVariants as event
use Rattle.monitor_model.specs.Standing.{proxy_grant}
use Rattle.named_columns.specs.Held.{HeldProxy}
use Rattle.named_columns.proofs.Stays.{last_stays, standing_stays, stays}
use Rattle.named_columns.proofs.Turning.{adds_own, ok_launches, err_launches}
use Rattle.named_columns.proofs.proxy_turn.install.Goals as goal

pub install-answer-requires-clause-later : goal.install-answer-requires-clause-later
install-answer-requires-clause-later g c =
    let past = c.take-proxy.result.past in
    rw (last_stays proxy_grant g.N.Numbered.launcher c.args.service c.args.seat.now.seen past (subst (λ n. GrowsBy by_entry n c.args.seat.now.seen past) c.requires.launcher c.take-proxy.ensures.grows) c.launched.ensures.launched) c.requires.later

pub install-answer-requires-clause-vacant : goal.install-answer-requires-clause-vacant
install-answer-requires-clause-vacant g c =
    let past = c.take-proxy.result.past in
    standing_stays proxy_grant g.N.Numbered.launcher c.args.service c.args.seat.now.seen past (subst (λ n. GrowsBy by_entry n c.args.seat.now.seen past) c.requires.launcher c.take-proxy.ensures.grows) c.launched.ensures.launched ∙ c.requires.vacant

pub give-requires-clause-adds : goal.give-requires-clause-adds
give-requires-clause-adds g c = adds_own c.take-proxy.result.holder c.take-proxy.result.past c.install-answer.new.self.past c.args.seat.now c.take-proxy.new.seat c.take-proxy.ensures.seat c.take-proxy.ensures.holder c.install-answer.ensures.adds

pub returns-clause-ok : goal.returns-clause-ok
returns-clause-ok g c = ok_launches c.install-answer.result proxy_grant (event.Install c.args.service c.args.incarnation c.args.token) c.take-proxy.result.holder c.take-proxy.result.past c.install-answer.new.self.past c.args.seat.now c.take-proxy.new.seat c.give.new.seat (record { grows = c.take-proxy.ensures.grows; took = c.take-proxy.ensures.seat; holder = c.take-proxy.ensures.holder; free = c.requires.free; gave = c.give.ensures.seat }) (stays proxy_grant g.N.Numbered.launcher c.args.seat.now.number c.args.seat.now.seen c.take-proxy.result.past c.take-proxy.ensures.grows c.requires.launcher c.launched.ensures.launched)
    (on_ok_weaker c.install-answer.result (ap (λ (x : HeldProxy). x.past)) c.install-answer.ensures.ok)

pub returns-clause-err : goal.returns-clause-err
returns-clause-err g c = err_launches c.install-answer.result proxy_grant c.take-proxy.result.holder c.take-proxy.result.past c.install-answer.new.self.past c.args.seat.now c.take-proxy.new.seat c.give.new.seat (record { grows = c.take-proxy.ensures.grows; took = c.take-proxy.ensures.seat; holder = c.take-proxy.ensures.holder; free = c.requires.free; gave = c.give.ensures.seat }) (stays proxy_grant g.N.Numbered.launcher c.args.seat.now.number c.args.seat.now.seen c.take-proxy.result.past c.take-proxy.ensures.grows c.requires.launcher c.launched.ensures.launched)
    (on_err_weaker c.install-answer.result (ap (λ (x : HeldProxy). x.past)) c.install-answer.ensures.err)
