use Rattle.std.proofs.Common.{ap, subst}
use Rattle.okws_base.specs.Turns.{GrowsBy}
use Rattle.named_columns.specs.Launched.{by_entry}
use Rattle.std.proofs.lemmas.Result.{on_ok_weaker, on_err_weaker}
use Rattle.okws_plan.specs.declared.event.PubdEvent.{PubdEvent}
use Rattle.okws_plan.specs.declared.event.PubdEvent.TheVariants as event
use Rattle.monitor_model.specs.Standing.{pubd_grant}
use Rattle.named_columns.specs.Held.{Held}
use Rattle.named_columns.proofs.Stays.{last_stays, stays}
use Rattle.named_columns.proofs.Turning.{adds_own, ok_launches, err_launches}
use Rattle.named_columns.proofs.pubd_turn.install.Goals as goal

pub install-answer-requires-clause-later : goal.install-answer-requires-clause-later
install-answer-requires-clause-later g c =
    let past = c.take-pubd.result.past in
    rw (last_stays pubd_grant g.N.Numbered.launcher c.args.service c.args.seat.now.seen past (subst (λ n. GrowsBy by_entry n c.args.seat.now.seen past) c.requires.launcher c.take-pubd.ensures.grows) c.launched.ensures) c.requires.later

pub give-requires-clause-adds : goal.give-requires-clause-adds
give-requires-clause-adds g c = adds_own c.take-pubd.result.holder c.take-pubd.result.past c.install-answer.new.self.past c.args.seat.now c.take-pubd.new.seat c.take-pubd.ensures.seat c.take-pubd.ensures.holder c.install-answer.ensures.adds

pub returns-clause-ok : goal.returns-clause-ok
returns-clause-ok g c = ok_launches c.install-answer.result pubd_grant (event.Install c.args.service c.args.incarnation) c.take-pubd.result.holder c.take-pubd.result.past c.install-answer.new.self.past c.args.seat.now c.take-pubd.new.seat c.give.new.seat (record { grows = c.take-pubd.ensures.grows; took = c.take-pubd.ensures.seat; holder = c.take-pubd.ensures.holder; free = c.requires.free; gave = c.give.ensures.seat }) (stays pubd_grant g.N.Numbered.launcher c.args.seat.now.number c.args.seat.now.seen c.take-pubd.result.past c.take-pubd.ensures.grows c.requires.launcher c.launched.ensures)
    (on_ok_weaker c.install-answer.result (ap (λ (x : Held PubdEvent). x.past)) c.install-answer.ensures.ok)

pub returns-clause-err : goal.returns-clause-err
returns-clause-err g c = err_launches c.install-answer.result pubd_grant c.take-pubd.result.holder c.take-pubd.result.past c.install-answer.new.self.past c.args.seat.now c.take-pubd.new.seat c.give.new.seat (record { grows = c.take-pubd.ensures.grows; took = c.take-pubd.ensures.seat; holder = c.take-pubd.ensures.holder; free = c.requires.free; gave = c.give.ensures.seat }) (stays pubd_grant g.N.Numbered.launcher c.args.seat.now.number c.args.seat.now.seen c.take-pubd.result.past c.take-pubd.ensures.grows c.requires.launcher c.launched.ensures)
    (on_err_weaker c.install-answer.result (ap (λ (x : Held PubdEvent). x.past)) c.install-answer.ensures.err)
