use Rattle.std.proofs.Common.{◌≡◌, ℕ, sym, ap, subst}
use Rattle.std.proofs.lemmas.Result.{on_ok_weaker, on_err_weaker}
use Rattle.okws_plan.specs.declared.event.ProxyEvent.TheVariants as event
use Rattle.monitor_model.specs.Proxy.{open_verdict}
use Rattle.named_columns.specs.Asked.{IsInstalledAt}
use Rattle.named_columns.specs.Held.{HeldProxy}
use Rattle.named_columns.proofs.Asked.{installed_grown}
use Rattle.named_columns.proofs.Turning.{adds_own, ok_enters, err_sees}
use Rattle.named_columns.proofs.proxy_turn.open_session.Goals as goal

pub open_session-answer-requires-clause-installed : goal.open_session-answer-requires-clause-installed
open_session-answer-requires-clause-installed g c =
    let past = c.take-proxy.result.past in
    subst (λ (l : ℕ). IsInstalledAt g.N.Numbered.site l past c.args.service c.args.incarnation) (sym c.take-proxy.ensures.label)
    (installed_grown g.N.Numbered.site c.args.seat.now.label c.args.service c.args.incarnation c.args.seat.now.number c.args.seat.now.seen past c.take-proxy.ensures.grows c.requires.installed)

pub give-requires-clause-adds : goal.give-requires-clause-adds
give-requires-clause-adds g c = adds_own c.take-proxy.result.holder c.take-proxy.result.past c.open_session-answer.new.self.past c.args.seat.now c.take-proxy.new.seat c.take-proxy.ensures.seat c.take-proxy.ensures.holder c.open_session-answer.ensures.adds

pub returns-clause-ok : goal.returns-clause-ok
returns-clause-ok g c = ok_enters c.open_session-answer.result (λ v before. v ≡ open_verdict before c.args.service c.args.incarnation c.args.shown) (event.Open c.args.service c.args.incarnation c.args.shown) c.take-proxy.result.holder c.take-proxy.result.past c.open_session-answer.new.self.past c.args.seat.now c.take-proxy.new.seat c.give.new.seat (record { grows = c.take-proxy.ensures.grows; took = c.take-proxy.ensures.seat; holder = c.take-proxy.ensures.holder; free = c.requires.free; gave = c.give.ensures.seat }) c.open_session-answer.ensures.verdict
    (on_ok_weaker c.open_session-answer.result (ap (λ (x : HeldProxy). x.past)) c.open_session-answer.ensures.ok)

pub returns-clause-err : goal.returns-clause-err
returns-clause-err g c = err_sees c.open_session-answer.result c.take-proxy.result.holder c.take-proxy.result.past c.open_session-answer.new.self.past c.args.seat.now c.take-proxy.new.seat c.give.new.seat (record { grows = c.take-proxy.ensures.grows; took = c.take-proxy.ensures.seat; holder = c.take-proxy.ensures.holder; free = c.requires.free; gave = c.give.ensures.seat })
    (on_err_weaker c.open_session-answer.result (ap (λ (x : HeldProxy). x.past)) c.open_session-answer.ensures.err)
