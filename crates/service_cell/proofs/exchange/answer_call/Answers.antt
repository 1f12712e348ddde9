use Rattle.std.proofs.Common.{rules}
use Rattle.okws_plan.specs.declared.statement.Answer.TheVariants.{Rows}
use Rattle.started_call.specs.Starting.{verdict_of}
use Rattle.service_cell.proofs.Fitting.{gives}
use Rattle.service_cell.proofs.exchange.answer_call.Goals as goal

pub returns-in-Ok-clause-answer : goal.returns-in-Ok-clause-answer
returns-in-Ok-clause-answer g c =
    let made = c.in-Ok.ensures.ok in
    let asker = g.C.Columns.asker c.args.columns.now in
    gives asker.config (record { worker = asker.worker; service = c.args.call.service; incarnation = c.args.call.incarnation }) c.args.proxy c.args.call.session c.args.call.query c.args.call.args
    (g.C.Columns.seen c.args.columns.now) (g.C.Columns.seen c.call.new.self) c.told_call.result (verdict_of (λ p. Rows (g.C.Pin.Pinned.width p) (g.C.Pin.Pinned.rows p)) c.in-Ok.started) made.0 made.1
    (search rules) made.2 made.3 c.told_call.ensures.frame c.told_call.ensures.spelling c.told_call.ensures.rows
