use Rattle.std.proofs.Common.{arith, subst, ◌∙◌, ap}
use Rattle.std.specs.declared.alloc.AllocError.{AllocError}
use Rattle.std.specs.declared.option.Option.{Option}
use Rattle.std.specs.declared.result.Result.{Result}
use Rattle.std.specs.declared.result.Result.TheVariants.{Ok}
use Rattle.frame_codec.specs.declared.frame.ServerFrame.{ServerFrame}
use Rattle.service_cell.specs.Exchange.{AnswersSaid}
use Rattle.service_cell.proofs.Wires.{spelling_is_short}
use Rattle.service_cell.proofs.exchange.exchange_frame.Goals as goal

pub put_frame-requires-clause-room : goal.put_frame-requires-clause-room
put_frame-requires-clause-room g c = λ steady.
    let asker = g.C.Columns.asker c.args.columns.now in
    let told = subst (λ (r : Result (Option ServerFrame) AllocError). AnswersSaid asker.config (record { worker = asker.worker; service = c.args.who.service; incarnation = c.args.who.incarnation }) c.args.said (g.C.Columns.seen c.args.columns.now) r (g.C.Columns.seen c.answer-reply.new.columns)) (c.in-Ok-Some.is ∙ ap Ok c.in-Ok-Some.field-0-is) c.answer-reply.ensures.answer in
    omega (arith, spelling_is_short c.in-Ok-Some.heard told.0, c.requires.room steady)
