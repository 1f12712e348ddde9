use Rattle.std.proofs.Common.{◌≡◌, ◌∙◌, [], ap, subst}
use Rattle.std.proofs.lemmas.Result.{IfOk-weaker}
use Rattle.monitor_model.specs.declared.record.CellEvent.{CellEvent}
use Rattle.monitor_model.specs.Answering.{end_response}
use Rattle.monitor_model.specs.Stage.{Stand, stand}
use Rattle.okws_play.specs.Printed.{last_response}
use Rattle.okws_play.proofs.Going.{last_other, last_dialog}
use Rattle.okws_play.proofs.play.run.Play.closing_response.Goals as goal

pub returns-in-None : goal.returns-in-None
returns-in-None c =
    let none : last_response (stand c.args.self.now.stage c.args.service).past c.args.method.now ≡ [] =
    subst (λ (t : Stand). last_response t.past c.args.method.now ≡ []) c.cell.ensures.stand (last_other c.cell.result.now.past c.args.method.now c.in-None.ensures) in
    cc

pub returns-in-Some : goal.returns-in-Some
returns-in-Some c =
    let same : end_response c.in-Some.dialog.now.end c.in-Some.dialog.now.items c.args.method.now ≡ last_response (stand c.args.self.now.stage c.args.service).past c.args.method.now =
    last_dialog c.in-Some.dialog.now c.cell.result.now.past c.args.method.now c.in-Some.ensures ∙ ap (λ (t : Stand). last_response t.past c.args.method.now) c.cell.ensures.stand in
    IfOk-weaker c.dialog_response.result _ _ (λ v h. h ∙ same) c.dialog_response.ensures
