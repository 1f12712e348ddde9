use Rattle.std.proofs.Common.{◌∙◌, sym}
use Rattle.okws_play.proofs.Cells.{ready_is}
use Rattle.okws_play.proofs.play.run.Play.is_ready.Goals as goal

pub returns-then-is_some : goal.returns-then-is_some
returns-then-is_some c =
    ready_is _ _ _ _ _ _ c.ready.result c.cell-cell.ensures.seat c.cell-cell.ensures.stand c.open_request.ensures.request (sym c.is_some.ensures ∙ c.if-is_some.true) c.open_request.ensures.there c.ready.ensures
