use Rattle.std.proofs.Common.{◌∙◌, ap, arith}
use Rattle.okws_plan.specs.declared.configuration.Config.{Config}
use Rattle.okws_play.proofs.Cells.{fresh, fresh_more}
use Rattle.okws_play.proofs.play.cells.cells_of.Goals as goal

pub loop-i-preserved : goal.loop-i-preserved
loop-i-preserved c =
    fresh_more _ _ c.loop-i.i c.loop-i.i c.loop-i.cells.items c.push.new.self.items c.new.result c.loop-i.invariant (omega arith) (c.new.ensures ∙ ap (λ (X : Config). fresh X c.args.seed c.loop-i.i) c.in_ok-shared.ensures) c.in_ok-push.ensures.items
