use Rattle.std.proofs.Common.{sym, subst}
use Rattle.turn_tests.specs.Draws.{DrawerIs, Ready}
use Rattle.turn_tests.proofs.Draws.{ready_at}
use Rattle.turn_tests.proofs.drawing.draw_all.Goals as goal

pub for_each_mut-requires-clause-accepts : goal.for_each_mut-requires-clause-accepts
for_each_mut-requires-clause-accepts g c = λ κs within i p l e. subst (λ (d : DrawerIs). Ready c.args.board.now.id d) (sym e) (ready_at c.args.board.now.id i p.now c.args.drawers.now c.requires l)
