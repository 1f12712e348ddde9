use Rattle.std.proofs.Common.{◌≡◌, drop}
use Rattle.okws_plan.specs.Fits.{fits}
use Rattle.okws_plan.specs.Sound.{column_kinds}
use Rattle.store_keeper.proofs.sound.fit.Given as goal

abbrev pub invariant-loop-i : goal.invariant-loop-i
invariant-loop-i l = fits (column_kinds (drop l.i l.columns)) (drop l.i l.values) ≡ fits (column_kinds l.columns) l.values
