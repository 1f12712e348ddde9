use Rattle.std.proofs.Common.{◌≡◌, drop}
use Rattle.okws_plan.specs.Fits.{fits}
use Rattle.config_reader.specs.Broken.{kinds_of}
use Rattle.config_reader.proofs.tables.fit.Given as goal

abbrev pub invariant-loop-i : goal.invariant-loop-i
invariant-loop-i l = fits (kinds_of (drop l.i l.columns)) (drop l.i l.values) ≡ fits (kinds_of l.columns) l.values
