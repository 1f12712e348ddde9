use Rattle.std.proofs.Common.{◌≡◌, drop, map}
use Rattle.okws_plan.specs.Configuration.{named_from}
use Rattle.okws_plan.proofs.naming.number_among.Given as goal

abbrev pub invariant-loop-i : goal.invariant-loop-i
invariant-loop-i g l = named_from l.i (map g.T.Named.name (drop l.i l.declared)) l.name ≡ named_from 0 (map g.T.Named.name l.declared) l.name
