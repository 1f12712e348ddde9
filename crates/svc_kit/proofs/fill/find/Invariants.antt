use Rattle.std.proofs.Common.{◌≡◌, drop, map}
use Rattle.svc_kit.specs.Filled.{pair_of, value_of}
use Rattle.svc_kit.proofs.fill.find.Given as goal

abbrev pub invariant-loop-pair : goal.invariant-loop-pair
invariant-loop-pair l = value_of (map pair_of (drop l.pair-index l.pairs)) l.name ≡ value_of (map pair_of l.pairs) l.name
