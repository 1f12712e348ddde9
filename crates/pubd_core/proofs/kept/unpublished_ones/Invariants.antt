use Rattle.std.proofs.Common.{◌≡◌, replicate, None}
use Rattle.pubd_core.proofs.kept.unpublished_ones.Given as goal

abbrev pub invariant-loop : goal.invariant-loop
invariant-loop l = l.currents.items ≡ replicate l.counter None
