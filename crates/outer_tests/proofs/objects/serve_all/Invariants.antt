use Rattle.std.proofs.Common.{IsNone}
use Rattle.outer_tests.proofs.objects.serve_all.Given as goal

abbrev pub invariant-loop : goal.invariant-loop
invariant-loop g l = IsNone (g.D.Door.entrance l.door).out
