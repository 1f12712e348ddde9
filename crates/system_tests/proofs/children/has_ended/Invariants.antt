use Rattle.std.proofs.Common.{◌≡◌}
use Rattle.system_tests.proofs.children.has_ended.Given as goal

abbrev pub invariant-loop : goal.invariant-loop
invariant-loop g l = record {
  service : (g.C.Child.life l.child).service ≡ (g.C.Child.life l.fn.child).service;
  incarnation : (g.C.Child.life l.child).incarnation ≡ (g.C.Child.life l.fn.child).incarnation;
  stopped : (g.C.Child.life l.child).stopped ≡ (g.C.Child.life l.fn.child).stopped;
}
