use Rattle.std.proofs.Common.{◌≡◌, ◌≤◌}
use Rattle.std.specs.Prelude.{None, replicate, vec_capacity}
use Rattle.launch_crew.proofs.staff.no_children.Given as goal

abbrev pub invariant-loop : goal.invariant-loop
invariant-loop g l = (l.running.items ≡ replicate l.counter None) × (l.services ≤ vec_capacity l.running)
