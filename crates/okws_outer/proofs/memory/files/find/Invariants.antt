use Rattle.std.proofs.Common.{◌≡◌, drop}
use Rattle.okws_outer.specs.Entries.{held_at}
use Rattle.okws_outer.proofs.memory.files.find.Given as goal

abbrev pub invariant-loop-entry : goal.invariant-loop-entry
invariant-loop-entry l = held_at l.entries l.path ≡ held_at (drop l.entry-index l.entries) l.path
