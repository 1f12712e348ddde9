use Rattle.std.proofs.Common.{◌≡◌, take}
use Rattle.std.specs.Prelude.{map, string_bytes}
use Rattle.sqlite_keeper.specs.Texts.{assignment_sql}
use Rattle.sqlite_keeper.proofs.texts.assigned_sql.Given as goal

abbrev pub invariant-loop-assignment : goal.invariant-loop-assignment
invariant-loop-assignment l = map string_bytes l.parts.items ≡ map assignment_sql (take l.assignment-index l.assignments)
