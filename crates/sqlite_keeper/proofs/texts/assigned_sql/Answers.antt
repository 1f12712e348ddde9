use Rattle.std.proofs.Common.{◌≡◌, arith, codes}
use Rattle.std.specs.Prelude.{map, string_bytes}
use Rattle.std.proofs.lemmas.List.{take_all}
use Rattle.sqlite_keeper.specs.Texts.{assignment_sql}
use Rattle.sqlite_keeper.proofs.Joined.{joins}
use Rattle.sqlite_keeper.proofs.texts.assigned_sql.Goals as goal

pub returns : goal.returns
returns c =
    let whole = take_all c.loop-assignment.assignment-index c.args.assignments.now (omega arith) in
    let all : map string_bytes c.loop-assignment.parts.items ≡ map assignment_sql c.args.assignments.now = rw whole at c.loop-assignment.invariant in
    joins c.join.result string_bytes string_bytes assignment_sql (codes ", ") c.loop-assignment.parts.items c.args.assignments.now (rw c.deref.ensures.value at c.join.ensures.ok) all
