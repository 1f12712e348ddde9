use Rattle.std.proofs.Common.{◌≡◌, arith, codes}
use Rattle.std.specs.Prelude.{map, string_bytes}
use Rattle.std.proofs.lemmas.List.{take_all}
use Rattle.sqlite_keeper.specs.Texts.{side_condition_sql}
use Rattle.sqlite_keeper.proofs.Joined.{joins}
use Rattle.sqlite_keeper.proofs.joins.side_conditions.Goals as goal

pub returns : goal.returns
returns c =
    let whole = take_all c.loop-condition.condition-index c.args.conditions.now (omega arith) in
    let all : map string_bytes c.loop-condition.parts.items ≡ map (side_condition_sql c.args.sides.width c.args.sides.table c.args.sides.second) c.args.conditions.now = rw whole at c.loop-condition.invariant in
    joins c.join.result string_bytes string_bytes (side_condition_sql c.args.sides.width c.args.sides.table c.args.sides.second) (codes " AND ") c.loop-condition.parts.items c.args.conditions.now (rw c.deref.ensures.value at c.join.ensures.ok) all
