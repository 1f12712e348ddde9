use Rattle.std.proofs.Common.{◌≡◌, arith, codes}
use Rattle.std.specs.Prelude.{map, string_bytes}
use Rattle.std.proofs.lemmas.List.{take_all}
use Rattle.sqlite_keeper.specs.Texts.{condition_sql}
use Rattle.sqlite_keeper.proofs.Joined.{joins}
use Rattle.sqlite_keeper.proofs.texts.conditions_sql.Goals as goal

pub returns : goal.returns
returns c =
    let whole = take_all c.loop-condition.condition-index c.args.conditions.now (omega arith) in
    let all : map string_bytes c.loop-condition.parts.items ≡ map condition_sql c.args.conditions.now = rw whole at c.loop-condition.invariant in
    joins c.join.result string_bytes string_bytes condition_sql (codes " AND ") c.loop-condition.parts.items c.args.conditions.now (rw c.deref.ensures.value at c.join.ensures.ok) all
