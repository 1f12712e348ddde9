use Rattle.std.proofs.Common.{◌≡◌, arith, codes}
use Rattle.std.specs.Prelude.{map, string_bytes}
use Rattle.std.proofs.lemmas.List.{take_all}
use Rattle.sqlite_keeper.specs.Texts.{side_name}
use Rattle.sqlite_keeper.proofs.Joined.{joins}
use Rattle.sqlite_keeper.proofs.joins.side_names.Goals as goal

pub returns : goal.returns
returns c =
    let whole = take_all c.loop-column.column-index c.args.columns.now (omega arith) in
    let all : map string_bytes c.loop-column.parts.items ≡ map (side_name c.args.sides.width c.args.sides.table c.args.sides.second) c.args.columns.now = rw whole at c.loop-column.invariant in
    joins c.join.result string_bytes string_bytes (side_name c.args.sides.width c.args.sides.table c.args.sides.second) (codes ", ") c.loop-column.parts.items c.args.columns.now (rw c.deref.ensures.value at c.join.ensures.ok) all
