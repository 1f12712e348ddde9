use Rattle.std.proofs.Common.{◌≤◌, arith, append_assoc}
use Rattle.std.specs.Prelude.{string_bytes}
use Rattle.sqlite_keeper.proofs.Joined.{ok_then}
use Rattle.sqlite_keeper.proofs.Sided.{first_named, second_named}
use Rattle.sqlite_keeper.proofs.joins.side_name.Goals as goal

pub returns-then-column-sides : goal.returns-then-column-sides
returns-then-column-sides c =
    let s = c.args.sides in
    ok_then c.format.result (λ t e. first_named s.width s.table s.second c.args.column (string_bytes t) c.if-column-sides.true (simp append_assoc e)) c.format.ensures.ok

pub returns-else-column-sides : goal.returns-else-column-sides
returns-else-column-sides c =
    let s = c.args.sides in
    let most : s.width ≤ c.args.column = (let l = c.if-column-sides.false in omega arith) in
    ok_then c.format-else-column-sides.result (λ t e. second_named s.width s.table s.second c.args.column (string_bytes t) most (simp append_assoc e)) c.format-else-column-sides.ensures.ok
