use Rattle.std.proofs.Common.{◌≡◌, ℕ, Option, sym, subst, append_assoc}
use Rattle.std.specs.Prelude.{IfOk, string_bytes}
use Rattle.sqlite_keeper.specs.Texts.{side_order_sql}
use Rattle.sqlite_keeper.proofs.Joined.{ok_then}
use Rattle.sqlite_keeper.proofs.Sided.{column_first}
use Rattle.sqlite_keeper.proofs.joins.side_order.Goals as goal

pub returns : goal.returns
returns c =
    let s = c.args.sides in
    subst (λ (o : Option ℕ). IfOk c.format-in-Some.result (λ t. string_bytes t ≡ side_order_sql s.width s.table s.second o)) (sym c.in-Some.is)
    (ok_then c.format-in-Some.result (λ t e. column_first s.width s.table s.second c.in-Some.column (string_bytes t) _ _ c.in_ok-first-in-Some.ensures c.in_ok-pairs.ensures (simp append_assoc e)) c.format-in-Some.ensures.ok)
