use Rattle.std.proofs.Common.{◌≡◌, rules, append_assoc}
use Rattle.std.specs.Prelude.{string_bytes, codes}
use Rattle.std.specs.List.{join_by}
use Rattle.sqlite_keeper.specs.Texts.{side_name, side_where_sql, side_order_sql, pair_sql}
use Rattle.sqlite_keeper.proofs.Joined.{ok_then}
use Rattle.sqlite_keeper.proofs.Sided.{all_told}
use Rattle.sqlite_keeper.proofs.joins.join_sql.Goals as goal

pub returns : goal.returns
returns c =
    let s = c.args.selection.now in
    let join = c.args.join.now in
    let listed : string_bytes c.in_ok-listed.listed ≡ join_by (side_name c.args.width c.args.table join.table) (codes ", ") s.columns = search rules in
    let pair : string_bytes c.in_ok-pair.pair ≡ pair_sql c.args.width c.args.table join.table join.left join.right = search rules in
    let met : string_bytes c.in_ok-met.met ≡ side_where_sql c.args.width c.args.table join.table s.conditions = search rules in
    let order : string_bytes c.in_ok-order.order ≡ side_order_sql c.args.width c.args.table join.table s.order = search rules in
    ok_then c.format.result (λ t e. all_told c.args.width c.args.table s join (string_bytes t) _ _ _ _ _ listed pair met order c.in_ok-limit.ensures (simp append_assoc e)) c.format.ensures.ok
