use Rattle.std.proofs.Common.{◌≡◌, ◌∙◌, ap, subst, ℕ, List, [], IfOk, length}
use Rattle.std.specs.Prelude.{slice_index_or}
use Rattle.okws_base.specs.declared.value.Value.{Value}
use Rattle.okws_plan.specs.Meaning.{columns_of, ordered, limited, cut_all}
use Rattle.row_search.specs.Places.{Indexed, rows_of}
use Rattle.index_keeper.specs.Joining.{joined_hits}
use Rattle.index_keeper.proofs.Ran.{row_kept, told_rows}
use Rattle.index_keeper.proofs.keeper.join_on.Goals as goal

pub returns : goal.returns
returns g c =
    let t : ℕ = c.args.statement.now.table in
    let s = c.args.selection.now in
    let join = c.args.join.now in
    let T : List (List (List Value)) = told_rows c.args.rows.now in
    let answered : ℕ → List (List Value) → List (List Value) → List (List Value) = λ (n : ℕ) (X Y : List (List Value)).
    cut_all s.columns (limited s.limit (ordered s.order (joined_hits c.args.args.now n join s X Y))) in
    let width : length c.columns_at-width.result.now ≡ length (columns_of c.args.tables.now t) = ap length c.columns_at-width.ensures in
    let first : rows_of c.read-first.result.now.entries ≡ slice_index_or T t [] =
    ap (λ (r : Indexed). rows_of r.entries) c.read-first.ensures ∙ row_kept c.args.rows.now t c.index-rows-statement.result c.requires.first c.index-rows-statement.is in
    let second : rows_of c.read-second.result.now.entries ≡ slice_index_or T join.table [] =
    ap (λ (r : Indexed). rows_of r.entries) c.read-second.ensures ∙ row_kept c.args.rows.now join.table c.index-rows-join.result c.requires.second c.index-rows-join.is in
    subst (λ (n : ℕ). IfOk c.select_joined.result (λ v. v.items ≡ answered n (slice_index_or T t []) (slice_index_or T join.table []))) width
    (subst (λ (X : List (List Value)). IfOk c.select_joined.result (λ v. v.items ≡ answered (length c.columns_at-width.result.now) X (slice_index_or T join.table []))) first
    (subst (λ (Y : List (List Value)). IfOk c.select_joined.result (λ v. v.items ≡ answered (length c.columns_at-width.result.now) (rows_of c.read-first.result.now.entries) Y)) second
    c.select_joined.ensures))
