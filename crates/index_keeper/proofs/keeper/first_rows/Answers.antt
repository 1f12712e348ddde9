use Rattle.std.proofs.Common.{◌∙◌, ap, sym, ℕ, List, [], ◌∷◌, ◌++◌, take, get_or, arith}
use Rattle.std.specs.Prelude.{map}
use Rattle.std.specs.List.{range_with_len}
use Rattle.std.proofs.lemmas.List.{map-append, take_more}
use Rattle.std.proofs.lemmas.List.FromFn.{map-range_with_len_more}
use Rattle.okws_base.specs.declared.value.Value.{Value}
use Rattle.okws_plan.specs.Meaning.{columns_of}
use Rattle.okws_plan.specs.declared.configuration.Table.{Table}
use Rattle.row_search.specs.Places.{Indexed, rows_of}
use Rattle.index_keeper.specs.Indexed.{wanted}
use Rattle.index_keeper.proofs.keeper.first_rows.Goals as goal

pub loop-table-preserved : goal.loop-table-preserved
loop-table-preserved c =
    let rows : Indexed → List (List Value) = λ (r : Indexed). rows_of r.entries in
    let columns : Indexed → List ℕ = λ (r : Indexed). r.columns in
    let first : Table → List (List Value) = λ (t : Table). t.first in
    let due : ℕ → List ℕ = λ (t : ℕ). wanted c.args.tables.now c.args.queries.now t (columns_of c.args.tables.now t) in
    record {
      rows =
          ap (map rows) c.in_ok-push.ensures.items
          ∙ map-append rows c.loop-table.rows.items (c.in_ok-new.field-0 ∷ [])
          ∙ ap (λ (all : List (List (List Value))). all ++ rows c.in_ok-new.field-0 ∷ []) c.loop-table.invariant.rows
          ∙ ap (λ (new : List (List Value)). map first (take c.loop-table.table c.args.tables.now) ++ new ∷ []) (ap rows c.in_ok-new.ensures ∙ c.in_ok-first.ensures.rows ∙ c.as_slice.ensures)
          ∙ sym (ap (map first) (take_more c.args.tables.now c.loop-table.table c.index-tables-table.result c.loop-table-test.true)
          ∙ map-append first (take c.loop-table.table c.args.tables.now) (get_or c.args.tables.now c.loop-table.table c.index-tables-table.result ∷ []));
      columns =
          ap (map columns) c.in_ok-push.ensures.items
          ∙ map-append columns c.loop-table.rows.items (c.in_ok-new.field-0 ∷ [])
          ∙ ap (λ (all : List (List ℕ)). all ++ columns c.in_ok-new.field-0 ∷ []) c.loop-table.invariant.columns
          ∙ ap (λ (new : List ℕ). map due (range_with_len 0 c.loop-table.table) ++ new ∷ []) (ap columns c.in_ok-new.ensures ∙ c.in_ok-first.ensures.columns ∙ c.in_ok-columns.ensures ∙ ap (wanted c.args.tables.now c.args.queries.now c.loop-table.table) c.columns_at-columns.ensures)
          ∙ sym (map-range_with_len_more due 0 c.loop-table.table c.loop-table.table (omega arith));
    }
