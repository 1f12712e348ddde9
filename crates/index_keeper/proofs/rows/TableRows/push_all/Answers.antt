use Rattle.std.proofs.Common.{◌≡◌, ◌∙◌, ◌∷◌, ◌++◌, [], ℕ, List, None, Some, ap, get_or, sym, take}
use Rattle.std.proofs.lemmas.List.{map-append, append_assoc}
use Rattle.okws_base.specs.declared.value.Value.{Value}
use Rattle.row_index.specs.Stands.{standing}
use Rattle.row_index.specs.declared.placed.Stand.{Stand}
use Rattle.row_search.specs.Places.{rows_of}
use Rattle.row_search.proofs.Scanned.{one_more, none_more}
use Rattle.index_keeper.proofs.rows.TableRows.push_all.Goals as goal
use Rattle.index_keeper.proofs.rows.TableRows.push_all.Goals.{in-None, in-Some+in_ok-copy-in-Some+in_ok-push-in-Some}

pub loop-stand-preserved : goal.loop-stand-preserved
loop-stand-preserved c =
    let stands : List Stand = c.args.stands.now in
    let i : ℕ = c.loop-stand.stand-index in
    let d : Stand = c.stand-item.result in
    let at : (get_or stands i d).row ≡ d.row = ap (λ (s : Stand). s.row) (sym c.stand-item.is) in
    let front : List (ℕ × List Value) = standing (take i stands) in
    let old : List (List Value) = rows_of c.args.self.now.entries in
    elim c.match-as_ref.branch [
      | in-None w ↦
          let none : (get_or stands i d).row ≡ None = at ∙ sym w.in-None.ensures.value in
          record {
            columns = rw w.self-is c.loop-stand.invariant.columns;
            rows = rw w.self-is (c.loop-stand.invariant.rows ∙ ap (λ (es : List (ℕ × List Value)). old ++ rows_of es) (sym (none_more stands i d c.loop-stand-test.true none)));
          }
      | in-Some+in_ok-copy-in-Some+in_ok-push-in-Some w ↦
          let row : List Value = w.in-Some.row.now in
          let some : (get_or stands i d).row ≡ Some row = at ∙ sym w.in-Some.ensures.value in
          record {
            columns = rw w.self-is (w.in_ok-push-in-Some.ensures.columns ∙ c.loop-stand.invariant.columns);
            rows =
                rw w.self-is
                (w.in_ok-push-in-Some.ensures.rows
                ∙ ap (λ (rows : List (List Value)). rows ++ w.in_ok-copy-in-Some.field-0 ∷ []) c.loop-stand.invariant.rows
                ∙ ap (λ (r : List Value). (old ++ rows_of front) ++ r ∷ []) w.in_ok-copy-in-Some.ensures
                ∙ append_assoc old (rows_of front) (row ∷ [])
                ∙ sym (ap (λ (es : List (ℕ × List Value)). old ++ rows_of es) (one_more stands i d row c.loop-stand-test.true some) ∙ ap (λ (rows : List (List Value)). old ++ rows) (map-append (λ (e : ℕ × List Value). e.1) front (((get_or stands i d).place, row) ∷ []))));
          }
    ]
