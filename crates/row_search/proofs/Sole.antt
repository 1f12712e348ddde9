-- What is found is one row at most.
use Rattle.std.proofs.Common.{◌≡◌, ◌∙◌, refl, sym, ap, subst, ◌≢◌, ℕ, Bool, true, false, List, [], ◌∷◌, Some, None, length}
use Rattle.std.specs.Prelude.{map, filter, slice_set, option_map, ◌&&◌, ◌==◌, if◌then◌else◌}
use Rattle.std.specs.declared.option.Option.{Option}
use Rattle.std.specs.List.Sorted.{IsStrictlySortedBy}
use Rattle.std.specs.Ordering.{nat_cmp}
use Rattle.std.specs.Map.{keys_of}
use Rattle.std.proofs.lemmas.List.{take-map, get_or-set_other}
use Rattle.okws_base.specs.Runs.{Each}
use Rattle.okws_base.specs.declared.value.Value.{Value}
use Rattle.okws_plan.specs.Meaning.{ordered, limited, cut, cut_all, nothing, operand, assigned}
use Rattle.okws_plan.specs.declared.statement.Assignment.{Assignment}
use Rattle.row_index.specs.Places.{row_at, merged}
use Rattle.row_index.proofs.Stood.{each_here}
use Rattle.row_index.specs.Few.{if_any}
use Rattle.row_search.specs.Hits.{lent, entries_of}
use Rattle.row_index.specs.Index.{is_indexed, is_value, due}
use Rattle.row_search.specs.Places.{rows_of}
use Rattle.row_index.specs.Changes.{changed, changes_to}
use Rattle.row_search.specs.declared.finding.Hit.{Hit}
use Rattle.row_index.specs.declared.slot.Slot.{Slot}
use Rattle.row_search.proofs.Entries.{updated_rows}
use Rattle.row_search.proofs.Found.{rows_where}
use Rattle.row_index.proofs.Moved.{nat_same}

-- One row is in order.
pub sole_ordered : (order : Option ℕ) (hit : Option Hit) → ordered order (lent (if_any hit)) ≡ lent (if_any hit)
sole_ordered None hit = refl
sole_ordered (Some c) None = refl
sole_ordered (Some c) (Some hit) = refl

-- The first of the cut rows are the first rows, cut.
pub cut_limited : (columns : List ℕ) (limit : Option ℕ) (rows : List (List Value)) → limited limit (cut_all columns rows) ≡ cut_all columns (limited limit rows)
cut_limited columns None rows = refl
cut_limited columns (Some n) rows = take-map (λ (row : List Value). cut columns row) _ _

-- ---- a value of a column without an index

-- It changes no slot.
pub still_due : (columns : List ℕ) (o : Option (List Value)) (c : ℕ) (v : Value) (q : Slot) (here : Bool) → is_indexed columns c ≡ false → due columns (if here then option_map (λ (row : List Value). slice_set row c v) o else o) q ≡ due columns o q
still_due columns o c v q false none = refl
still_due columns None c v q true none = refl
still_due columns (Some row) c v q true none = by (is_indexed columns q.group.column) refl
  where
    by : (b : Bool) → is_indexed columns q.group.column ≡ b → due columns (Some (slice_set row c v)) q ≡ due columns (Some row) q
    by true is =
        let other : q.group.column ≢ c = λ (same : q.group.column ≡ c). let own : is_indexed columns c ≡ true = ap (is_indexed columns) (sym same) ∙ is in cc in
        ap (λ (x : Value). is_indexed columns q.group.column && is_value q.group.value (Some x)) (get_or-set_other row c q.group.column v nothing other)
    by false is = rw is refl

-- Where no row stands none comes.
pub still_none : (here : Bool) (o : Option (List Value)) (f : List Value → List Value) → o ≡ None → (if here then option_map f o else o) ≡ None
still_none true o f none = ap (option_map f) none
still_none false o f none = none

each_filtered : (P : ℕ × List Value → Type 0) (test : List Value → Bool) (es : List (ℕ × List Value)) → Each P es → Each P (filter (λ (e : ℕ × List Value). test e.1) es)
each_filtered P test [] all = tt
each_filtered P test (e ∷ es) all = by (test e.1) refl (each_filtered P test es all.1)
  where
    by : (b : Bool) → test e.1 ≡ b → Each P (filter (λ (x : ℕ × List Value). test x.1) es) → Each P (filter (λ (x : ℕ × List Value). test x.1) (e ∷ es))
    by true is rest = rw is (all.0, rest)
    by false is rest = rw is rest

-- The only row that passes a test stands at its place.
sole_stands : (test : List Value → Bool) (es : List (ℕ × List Value)) (e : ℕ × List Value) → IsStrictlySortedBy nat_cmp (keys_of es) → filter (λ (x : ℕ × List Value). test x.1) es ≡ e ∷ [] → row_at es e.0 ≡ Some e.1
sole_stands test es e up alone =
    (subst (Each (λ (x : ℕ × List Value). row_at es x.0 ≡ Some x.1)) alone (each_filtered (λ (x : ℕ × List Value). row_at es x.0 ≡ Some x.1) test es (each_here es up))).0

set_or_put : (at : ℕ → Option (List Value)) (k p : ℕ) (f : List Value → List Value) (row : List Value) → at k ≡ Some row → (if k == p then option_map f (at p) else at p) ≡ (if k == p then merged (at p) (Some (f row)) else at p)
set_or_put at k p f row stood = by (k == p) refl
  where
    by : (b : Bool) → (k == p) ≡ b → (if k == p then option_map f (at p) else at p) ≡ (if k == p then merged (at p) (Some (f row)) else at p)
    by true is =
        let here : at p ≡ Some row = ap at (sym (nat_same k p is)) ∙ stood in
        rw is (ap (option_map f) here ∙ sym (ap (λ (o : Option (List Value)). merged o (Some (f row))) here))
    by false is = rw is refl

-- Where there is one hit and one assignment, to set the value in the row of the hit is the UPDATE.
pub sole_updated : (args : List Value) (assignments : List Assignment) (a : Assignment) (test : List Value → Bool) (es now : List (ℕ × List Value)) (hits : List Hit) (place : ℕ) → IsStrictlySortedBy nat_cmp (keys_of es) → IsStrictlySortedBy nat_cmp (keys_of now)
    → entries_of hits ≡ filter (λ (e : ℕ × List Value). test e.1) es → map (λ (h : Hit). h.place) hits ≡ place ∷ [] → assignments ≡ a ∷ []
    → ((p : ℕ) → row_at now p ≡ (if place == p then option_map (λ (row : List Value). slice_set row a.column (operand args a.operand)) (row_at es p) else row_at es p))
    → rows_of now ≡ map (λ (row : List Value). if test row then assigned args assignments row else row) (rows_of es)
sole_updated args assignments a test es now [] place up rise found alone one left = let never : ⊥ = cc in absurd never
sole_updated args assignments a test es now (h ∷ g ∷ hits) place up rise found alone one left = let never : ⊥ = cc in absurd never
sole_updated args assignments a test es now (h ∷ []) place up rise found alone one left =
    let f : List Value → List Value = λ (row : List Value). slice_set row a.column (operand args a.operand) in
    let at : h.place ≡ place = cc in
    let stood : row_at es h.place ≡ Some h.row.now = sole_stands test es (h.place, h.row.now) up (sym found) in
    subst (λ (list : List Assignment). rows_of now ≡ map (λ (row : List Value). if test row then assigned args list row else row) (rows_of es)) (sym one)
    (updated_rows f test es now up rise (λ (p : ℕ).
    left p
    ∙ ap (λ (k : ℕ). if k == p then option_map f (row_at es p) else row_at es p) (sym at)
    ∙ set_or_put (row_at es) h.place p f h.row.now stood
    ∙ ap (λ (entries : List (ℕ × List Value)). changed (changes_to (λ (row : List Value). Some (f row)) entries) (row_at es p) p) found))

-- One hit is counted.
pub sole_counted : (test : List Value → Bool) (es : List (ℕ × List Value)) (hits : List Hit) (place : ℕ) → entries_of hits ≡ filter (λ (e : ℕ × List Value). test e.1) es → map (λ (h : Hit). h.place) hits ≡ place ∷ [] → 1 ≡ length (filter test (rows_of es))
sole_counted test es [] place found alone = let never : ⊥ = cc in absurd never
sole_counted test es (h ∷ g ∷ hits) place found alone = let never : ⊥ = cc in absurd never
sole_counted test es (h ∷ []) place found alone = ap (λ (entries : List (ℕ × List Value)). length (rows_of entries)) found ∙ ap length (rows_where test es)
