-- Changes of rows at their places, and the slots that come and go with them.
use Rattle.std.specs.Prelude.{ℕ, Bool, true, false, not, ◌&&◌, ◌==◌, List, [], fold, map, if◌then◌else◌, Option, Some, None}
use Rattle.std.specs.List.{list_any}
use Rattle.std.specs.Ordering.{is_eq}
use Rattle.okws_base.specs.Value.{value_cmp}
use Rattle.okws_base.specs.declared.value.Value.{Value}
use Rattle.row_index.specs.Places.{row_at, merged}
use Rattle.row_index.specs.Index.{cell, is_value}
use Rattle.row_index.specs.declared.slot.Slot.{Slot}
use Rattle.row_index.specs.declared.changing.Change.{Change}

-- Two values that may not be there are the same.
abbrev pub same_cell : Option Value → Option Value → Bool
same_cell None None = true
same_cell None (Some y) = false
same_cell (Some x) None = false
same_cell (Some x) (Some y) = is_eq (value_cmp x y)

-- A slot is of this column and this place.
abbrev pub stands : ℕ → ℕ → Slot → Bool
stands d p q = (d == q.group.column) && (p == q.place)

-- Where a column at a place changes from a to another value b, the slot of b comes.
abbrev pub arrives : ℕ → ℕ → Option Value → Option Value → Slot → Bool
arrives d p a b q = stands d p q && (not (same_cell a b) && is_value q.group.value b)

-- And that of a goes.
abbrev pub departs : ℕ → ℕ → Option Value → Option Value → Slot → Bool
departs d p a b q = stands d p q && (not (same_cell a b) && is_value q.group.value a)

-- A slot comes where the row at a place changes from o to n.
abbrev pub comes : List ℕ → ℕ → Option (List Value) → Option (List Value) → Slot → Bool
comes columns p o n q = list_any (λ (d : ℕ). arrives d p (cell d o) (cell d n) q) columns

-- The column is the one named, if one is.
abbrev pub is_key : Option ℕ → ℕ → Bool
is_key None c = false
is_key (Some key) c = key == c

-- A slot is that of a row at a place for the column named, if one is.
abbrev pub comes_at : Option ℕ → ℕ → List Value → Slot → Bool
comes_at key p row q = is_key key q.group.column && ((p == q.place) && is_value q.group.value (cell q.group.column (Some row)))

-- A slot goes where the row at a place changes from o to n.
abbrev pub goes : List ℕ → ℕ → Option (List Value) → Option (List Value) → Slot → Bool
goes columns p o n q = list_any (λ (d : ℕ). departs d p (cell d o) (cell d n) q) columns

-- A slot comes with a change, where there is a row to change.
abbrev pub comes_with : List ℕ → Option (List Value) → Change → Slot → Bool
comes_with columns None ch q = false
comes_with columns (Some o) ch q = comes columns ch.place (Some o) ch.row q

-- A slot goes with a change, where there is a row to change.
abbrev pub goes_with : List ℕ → Option (List Value) → Change → Slot → Bool
goes_with columns None ch q = false
goes_with columns (Some o) ch q = goes columns ch.place (Some o) ch.row q

-- What stands at a place after one change, from what stood there.
abbrev pub after_change : ℕ → Option (List Value) → Change → Option (List Value)
after_change p o ch = if ch.place == p then merged o ch.row else o

-- What stands at a place after each change in turn, from what stood there.
abbrev pub changed : List Change → Option (List Value) → ℕ → Option (List Value)
changed changes o p = fold (after_change p) o changes

-- A row, or one of no values.
abbrev pub or_empty : Option (List Value) → List Value
or_empty None = []
or_empty (Some row) = row

-- The row at a place, or one of no values where there is none.
abbrev pub row_or : List (ℕ × List Value) → ℕ → List Value
row_or entries p = or_empty (row_at entries p)

-- A change for each entry: at its place is to stand what is made of its row.
abbrev pub changes_to : (List Value → Option (List Value)) → List (ℕ × List Value) → List Change
changes_to make entries = map {B = Change} (λ (e : ℕ × List Value). record { place = e.0; row = make e.1 }) entries

-- No row at each of these places.
abbrev pub removals_at : List ℕ → List Change
removals_at places = map {B = Change} (λ (p : ℕ). record { place = p; row = None }) places
