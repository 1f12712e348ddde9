-- What an index of rows is.
use Rattle.std.specs.Prelude.{◌≡◌, ℕ, Bool, false, not, ◌&&◌, ◌==◌, List, Option, Some, None}
use Rattle.std.specs.List.{list_any}
use Rattle.std.specs.Ordering.{is_eq}
use Rattle.okws_base.specs.Value.{value_cmp}
use Rattle.okws_base.specs.declared.value.Value.{Value}
use Rattle.okws_plan.specs.Meaning.{at_column}
use Rattle.row_index.specs.Places.{row_at}
use Rattle.row_index.specs.Slots.{holds}
use Rattle.row_index.specs.Groups.{group_cmp}
use Rattle.row_index.specs.declared.slot.Group.{Group}
use Rattle.row_index.specs.declared.slot.Slot.{Slot}
use Rattle.row_index.specs.declared.slots.Slots.{Slots}

-- A column has an index.
abbrev pub is_indexed : List ℕ → ℕ → Bool
is_indexed columns c = list_any (λ (d : ℕ). d == c) columns

-- The value of a column in a row that may not be there.
abbrev pub cell : ℕ → Option (List Value) → Option Value
cell c None = None
cell c (Some row) = Some (at_column row c)

-- A value is there, and is this one.
abbrev pub is_value : Value → Option Value → Bool
is_value v None = false
is_value v (Some x) = is_eq (value_cmp x v)

-- A slot is due where its column has an index and the row of its place has its value there.
abbrev pub due : List ℕ → Option (List Value) → Slot → Bool
due columns o q = is_indexed columns q.group.column && is_value q.group.value (cell q.group.column o)

-- The slots are an index of the rows by these columns: there is a slot for a column, a value and a place exactly where the column has an index and the row of that place has the value there.
pub record IsIndex (columns : List ℕ) (rows : List (ℕ × List Value)) (slots : Slots) : Type 0 where
  pub exact : (q : Slot) → holds slots q ≡ due columns (row_at rows q.place) q

-- The slots are an index of the rows, but that none of this group are there.
pub record IsIndexBut (g : Group) (columns : List ℕ) (rows : List (ℕ × List Value)) (slots : Slots) : Type 0 where
  pub exact : (q : Slot) → holds slots q ≡ (not (is_eq (group_cmp g q.group)) && due columns (row_at rows q.place) q)
