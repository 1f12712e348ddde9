-- The places in the slots of one group.
use Rattle.std.specs.Prelude.{ℕ, Bool, List, [], ◌∷◌, Option, Some, None}
use Rattle.std.specs.List.{list_any}
use Rattle.std.specs.Ordering.{nat_cmp}
use Rattle.std.specs.BTreeMap.{is_at}
use Rattle.row_index.specs.declared.places.Places.{Places}
use Rattle.row_index.specs.declared.places.Places.TheVariants.{Sole, Several}

-- The places, ascending.
abbrev pub places_listed : Places → List ℕ
places_listed (Sole p) = p ∷ []
places_listed (Several places) = places.value.keys

-- The places of a group, if there is one.
abbrev pub places_if_any : Option Places → List ℕ
places_if_any None = []
places_if_any (Some places) = places_listed places

-- A place is among those of a list.
abbrev pub is_among : ℕ → List ℕ → Bool
is_among p places = list_any (is_at (nat_cmp p)) places
