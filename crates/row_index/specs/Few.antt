-- Lists of which most have at most one item.
use Rattle.std.specs.Prelude.{List, [], ◌∷◌, Option, Some, None}
use Rattle.row_index.specs.declared.few.Few.{Few}
use Rattle.row_index.specs.declared.few.Few.TheVariants.{Sole, Many}

-- An item that may not be there, as a list.
abbrev pub if_any : {T : Type 0} → Option T → List T
if_any None = []
if_any (Some item) = item ∷ []

-- The items.
abbrev pub listed : {T : Type 0} → Few T → List T
listed (Sole item) = if_any item
listed (Many items) = items.items
