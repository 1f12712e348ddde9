-- The last editions that the template column keeps beside its journal.
use Rattle.std.specs.Prelude.{ℕ, ◌+◌, List, [], ◌∷◌, Option, Some, None, slice_index_or}
use Rattle.std.specs.Arc.{arc_value}
use Rattle.pubd_core.specs.declared.kept.Edition.{Edition}

-- The number of a template's last edition, 0 for none.
abbrev pub number_of : Option Edition → ℕ
number_of None = 0
number_of (Some e) = e.number

-- The text of a template's last edition, empty for none.
abbrev pub text_of : Option Edition → List ℕ
text_of None = []
text_of (Some e) = arc_value e.content

-- What is kept of template t.
abbrev pub current_in : List (Option Edition) → ℕ → Option Edition
current_in currents t = slice_index_or currents t None

-- How many editions were published, of all templates.
abbrev pub total : List (Option Edition) → ℕ
total [] = 0
total (e ∷ more) = number_of e + total more
