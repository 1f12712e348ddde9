-- What files in memory hold.
use Rattle.std.specs.Prelude.{List, [], ◌∷◌, ℕ, Bool, true, false, if◌then◌else◌, None, Some}
use Rattle.std.specs.Str.{bytes_eq}
use Rattle.std.specs.declared.option.Option.{Option}
use Rattle.okws_outer.specs.declared.memory.files.Entry.{Entry}

-- What stands at a path is the content of the first entry of that path.
abbrev pub held_at : List Entry → List ℕ → Option (List ℕ)
held_at [] path = None
held_at (e ∷ rest) path = if bytes_eq e.path.now path then Some e.bytes.now else held_at rest path

-- A file that isn't there tells no bytes.
abbrev pub told_where : Bool → Option (List ℕ) → Option (List ℕ)
told_where true left = left
told_where false left = None
