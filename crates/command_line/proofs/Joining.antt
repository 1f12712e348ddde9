-- Parts that stand before others.
use Rattle.std.proofs.Common.{◌≡◌, List, [], ◌∷◌, ◌++◌, ℕ, Option, Some, None, option_map, refl}
use Rattle.std.proofs.lemmas.List.{append_assoc, append-nil}
use Rattle.command_line.specs.Parts.{Parts, with_own, with_option, no_parts}
use Rattle.command_line.specs.Meant.{joined}

-- a word of its own goes behind the words before
pub own_joined : (parts : Parts) (word : List ℕ) (others : Option Parts) → joined parts (option_map (with_own word) others) ≡ joined (record parts { own = parts.own ++ word ∷ [] }) others
own_joined parts word None = refl
own_joined parts word (Some more) = rw append_assoc refl

-- an option goes behind the options before
pub option_joined : (parts : Parts) (name value : List ℕ) (others : Option Parts) → joined parts (option_map (with_option name value) others) ≡ joined (record parts { options = parts.options ++ (name, value) ∷ [] }) others
option_joined parts name value None = refl
option_joined parts name value (Some more) = rw append_assoc refl

-- nothing stands before others
pub none_joined : (others : Option Parts) → joined no_parts others ≡ others
none_joined None = refl
none_joined (Some more) = refl

-- nothing stands behind these
pub joined_none : (parts : Parts) → joined parts (Some no_parts) ≡ Some parts
joined_none parts = rw (append-nil parts.own, append-nil parts.options) refl
