-- Sets of byte strings.
use Rattle.std.specs.Prelude.{ℕ, Bool, List, Vec}
use Rattle.std.specs.HashSet.{HashSet, contains_by}
use Rattle.okws_base.specs.Value.{same_bytes}

-- A set has these bytes.
abbrev pub knows : {Z S : Type 0} → HashSet (Vec ℕ Z) S → List ℕ → Bool
knows {Z} set bytes = contains_by (λ (key : Vec ℕ Z). same_bytes bytes key.items) set
