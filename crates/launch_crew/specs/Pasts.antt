-- What the launcher makes of one column's past, the newest first. Others neither install nor revoke.
use Rattle.std.specs.Prelude.{◌≡◌, ◌≢◌, ◌≤◌, ℕ, List, Some, None, max}
use Rattle.okws_base.specs.Past.{Grant, standing_by, last_by}
use Rattle.okws_base.specs.declared.journal.Entry.{Entry}

-- What stood of s was revoked, if anything did.
pub record Revoked {E : Type 0} (grant : E → Grant) (s : ℕ) (J K : List (Entry E)) : Type 0 where
  pub lasts : (t : ℕ) → last_by grant K t ≡ last_by grant J t
  pub stands : (t : ℕ) → t ≢ s → standing_by grant K t ≡ standing_by grant J t
  pub none : standing_by grant K s ≡ None

-- Incarnation k of s was installed.
pub record Installed {E : Type 0} (grant : E → Grant) (s k : ℕ) (J K : List (Entry E)) : Type 0 where
  pub lasts : (t : ℕ) → t ≢ s → last_by grant K t ≡ last_by grant J t
  pub last : last_by grant K s ≡ max k (last_by grant J s)
  pub stands : (t : ℕ) → t ≢ s → standing_by grant K t ≡ standing_by grant J t
  pub is : standing_by grant K s ≡ Some k

-- What stood of s may have been revoked.
pub record Thinned {E : Type 0} (grant : E → Grant) (s : ℕ) (J K : List (Entry E)) : Type 0 where
  pub lasts : (t : ℕ) → last_by grant K t ≡ last_by grant J t
  pub stands : (t : ℕ) → t ≢ s → standing_by grant K t ≡ standing_by grant J t

-- Incarnation k of s may have been installed.
pub record Grown {E : Type 0} (grant : E → Grant) (s k : ℕ) (J K : List (Entry E)) : Type 0 where
  pub lasts : (t : ℕ) → t ≢ s → last_by grant K t ≡ last_by grant J t
  pub most : (j : ℕ) → k ≤ j → last_by grant J s ≤ j → last_by grant K s ≤ j
  pub stands : (t : ℕ) → t ≢ s → standing_by grant K t ≡ standing_by grant J t
