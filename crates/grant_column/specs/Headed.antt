-- The head of a column as contracts see it.
use Rattle.std.specs.Prelude.{◌≡◌, ℕ, ◌≤◌, Bool, List}
use Rattle.okws_base.specs.Past.{Grant, standing_by, last_by}
use Rattle.okws_base.specs.declared.journal.Entry.{Entry}
use Rattle.grant_column.specs.Granted.{Granted, stands, last, places}

-- The entries, the newest first; for how many more there is room, beside the places of the revocations; whether the entries are kept in memory; the number that new entries name; and what is kept of the grants.
pub record Headed (E : Type 0) : Type 0 where
  pub past : List (Entry E)
  pub room : ℕ
  pub keeps : Bool
  pub holder : ℕ
  pub granted : Granted

-- The entry of this number and event.
abbrev pub noted : {E : Type 0} → ℕ → E → Entry E
noted w event = record { worker = w; event = event }

-- What is kept of the grants is what the past says, and a place is kept for each revocation.
pub record IsHead {E : Type 0} (grant : E → Grant) (J : List (Entry E)) (room : ℕ) (g : Granted) : Type 0 where
  pub standing_is : (s : ℕ) → stands g s ≡ standing_by grant J s
  pub last_is : (s : ℕ) → last g s ≡ last_by grant J s
  -- a place is kept for each revocation
  pub places_are : places g ≤ room
