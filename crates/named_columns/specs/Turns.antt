-- What one turn of a seat does.
use Rattle.std.specs.Prelude.{◌≡◌, ℕ, List, ◌∷◌, Option, Some, None}
use Rattle.okws_base.specs.Past.{Grant, standing_by, last_by}
use Rattle.okws_base.specs.Turns.{GrowsBy}
use Rattle.okws_base.specs.declared.journal.Entry.{Entry}
use Rattle.turn_lock.specs.Seats.{SeatIs}
use Rattle.named_columns.specs.Launched.{by_entry}

-- The seat entered an event on `before`, which is what it had seen and what others entered since.
pub record Enters {E : Type 0} (event : E) (before : List (Entry E)) (old new : SeatIs (Entry E)) : Type 0 where
  pub grows : GrowsBy by_entry old.number old.seen before
  pub is : new ≡ record { lock = old.lock; number = old.number; seen = record { worker = old.number; event = event } ∷ before; held = old.held; label = old.label; olds = old.olds }

-- The seat entered nothing, and saw what others had entered.
pub record Sees {E : Type 0} (before : List (Entry E)) (old new : SeatIs (Entry E)) : Type 0 where
  pub grows : GrowsBy by_entry old.number old.seen before
  pub is : new ≡ record { lock = old.lock; number = old.number; seen = before; held = old.held; label = old.label; olds = old.olds }

-- What stands, and what was installed last, is as it was.
pub record Stays {E : Type 0} (grant : E → Grant) (J now : List (Entry E)) : Type 0 where
  pub standing : (s : ℕ) → standing_by grant now s ≡ standing_by grant J s
  pub last : (s : ℕ) → last_by grant now s ≡ last_by grant J s

-- The entries after an event of what there was, if there was any, entered under w.
abbrev pub past_after : {E : Type 0} → (ℕ → E) → ℕ → Option ℕ → List (Entry E) → List (Entry E)
past_after event w None J = J
past_after event w (Some k) J = record { worker = w; event = event k } ∷ J

-- The seat entered an event of what there was, if there was any, and else nothing.
abbrev pub EntersAny : {E : Type 0} → (ℕ → E) → Option ℕ → List (Entry E) → SeatIs (Entry E) → SeatIs (Entry E) → Type 0
EntersAny event None before old new = Sees before old new
EntersAny event (Some k) before old new = Enters (event k) before old new
