-- Pasts: lists of entries, the newest first. The rest of a list is the past before its head.
use Rattle.std.specs.Prelude.{◌≡◌, ◌≢◌, ℕ, Bool, List, [], ◌∷◌, ◌++◌, ◌==◌, Option, Some, None, if◌then◌else◌, filter, map, false, max}
use Rattle.okws_base.specs.declared.journal.Entry.{Entry}

-- What an event does to an incarnation's standing at a column.
pub data Grant : Type 0 where
  Installs : (s k : ℕ) → Grant
  Revokes : (s : ℕ) → Grant
  Leaves : Grant

-- What stands of s after an event, from what stood before it.
abbrev pub standing_after : Grant → ℕ → Option ℕ → Option ℕ
standing_after (Installs t k) s before = if t == s then Some k else before
standing_after (Revokes t) s before = if t == s then None else before
standing_after Leaves s before = before

-- The incarnation of s that stands: that of the last Install or Revoke of s, where this is an Install.
abbrev pub standing_by : {E : Type 0} → (E → Grant) → List (Entry E) → ℕ → Option ℕ
standing_by grant [] s = None
standing_by grant (e ∷ J) s = standing_after (grant e.event) s (standing_by grant J s)

-- An incarnation is there, and it is k.
abbrev pub is_just : ℕ → Option ℕ → Bool
is_just k None = false
is_just k (Some j) = j == k

-- The greatest incarnation of s that was installed after an event, from that before it.
abbrev pub last_after : Grant → ℕ → ℕ → ℕ
last_after (Installs t k) s before = if t == s then max k before else before
last_after (Revokes t) s before = before
last_after Leaves s before = before

-- The greatest incarnation of s that was installed, 0 for none.
abbrev pub last_by : {E : Type 0} → (E → Grant) → List (Entry E) → ℕ → ℕ
last_by grant [] s = 0
last_by grant (e ∷ J) s = last_after (grant e.event) s (last_by grant J s)

-- The events of one worker.
abbrev pub events_of : {E : Type 0} → ℕ → List (Entry E) → List E
events_of w J = map (λ e. e.event) (filter (λ e. e.worker == w) J)

-- None of the entries is the worker's.
abbrev pub AllForeign : {E : Type 0} → ℕ → List (Entry E) → Type 0
AllForeign w [] = Unit {0}
AllForeign w (e ∷ more) = (e.worker ≢ w) × AllForeign w more

-- Other workers made entries, and nobody else.
abbrev pub Grows : {E : Type 0} → ℕ → List (Entry E) → List (Entry E) → Type 0
Grows {E} w J now = (more : List (Entry E)) × AllForeign w more × (now ≡ more ++ J)

-- The one entry that the worker makes, on the past `before`, which is what it saw last and what others entered since.
abbrev pub Enters : {E : Type 0} → ℕ → E → List (Entry E) → List (Entry E) → List (Entry E) → Type 0
Enters w event J before now = Grows w J before × (now ≡ record { worker = w; event = event } ∷ before)
