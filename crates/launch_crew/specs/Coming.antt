-- Which incarnations came up at okd, by what a number has entered there.
use Rattle.std.specs.Prelude.{◌≡◌, ℕ, Bool, ◌==◌, ◌&&◌, ◌||◌}
use Rattle.std.specs.List.{list_any}
use Rattle.okws_base.specs.Past.{events_of}
use Rattle.monitor_model.specs.Causes.{is_up_of}
use Rattle.site_locks.specs.Sat.{Sat}

-- From these seats it was entered that incarnation k of s is up.
abbrev pub came_up : Sat → ℕ → ℕ → Bool
came_up a s k = list_any (is_up_of s k) (events_of a.number a.okd)

-- No incarnation came up.
abbrev pub NoneCame : Sat → Sat → Type 0
NoneCame a b = (s k : ℕ) → came_up b s k ≡ came_up a s k

-- Incarnation k of s came up, and no other.
abbrev pub Came : ℕ → ℕ → Sat → Sat → Type 0
Came s k a b = (t j : ℕ) → came_up b t j ≡ (((s == t) && (k == j)) || came_up a t j)
