-- The children of a launcher of which it is known that they have ended, and that each child that runs has its link at its service's cell.
use Rattle.std.specs.Prelude.{◌≡◌, ◌≤◌, ℕ, Bool, true, false, List, [], ◌∷◌, Option, Some, None, IsTrue, ◌==◌, ◌&&◌, ◌||◌, length, nat_le}
use Rattle.okws_outer.specs.Families.{Family}
use Rattle.okws_outer.specs.Lives.{Life}
use Rattle.okws_outer.specs.declared.children.ChildEnd.{ChildEnd}
use Rattle.monitor_model.specs.Cell.{last_booted}
use Rattle.site_cells.specs.Row.{link_at, seen_at}
use Rattle.launch_crew.specs.Crews.{CrewIs, child_of}

-- Where a child of s runs, the cell of s has its link, and it is the last incarnation that was booted there; where none runs, the cell has none.
abbrev pub Attends : ℕ → Option Life → Bool → ℕ → Type 0
Attends s None link last = link ≡ false
Attends s (Some life) link last = (life.service ≡ s) × (link ≡ true) × (life.incarnation ≡ last)

-- It is so of each service, as far as was seen.
abbrev pub Attended : CrewIs → Type 0
Attended c = (s : ℕ) → Attends s (child_of c s) (link_at c.watch s) (last_booted (seen_at c.watch s))

-- A child was finished that was incarnation k of s, and Yes was among its answers when it was asked whether it has ended, before it was stopped.
abbrev pub ended_at : ℕ → ℕ → ChildEnd → Bool
ended_at s k e = (e.service == s) && ((e.incarnation == k) && e.ended)

-- One of these was so, of which the last one was finished first, and behind which at least `old` others are.
abbrev pub ended_since : ℕ → ℕ → ℕ → List ChildEnd → Bool
ended_since old s k [] = false
ended_since old s k (e ∷ before) = (nat_le old (length before) && ended_at s k e) || ended_since old s k before

-- One of the children that were finished was so, and wasn't among the first `old` of them.
abbrev pub family_ended : ℕ → Family → ℕ → ℕ → Bool
family_ended old f s k = ended_since old s k f.finished

-- A child runs that is incarnation k, and Yes was among its answers.
abbrev pub life_ended : Option Life → ℕ → Bool
life_ended None k = false
life_ended (Some life) k = (life.incarnation == k) && life.ended

-- It is known that the child of incarnation k of s has ended: it said so, and runs, or was finished and wasn't among the first `old` that were.
abbrev pub tells_ended : ℕ → CrewIs → ℕ → ℕ → Bool
tells_ended old c s k = life_ended (child_of c s) k || family_ended old c.family s k

-- What was known of ended children still is, whichever of those that were finished by then are left out.
pub record StaysEnded (c d : CrewIs) : Type 0 where
  pub more : length c.family.finished ≤ length d.family.finished
  pub told : (old s k : ℕ) → old ≤ length c.family.finished → IsTrue (tells_ended old c s k) → IsTrue (tells_ended old d s k)
