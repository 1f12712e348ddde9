-- The launcher's crew as contracts see it: what its number has seen and done, and its children.
use Rattle.std.specs.Prelude.{◌≡◌, ◌<◌, ◌≤◌, ℕ, false, true, List, [], Option, Some, None, IfSome, length, slice_index, slice_index_or}
use Rattle.okws_plan.specs.Configuration.{grants_at}
use Rattle.okws_plan.specs.Lines.{PlaceFits}
use Rattle.okws_plan.specs.declared.configuration.Config.{Config}
use Rattle.okws_plan.specs.declared.script.Place.{Place}
use Rattle.okws_plan.specs.declared.script.Place.TheVariants.{Proxy, Pubd, Oklogd}
use Rattle.okws_outer.specs.Families.{Family}
use Rattle.okws_outer.specs.Lives.{Life}
use Rattle.monitor_model.specs.declared.record.Own.{Own}
use Rattle.monitor_model.specs.Cell.{incarnation, last_booted}
use Rattle.monitor_model.specs.Script.{stands_of, last_at}
use Rattle.monitor_model.specs.Seen.{Seen}
use Rattle.monitor_model.specs.Standing.{up_at_okd}
use Rattle.site_cells.specs.Row.{CellsSeen, seen_at}
use Rattle.site_locks.specs.Sat.{Sat}
use Rattle.launch_crew.specs.Recorded.{Recorded}

-- The children of the services: which one runs of each, if one does, and what is told of them all.
pub record StaffIs : Type 0 where
  pub running : List (Option Life)
  pub family : Family

-- What the launcher's number has seen of the columns and of the cells, the child of each service, if one runs, what is told of the children, and its own list, with for how many items more it has room.
pub record CrewIs : Type 0 where
  pub sat : Sat
  pub watch : CellsSeen
  pub running : List (Option Life)
  pub family : Family
  pub own : List Own
  pub room : ℕ

-- The crew of these two.
abbrev pub crew_of : Recorded → StaffIs → CrewIs
crew_of r t = record { sat = r.sat; watch = r.watch; running = t.running; family = t.family; own = r.own; room = r.room }

-- The child of service s, if one runs.
abbrev pub running_at : List (Option Life) → ℕ → Option Life
running_at lives s = slice_index_or lives s None

-- The child that a crew runs for s.
abbrev pub child_of : CrewIs → ℕ → Option Life
child_of c s = running_at c.running s

-- There is a place for the child of each service, and each child is of its service.
pub record IsStaff (C : Config) (t : StaffIs) : Type 0 where
  pub running_are : length t.running ≡ length C.services
  pub named : (s : ℕ) → IfSome (running_at t.running s) (λ life. life.service ≡ s)

-- All that a number has seen of the columns.
abbrev pub whole : Sat → Seen
whole s = record { okd = s.okd; proxies = s.proxies; pubd = s.pubd; oklogd = s.oklogd; launcher = []; own = [] }

-- The incarnation of s that is up.
abbrev pub up_of : Sat → ℕ → Option ℕ
up_of a s = up_at_okd a.okd s

-- The incarnation of s that stands at a column.
abbrev pub stands_at : Sat → Place → ℕ → Option ℕ
stands_at a at s = stands_of s at (whole a)

-- The greatest incarnation of s that was installed at a column.
abbrev pub lasts_at : Sat → Place → ℕ → ℕ
lasts_at a at s = last_at s at (whole a)

-- A column of s: a proxy where it has a grant, pubd, or oklogd.
abbrev pub IsColumnOf : Config → ℕ → Place → Type 0
IsColumnOf C s (Proxy p) = (p < length C.proxies) × (grants_at C s p ≡ true)
IsColumnOf C s Pubd = Unit {0}
IsColumnOf C s Oklogd = Unit {0}

-- No incarnation of s above k was installed or booted, or stands on the board.
pub record Below (s k : ℕ) (sat : Sat) (watch : CellsSeen) : Type 0 where
  pub columns : (at : Place) → lasts_at sat at s ≤ k
  pub cell : last_booted (seen_at watch s) ≤ k
  pub board : slice_index sat.board s ≤ k

-- No incarnation of s from k on was installed or booted.
pub record Under (s k : ℕ) (c : CrewIs) : Type 0 where
  pub columns : (at : Place) → lasts_at c.sat at s < k
  pub cell : last_booted (seen_at c.watch s) < k

-- Nothing of s stands at a column.
abbrev pub NoneStands : Config → ℕ → Sat → Type 0
NoneStands C s a = (at : Place) → PlaceFits C at → stands_at a at s ≡ None

-- Nothing of s is up or stands at a column, its cell has no incarnation, and no child of it runs.
pub record IsQuiet (C : Config) (s : ℕ) (c : CrewIs) : Type 0 where
  pub up : up_of c.sat s ≡ None
  pub columns : NoneStands C s c.sat
  pub cell : incarnation (seen_at c.watch s) ≡ 0
  pub child : child_of c s ≡ None

-- Incarnation k of s stands at each column of s.
abbrev pub StandsAt : Config → ℕ → ℕ → Sat → Type 0
StandsAt C s k a = (at : Place) → IsColumnOf C s at → stands_at a at s ≡ Some k

-- A child runs as incarnation k, and wasn't stopped.
abbrev pub RunsAs : ℕ → Option Life → Type 0
RunsAs k None = ⊥
RunsAs k (Some life) = (life.incarnation ≡ k) × (life.stopped ≡ false)

-- Incarnation k of s is up: okd sends requests to it, it stands at each column of s, and its child was started and wasn't stopped.
pub record IsUp (C : Config) (s k : ℕ) (c : CrewIs) : Type 0 where
  pub up : up_of c.sat s ≡ Some k
  pub columns : StandsAt C s k c.sat
  pub child : RunsAs k (child_of c s)
