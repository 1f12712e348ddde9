-- What a turn at the launcher tells of a site: how many turns looked after a service, and how the services stand.
use Rattle.std.specs.Prelude.{◌≡◌, ℕ, zero, suc, ◌+◌, Bool, false, List, [], ◌&&◌, not, is_some, length, if◌then◌else◌}
use Rattle.okws_base.specs.declared.journal.Entry.{Entry}
use Rattle.okws_plan.specs.declared.configuration.Config.{Config}
use Rattle.okws_plan.specs.declared.event.LauncherEvent.{LauncherEvent}
use Rattle.okws_plan.specs.declared.event.OkdEvent.{OkdEvent}
use Rattle.monitor_model.specs.Standing.{up_at_okd}
use Rattle.launch_journal.specs.Launches.{given_up}
use Rattle.turn_lock.specs.Seats.{SeatIs}
use Rattle.named_columns.specs.Counts.{capped}
use Rattle.okld_launch.specs.Launchers.{LauncherIs}
use Rattle.launch_turns.specs.Deeds.{looks}
use Rattle.launch_turns.specs.Turns.{InTurn}
use Rattle.launch_turns.specs.declared.deed.Deed.{Deed}
use Rattle.launch_turns.specs.declared.looking.Standing.{Standing}

-- An incarnation of s is up, by these entries of okd.
abbrev pub stands_up : List (Entry OkdEvent) → ℕ → Bool
stands_up J s = is_some (up_at_okd J s)

-- None is, and s was given up, by these entries of the launcher.
abbrev pub stands_dead : List (Entry OkdEvent) → List (Entry LauncherEvent) → ℕ → Bool
stands_dead J L s = not (stands_up J s) && is_some (given_up L s)

-- None is, and s was not given up.
abbrev pub stands_down : List (Entry OkdEvent) → List (Entry LauncherEvent) → ℕ → Bool
stands_down J L s = not (stands_up J s) && not (is_some (given_up L s))

-- How many of the numbers below n pass a test.
abbrev pub count_below : (ℕ → Bool) → ℕ → ℕ
count_below test zero = 0
count_below test (suc n) = if test n then count_below test n + 1 else count_below test n

-- So many of the services below n are up, down or dead, by these entries of okd and of the launcher.
pub record Stands (J : List (Entry OkdEvent)) (L : List (Entry LauncherEvent)) (n : ℕ) (t : Standing) : Type 0 where
  pub up : t.up ≡ count_below (stands_up J) n
  pub down : t.down ≡ count_below (stands_down J L) n
  pub dead : t.dead ≡ count_below (stands_dead J L) n

-- A turn in which nothing is entered. It is told in how many turns a service was looked after; how the services of the site stand, by what the launcher has seen at okd and by its journal; and what it has seen there.
pub record LooksBy (C : Config) (old : SeatIs Deed) (told : ℕ) (standing : Standing) (okd : List (Entry OkdEvent)) (new : SeatIs Deed) : Type 0 where
  pub before : LauncherIs
  pub turn : InTurn C old.number old.seen before false false [] before new.seen
  pub okd_is : okd ≡ before.crew.sat.okd
  pub stands : Stands okd before.journal.past (length C.services) standing
  pub told_is : told ≡ capped (looks new.seen)
