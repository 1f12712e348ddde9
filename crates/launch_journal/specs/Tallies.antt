-- What is kept of each service is what the launcher's past says.
use Rattle.std.specs.Prelude.{◌≡◌, ℕ, ◌≤◌, ◌<◌, ◌+◌, true, false, List, None, ◌==◌, ◌||◌, nat_lt, if◌then◌else◌, is_some, length, slice_index_or}
use Rattle.okws_base.specs.declared.journal.Entry.{Entry}
use Rattle.okws_base.specs.declared.limit.TheConstants.{MOST_INCARNATIONS}
use Rattle.okws_plan.specs.declared.configuration.Config.{Config}
use Rattle.okws_plan.specs.declared.event.LauncherEvent.{LauncherEvent}
use Rattle.monitor_model.specs.Launcher.{LauncherLaw, begun, tried, tries, is_dead, fell}
use Rattle.launch_journal.specs.Launches.{given_up}
use Rattle.launch_journal.specs.declared.journal.Tally.{Tally}

-- What is kept of a service of which nothing was entered.
abbrev pub blank : Tally
blank = record { greatest = 0; tries = 0; fell = false; given_up = None }

-- What is kept of s.
abbrev pub tally_in : List Tally → ℕ → Tally
tally_in tallies s = slice_index_or tallies s blank

-- What the past says of s.
abbrev pub tally_of : List (Entry LauncherEvent) → ℕ → Tally
tally_of J s = record { greatest = begun J s; tries = tries J s; fell = fell J s; given_up = given_up J s }

-- What is kept of a service whose greatest incarnation has fallen: that counts as one try, however often it is told.
abbrev pub fallen : Tally → Tally
fallen t = record t { tries = if t.fell then t.tries else t.tries + 1; fell = true }

-- What a past that keeps the law says of s: only what was begun was tried, each incarnation counts as one try at most, the greatest begun was tried just where it fell, and where it didn't fall the tries let a next one begin.
pub record IsOrderly (retry : ℕ) (J : List (Entry LauncherEvent)) (s : ℕ) : Type 0 where
  pub untried : (k : ℕ) → begun J s < k → tried J s k ≡ false
  pub tried_is : tried J s (begun J s) ≡ fell J s
  pub few : tries J s ≤ begun J s
  pub fewer : fell J s ≡ false → 0 < begun J s → tries J s < begun J s
  pub again : fell J s ≡ false → (tries J s == 0) || nat_lt (tries J s) retry ≡ true
  pub some : fell J s ≡ true → 0 < tries J s
  pub dead_is : is_some (given_up J s) ≡ is_dead J s

-- What is kept of each service is what the past says, which keeps the launcher's law.
pub record Tallied (C : Config) (J : List (Entry LauncherEvent)) (tallies : List Tally) : Type 0 where
  pub services : length tallies ≡ length C.services
  pub tally_is : (s : ℕ) → tally_in tallies s ≡ tally_of J s
  pub most : (s : ℕ) → begun J s ≤ MOST_INCARNATIONS
  pub orderly : (s : ℕ) → IsOrderly C.retry J s
  pub law : LauncherLaw C J
