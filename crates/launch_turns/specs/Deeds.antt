-- The launcher's journal, turn by turn, as its lock hands it on. The newest turn comes first.
use Rattle.std.specs.Prelude.{ℕ, ◌+◌, Bool, false, List, [], ◌∷◌, ◌++◌, if◌then◌else◌}
use Rattle.okws_base.specs.declared.journal.Entry.{Entry}
use Rattle.okws_plan.specs.declared.event.LauncherEvent.{LauncherEvent}
use Rattle.okld_launch.specs.Entering.{entries_of}
use Rattle.okld_launch.specs.Ups.{ends_after, ups_after}
use Rattle.launch_turns.specs.declared.deed.Deed.{Deed}

-- The turns of a lock, as its value tells them.
pub record DeedsAre : Type 0 where
  pub past : List Deed

-- The number that took the turn.
abbrev pub by_deed : Deed → ℕ
by_deed d = d.worker

-- What was entered in these turns.
abbrev pub entries : List Deed → List (Entry LauncherEvent)
entries [] = []
entries (d ∷ deeds) = entries_of d.worker d.entered ++ entries deeds

-- Incarnation k of s came up in one of these turns.
abbrev pub up_in : List Deed → ℕ → ℕ → Bool
up_in [] s k = false
up_in (d ∷ deeds) s k = ups_after d.up d.entered (up_in deeds) s k

-- The child of incarnation k of s was asked in one of these turns, and has ended.
abbrev pub ended_in : List Deed → ℕ → ℕ → Bool
ended_in [] s k = false
ended_in (d ∷ deeds) s k = ends_after d.tended d.entered (ended_in deeds) s k

-- In how many of these turns a service was looked after.
abbrev pub looks : List Deed → ℕ
looks [] = 0
looks (d ∷ deeds) = if d.tended then looks deeds + 1 else looks deeds
