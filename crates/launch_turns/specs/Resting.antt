-- A launcher between its turns.
use Rattle.std.specs.Prelude.{◌≡◌, ℕ, List}
use Rattle.okws_plan.specs.declared.configuration.Config.{Config}
use Rattle.okws_outer.specs.Families.{Family}
use Rattle.launch_turns.specs.Deeds.{ended_in, entries, up_in}
use Rattle.okld_launch.specs.Launchers.{LauncherIs}
use Rattle.okld_launch.specs.Pieces.{IsClosed}
use Rattle.launch_turns.specs.declared.deed.Deed.{Deed}

-- A launcher, and the turns that were taken at it.
pub record RestingIs : Type 0 where
  pub launcher : LauncherIs
  pub deeds : List Deed

-- What was entered was entered in these turns; no launch is under way; what came up, and which child has ended since `first` was told of them, is as the turns tell.
pub record Rests (C : Config) (seed : List ℕ) (first : Family) (deeds : List Deed) (l : LauncherIs) : Type 0 where
  pub entries_are : entries deeds ≡ l.journal.past
  pub closed : IsClosed C seed first (up_in deeds) (ended_in deeds) l
