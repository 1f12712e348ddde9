-- When the record of a server's run is legal.
use Rattle.std.specs.Prelude.{◌≡◌, ℕ, List, length}
use Rattle.okws_plan.specs.declared.configuration.Config.{Config}
use Rattle.monitor_model.specs.declared.record.Record.{Record}
use Rattle.monitor_model.specs.Causes.{LaunchesHaveCauses}
use Rattle.monitor_model.specs.Connections.{ConnectionsAreServed}
use Rattle.monitor_model.specs.First.{LaunchesComeFirst}
use Rattle.monitor_model.specs.Launches.{LaunchesArePieces}
use Rattle.monitor_model.specs.Lawful.{JournalsAreLawful}
use Rattle.monitor_model.specs.Merged.{IsMerged, LaunchesAlone}
use Rattle.monitor_model.specs.Missing.{MissesAreTrue}
use Rattle.monitor_model.specs.Outside.{Outside}
use Rattle.monitor_model.specs.Pieces.{ListsArePieces}

-- In each journal the entries that name a worker are exactly its items of that column, in order, and so are its dialogs and Misseds in each cell. The launcher's number, which is the next after the workers', makes all Install, Revoke, Up, Down, Boot and Retired, and nothing else; no other number occurs.
pub record ListsMakeJournals (R : Record) : Type 0 where
  pub merged : IsMerged R (length R.workers)
  pub alone : LaunchesAlone R

-- The parts of legality.
pub data Part : Type 0 where
  Made Pieced Missed Lawful Served Launched Caused First : Part

-- A part of legality holds of a record.
abbrev pub Holds : Part → Config → List ℕ → Outside → Record → Type 0
Holds Made C seed T R = ListsMakeJournals R
Holds Pieced C seed T R = ListsArePieces C T R
Holds Missed C seed T R = MissesAreTrue R
Holds Lawful C seed T R = JournalsAreLawful C seed T R
Holds Served C seed T R = ConnectionsAreServed C T R
Holds Launched C seed T R = LaunchesArePieces C seed T R
Holds Caused C seed T R = LaunchesHaveCauses T R
Holds First C seed T R = LaunchesComeFirst C R

-- A record isn't legal by this part alone: it doesn't hold, and every other part does.
pub record FailsBy (part : Part) (C : Config) (seed : List ℕ) (T : Outside) (R : Record) : Type 0 where
  pub fails : Holds part C seed T R → ⊥
  pub others : (other : Part) → (other ≡ part → ⊥) → Holds other C seed T R

-- The record of a run over this configuration, with tokens of this seed, is legal by what the outside tells.
pub record IsLegal (C : Config) (seed : List ℕ) (T : Outside) (R : Record) : Type 0 where
  pub made : ListsMakeJournals R
  pub pieces : ListsArePieces C T R
  pub missed : MissesAreTrue R
  pub lawful : JournalsAreLawful C seed T R
  pub served : ConnectionsAreServed C T R
  pub launched : LaunchesArePieces C seed T R
  pub caused : LaunchesHaveCauses T R
  pub first : LaunchesComeFirst C R
