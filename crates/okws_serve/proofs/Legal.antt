-- The record of a run is legal, with the connections of its doors.
use Rattle.std.proofs.Common.{ℕ, List, [], ◌∷◌}
use Rattle.okws_base.specs.Runs.{Each}
use Rattle.okws_plan.specs.declared.configuration.Config.{Config}
use Rattle.monitor_model.specs.declared.record.Connection.{Connection}
use Rattle.monitor_model.specs.declared.record.Record.{Record}
use Rattle.monitor_model.specs.Causes.{LaunchesHaveCauses}
use Rattle.monitor_model.specs.Columns.{WithinCount}
use Rattle.monitor_model.specs.Connections.{ConnectionsAreServed}
use Rattle.monitor_model.specs.First.{Came, ComesFirst, LaunchesComeFirst}
use Rattle.monitor_model.specs.Launches.{LaunchesArePieces, failures}
use Rattle.monitor_model.specs.Lawful.{JournalsAreLawful}
use Rattle.monitor_model.specs.Legality.{IsLegal, ListsMakeJournals}
use Rattle.monitor_model.specs.Merged.{IsMerged, IsOwn}
use Rattle.monitor_model.specs.Missing.{MissesAreTrue}
use Rattle.monitor_model.specs.Outside.{Outside}
use Rattle.monitor_model.specs.Pieces.{ListsArePieces}
use Rattle.okws_serve.proofs.Launches.{LaunchesGoSo}

-- nothing but its connections is told of a record's doors
module _ (C : Config) (seed : List ℕ) (T : Outside) (R : Record) (connections : List (List Connection)) where
  -- the record with these connections
  abbrev told : Record
  told = record R { doors = connections }

  own_told : (launcher w : ℕ) (items : List _) → IsOwn R launcher w items → IsOwn told launcher w items
  own_told launcher w items h = record { okd = h.okd; proxies = h.proxies; pubd = h.pubd; oklogd = h.oklogd; launchers = h.launchers; cells = h.cells }

  made_told : ListsMakeJournals R → ListsMakeJournals told
  made_told h = record {
    merged = record { own = λ w l. own_told _ w _ (h.merged.own w l); below = h.merged.below };
    alone = record { workers = h.alone.workers; launches = h.alone.launches };
  }

  missed_told : MissesAreTrue R → MissesAreTrue told
  missed_told h = record { missed = h.missed; shown = h.shown }

  lawful_told : JournalsAreLawful C seed T R → JournalsAreLawful C seed T told
  lawful_told h = record {
    proxies_are = h.proxies_are;
    cells_are = h.cells_are;
    cells = h.cells;
    dialogs = h.dialogs;
    launcher = h.launcher;
    okd = h.okd;
    proxies = h.proxies;
    pubd = h.pubd;
    oklogd = h.oklogd;
    faults_are = h.faults_are;
  }

  launched_told : LaunchesGoSo C seed R → WithinCount T.children (failures R) → LaunchesArePieces C seed T told
  launched_told h counted = record {
    fates = h.fates;
    ending = h.ending;
    are_fates = h.are_fates;
    list_is = h.list_is;
    ends = record { retireds = h.ends.retireds; each = h.ends.each };
    failures_are = counted;
  }

  caused_told : LaunchesHaveCauses T R → LaunchesHaveCauses T told
  caused_told h = record { lead = h.lead; told = h.told; crashed = h.crashed; caused = h.caused }

  came_told : (came : List Came) → Each (ComesFirst R) came → Each (ComesFirst told) came
  came_told [] h = tt
  came_told (one ∷ more) h = (record { up = h.0.up; boot = h.0.boot }, came_told more h.1)

  first_told : LaunchesComeFirst C R → LaunchesComeFirst C told
  first_told h = record { came = h.came; came_is = h.came_is; first = came_told h.came h.first }

  pub is_legal : ListsMakeJournals R → ListsArePieces C T told → MissesAreTrue R → JournalsAreLawful C seed T R → ConnectionsAreServed C T told → LaunchesGoSo C seed R → WithinCount T.children (failures R) → LaunchesHaveCauses T R → LaunchesComeFirst C R
      → IsLegal C seed T told
  is_legal made pieces missed lawful served launched counted caused first = record {
    made = made_told made;
    pieces = pieces;
    missed = missed_told missed;
    lawful = lawful_told lawful;
    served = served;
    launched = launched_told launched counted;
    caused = caused_told caused;
    first = first_told first;
  }
