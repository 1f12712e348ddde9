-- What a run does with its objects.
use Rattle.std.specs.Prelude.{◌<◌, ℕ, Bool, true, List, length}
use Rattle.std.specs.declared.option.Option.{Option}
use Rattle.std.specs.declared.option.Option.TheVariants.{Some}
use Rattle.okws_plan.specs.declared.configuration.Config.{Config}
use Rattle.okws_outer.specs.Conns.{ConnWire}
use Rattle.okws_outer.specs.Doors.{Entrance}
use Rattle.okws_outer.specs.Families.{Family}
use Rattle.monitor_model.specs.declared.record.Connection.{Connection}
use Rattle.monitor_model.specs.Booting.{BootsComeFirst}
use Rattle.monitor_model.specs.Legality.{IsLegal}
use Rattle.monitor_model.specs.Outside.{Ordered, Outside}
use Rattle.monitor_model.specs.Pieces.{is_accept_item, is_ordered}
use Rattle.okld_launch.specs.Failures.{FailuresAreTold, children_rise}
use Rattle.okld_launch.specs.Heard.{ChildrenAreTold}
use Rattle.site_run.specs.Journals.{KeepLaws, NameNumbers, AreCounts}
use Rattle.site_making.specs.Keepers.{KeeperIs}
use Rattle.site_run.specs.Closing.{WritesLog, AllKept}
use Rattle.site_run.specs.Pieced.{ended_among}
use Rattle.okws_serve.specs.Connected.{AllFinish}
use Rattle.okws_serve.specs.Doors.{ServesConsole, ServesDoors}
use Rattle.okws_serve.specs.Lived.{ListIsPieces, OrdersAreObeyed}
use Rattle.okws_serve.specs.Opened.{BeginsWithLaunches}
use Rattle.okws_serve.specs.Told.{door_rise, keeper_rise}
use Rattle.okws_serve.specs.declared.outfit.Ran.{Ran}

-- What objects are like: the doors, the console, what is told of the children, the keepers of the proxies, and the log's sink, by what it was given, where it tells, and by its count of faults.
pub record ObjectsAre : Type 0 where
  pub entrances : List Entrance
  pub console : ConnWire
  pub children : Family
  pub keepers : List KeeperIs
  pub given : Option (List ℕ)
  pub faults : ℕ

-- What a run began with: whether no call of a keeper fails, the keepers' counts by proxy, the count of the log's sink, and what was told of the children.
pub record StartIs : Type 0 where
  pub steady : Bool
  pub keeper_faults : ℕ → ℕ
  pub sink_faults : ℕ
  pub children : Family

-- What the outside tells of a run from these doors, of which orders were taken: how much the counts of its doors and keepers rose, and those of its children and their links together; that a child had ended where one was finished since the run began that was asked and had; and whether the console failed.
abbrev pub outside_of : StartIs → List Entrance → ObjectsAre → List Ordered → Bool → Outside
outside_of start doors left orders failed = record {
  doors = door_rise 0 doors left.entrances;
  keepers = keeper_rise start.keeper_faults 0 left.keepers;
  children = children_rise start.children left.children;
  ended = ended_among start.children left.children;
  orders = Some orders;
  console_failed = failed;
}

-- A run of a site with tokens of this seed, in which number n launched and at most `most` connections were begun, or as many as were begun when it was stopped, from doors and a console as they were to objects as they are then. Its record, with the connections that its doors finished, is legal by what the outside tells, and no service asks a proxy before it was installed there. It is the record in which the lives of its workers ended: door w is number w's, and the console that of the number behind them.
pub record Runs {X : Type 0} (wire : X → ConnWire) (C : Config) (seed : List ℕ) (n most : ℕ) (start : StartIs) (doors : List Entrance) (console : ConnWire) (ran : Ran) (left : ObjectsAre) : Type 0 where
  pub stopped : Option ℕ
  pub served : ServesDoors wire C n most ran.record (ended_among start.children left.children) doors left.entrances ran.counts.connections ran.starved stopped
  pub steered : ServesConsole C n ran.record (ended_among start.children left.children) (length doors) console left.console (record { stopped = stopped; failed = ran.console_failed })
  pub door_lists : (w : ℕ) → w < length doors → ListIsPieces C ran.record (ended_among start.children left.children) is_ordered w
  pub console_list : ListIsPieces C ran.record (ended_among start.children left.children) is_accept_item (length doors)
  pub orders : OrdersAreObeyed C ran.record (length doors) console left.console (record { stopped = stopped; failed = ran.console_failed })
  pub connections : List (List Connection)
  pub finish : AllFinish wire doors left.entrances connections
  pub legal : IsLegal C seed (outside_of start doors left orders.orders ran.console_failed) (record ran.record { doors = connections })
  pub booted : BootsComeFirst C seed ran.record
  pub first : BeginsWithLaunches C ran.record
  pub laws : KeepLaws C seed n ran.record
  pub numbers : NameNumbers n ran.record
  pub counts : AreCounts C ran.record ran.counts
  pub kept : AllKept C true start.steady start.keeper_faults 0 left.keepers ran.record.proxies
  pub failed : FailuresAreTold start.children ran.record.launcher left.children
  pub children : ChildrenAreTold C seed ran.record start.children left.children
  pub written : WritesLog C ran.record.oklogd left.given start.sink_faults left.faults ran.log_failed
