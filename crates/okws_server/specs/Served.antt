-- What a server answers, and what it does with the objects of its run.
use Rattle.std.specs.Prelude.{◌≡◌, ◌<◌, ◌≤◌, ◌⊎◌, ⊤, ℕ, ◌+◌, Bool, true, false, ◌||◌, List, [], ◌∷◌, ◌++◌, codes, length, map, replicate, IsSome, is_some, option_map}
use Rattle.std.specs.Io.KnownBytes.{Appends}
use Rattle.std.specs.List.{list_any}
use Rattle.std.specs.declared.option.Option.{Option}
use Rattle.std.specs.declared.option.Option.TheVariants.{Some, None}
use Rattle.okws_base.specs.declared.limit.TheConstants.{MOST_DOORS}
use Rattle.command_line.specs.Asked.{Serving}
use Rattle.command_line.specs.declared.command.Connections.{Connections}
use Rattle.command_line.specs.declared.command.Connections.TheVariants.{Count, Always}
use Rattle.command_line.specs.declared.command.Server.{Server}
use Rattle.okws_outer.specs.Conns.{ConnWire}
use Rattle.okws_outer.specs.Depots.{Depot}
use Rattle.okws_outer.specs.Doors.{Entrance, new_entrance}
use Rattle.okws_outer.specs.Networks.{Net}
use Rattle.okws_outer.specs.Racks.{Rack, Misses, with_opened, with_closed}
use Rattle.okws_outer.specs.Shelf.{Reads}
use Rattle.okws_outer.specs.Streams.{AppendsPrefix, Rose}
use Rattle.okws_plan.specs.declared.configuration.Config.{Config}
use Rattle.okws_plan.specs.declared.configuration.ProxyPlan.{ProxyPlan}
use Rattle.monitor_model.specs.declared.record.Record.{Record}
use Rattle.two_worlds.specs.Agreement.{LawfulConfig}
use Rattle.site_making.specs.Keepers.{KeeperIs, AreKeepers, are_steady}
use Rattle.site_making.specs.Making.{IsServable}
use Rattle.store_keeper.specs.Depots.{Beside, GivesBack, GivesKept, HasAsked, LacksStore, with_starts}
use Rattle.store_keeper.specs.Sites.{SitesAreAlike}
use Rattle.okws_serve.specs.Runs.{Runs, StartIs}
use Rattle.okws_serve.specs.declared.outfit.Ran.{Ran}
use Rattle.okws_serve.specs.declared.outfit.TheConstants.{MOST_BEGUN}
use Rattle.okws_server.specs.Counting.{counts_text}
use Rattle.okws_server.specs.Ending.{Told, no_memory_line, read_fault_line, RoseWhere}
use Rattle.okws_server.specs.Headline.{IsEmptyRecord}
use Rattle.okws_server.specs.Ran.{GivesConfig, RefusesConfig}
use Rattle.okws_server.specs.Views.{Gear, View}
use Rattle.okws_server.specs.declared.server.TheConstants.{NOT_YET}
use Rattle.okws_server.specs.declared.status.Status.{Status}
use Rattle.okws_server.specs.declared.status.Status.TheVariants as status

-- `net fault` and LF.
abbrev pub net_fault_line : List ℕ
net_fault_line = codes "net fault" ++ 10 ∷ []

-- `store fault` and LF.
abbrev pub store_fault_line : List ℕ
store_fault_line = codes "store fault" ++ 10 ∷ []

-- `log fault` and LF.
abbrev pub log_fault_line : List ℕ
log_fault_line = codes "log fault" ++ 10 ∷ []

-- `console fault` and LF.
abbrev pub console_fault_line : List ℕ
console_fault_line = codes "console fault" ++ 10 ∷ []

-- What a server is asked for, without where it lies in memory.
abbrev pub serving_of : Server → Serving
serving_of server = record {
  config = server.config.now;
  port = server.port;
  doors = server.doors;
  connections = server.connections;
  patience = server.patience;
  store = option_map (λ s. s.now) server.store;
  log = option_map (λ s. s.now) server.log;
  audit = option_map (λ s. s.now) server.audit;
}

-- How many connections are begun at most: as many as were asked for, or, where that is as many as come, as many as may be begun.
abbrev pub limit_of : Connections → ℕ
limit_of (Count count) = count
limit_of Always = MOST_BEGUN

-- ---- the log's sink

-- The log in a run: none was wanted, and no put failed; or its sink was opened at its path, and closed when it had been given this and so many of its puts had failed; or none could be opened there, which was counted.
abbrev pub LogAt : Option (List ℕ) → Rack → Rack → Option (List ℕ) → ℕ → Bool → Type 0
LogAt None a b given faults missed = (b ≡ a) × (faults ≡ 0) × (missed ≡ false)
LogAt (Some path) a b given faults false = b ≡ with_closed path given faults (with_opened path true a)
LogAt (Some path) a b given faults true = Misses a b path

-- The log in a run that never began: none was wanted; or a sink was opened at its path and let go; or none could be opened there, which was counted.
abbrev pub LogUnused : Option (List ℕ) → Rack → Rack → Type 0
LogUnused None a b = b ≡ a
LogUnused (Some path) a b = (b ≡ with_opened path true a) ⊎ Misses a b path

-- ---- the stores

-- The site that is served of one that was read, where all keepers of the stores tell their rows if `tells`: with rows in memory that one; with rows in files one that is the same but for the rows with which its tables begin, and the same also in these where the keepers tell.
abbrev pub IsSited : Type 0 → Option (List ℕ) → Config → Config → Type 0
IsSited tells None C site = site ≡ C
IsSited tells (Some file) C site = SitesAreAlike site C × (tells → site ≡ C)

-- The keepers of these proxies were made of the file of rows, where one is asked for, for their tables.
abbrev pub Opens : Option (List ℕ) → List ProxyPlan → Depot → Depot → Type 0
Opens None plans a b = b ≡ a
Opens (Some file) plans a b = b ≡ with_starts file plans a

-- Keepers as they are given back tell what is told of them.
abbrev pub AreBeside : List KeeperIs → List Beside → Type 0
AreBeside [] [] = Unit {0}
AreBeside [] (x ∷ besides) = ⊥
AreBeside (k ∷ keepers) [] = ⊥
AreBeside (k ∷ keepers) (x ∷ besides) = (x.faults ≡ k.faults) × (x.told ≡ k.told) × AreBeside keepers besides

-- The stores of these keepers were given back, which had counted at least their faults; where one tells its rows these are its keeper's, unless the two have parted. `lost` says whether one of them has; with rows in memory none has.
abbrev pub Closes : Option (List ℕ) → List KeeperIs → Bool → Depot → Depot → Type 0
Closes None keepers lost a b = (lost ≡ false) × (b ≡ a)
Closes (Some file) keepers lost a b = (besides : List Beside) × AreBeside keepers besides × (lost ≡ list_any (λ x. x.parted) besides) × GivesBack besides a b

-- The stores of these proxies' keepers were given back as they were made, one of each.
abbrev pub Returns : Option (List ℕ) → List ProxyPlan → Depot → Depot → Type 0
Returns None plans a b = b ≡ a
Returns (Some file) plans a b = GivesKept plans a b

-- The stores were not asked for anything; or, where rows in files are asked for, keepers of these proxies were made of that file, or of some of the first of them, and the store of each was given back as it was made.
abbrev pub Asks : Option (List ℕ) → List ProxyPlan → Depot → Depot → Type 0
Asks None plans a b = b ≡ a
Asks (Some file) plans a b = HasAsked file plans a b

-- The same, and no making failed.
pub record Spares (store : Option (List ℕ)) (plans : List ProxyPlan) (a b : Depot) : Type 0 where
  pub asks : Asks store plans a b
  pub faults : b.faults ≡ a.faults

-- ---- a run

-- The server's doors were asked of the network.
abbrev pub with_listened : Serving → Net → Net
with_listened server net = record net { listened = record { port = server.port; count = server.doors; patience = server.patience } ∷ net.listened }

-- What a server may be asked for: at most so many connections and doors, and one door at least.
pub record IsServing (server : Serving) : Type 0 where
  pub limit : limit_of server.connections ≤ MOST_BEGUN
  pub some : 0 < server.doors
  pub few : server.doors ≤ MOST_DOORS

-- The same objects, but that the server's doors were asked of the network.
abbrev pub listened : Serving → Gear → Gear
listened server a = record a { net = with_listened server a.net }

-- The same objects, but that the server's doors were closed, at which nothing had come.
abbrev pub shut : Serving → Gear → Gear
shut server a = record a { net = record (a.net) { doors = replicate server.doors new_entrance } }

-- A run over doors that were open never began: they were closed, and nothing had come at them; and nothing else was touched, but that a sink may have been opened for the log.
pub record IsUntouched (server : Serving) (a b : Gear) : Type 0 where
  pub gear : b ≡ record (shut server a) { rack = b.rack }
  pub log : LogUnused server.log a.rack b.rack

-- No run began over keepers of a site's rows, and these are left of them: the server's doors were asked for and not opened, and all keepers are left as they were; or the doors were opened and closed, and no keeper is left.
abbrev pub NeverRan : {K : Type 0} → Serving → Gear → Gear → List K → List K → Type 0
NeverRan server a b keepers left = ((b ≡ listened server a) × (left ≡ keepers)) ⊎ (IsUntouched server (listened server a) b × (left ≡ []))

-- No run began, and the server's doors were not opened: they were asked for or not, and nothing else was touched but the stores. What was made of these was given back as it was made, and no making of a keeper failed.
pub record IsSpared (server : Serving) (C : Config) (a b : Gear) : Type 0 where
  pub gear : (b ≡ record a { depot = b.depot }) ⊎ (b ≡ record (listened server a) { depot = b.depot })
  pub depot : Spares server.store C.proxies a.depot b.depot

-- No run began over doors that were opened and closed: the keepers that had been made of the stores were lost, and none was given back.
pub record LosesKeepers (server : Serving) (C : Config) (a b : Gear) : Type 0 where
  pub gear : IsUntouched server (listened server a) (record b { depot = a.depot })
  pub depot : Opens server.store C.proxies a.depot b.depot

-- No call of any of these keepers has failed yet.
abbrev pub AreFresh : List KeeperIs → Type 0
AreFresh [] = Unit {0}
AreFresh (k ∷ ks) = (k.faults ≡ 0) × AreFresh ks

-- A site that can be served, and keepers of its rows, of which no call has failed yet.
pub record IsStock (C : Config) (keepers : List KeeperIs) : Type 0 where
  pub servable : IsServable C
  pub many : length keepers ≡ length C.proxies
  pub keepers_are : AreKeepers C 0 keepers
  pub fresh : AreFresh keepers

-- The same, and doors at which nothing came yet. With rows in memory no call of a keeper fails.
pub record IsGround (server : Serving) (C : Config) (keepers : List KeeperIs) (entrances : List Entrance) : Type 0 where
  pub stock : IsStock C keepers
  pub steady : server.store ≡ None → are_steady keepers ≡ true
  pub words : IsServing server
  pub new : entrances ≡ replicate server.doors new_entrance

-- A run over doors that were opened and are closed at its end, which began when no call of its keepers had failed and left these, and whose log's sink was given this at last, where it tells, and had so many puts that failed: all was as the run's contract says, and with rows in memory no call of a keeper could fail.
pub record RanOver {X : Type 0} (wire : X → ConnWire) (server : Serving) (C : Config) (seed : List ℕ) (a b : Gear) (keepers : List KeeperIs) (ran : Ran) (given : Option (List ℕ)) (faults : ℕ) : Type 0 where
  pub start : StartIs
  pub steady : server.store ≡ None → start.steady ≡ true
  pub fresh : (p : ℕ) → start.keeper_faults p ≡ 0
  pub sink : start.sink_faults ≡ 0
  pub children : start.children ≡ a.family
  pub runs : Runs wire C seed (server.doors + 1) (limit_of server.connections) start (replicate server.doors new_entrance) a.console ran
      (record { entrances = (b.net).doors; console = b.console; children = b.family; keepers = keepers; given = given; faults = faults })
  pub net : b.net ≡ record (a.net) { doors = (b.net).doors }
  pub depot : b.depot ≡ a.depot

-- The same with the log in a sink that was opened at a path, and closed.
pub record RanLogged {X : Type 0} (wire : X → ConnWire) (server : Serving) (C : Config) (seed path : List ℕ) (a b : Gear) (keepers : List KeeperIs) (ran : Ran) : Type 0 where
  pub given : Option (List ℕ)
  pub faults : ℕ
  pub over : RanOver wire server C seed a b keepers ran given faults
  pub closed : b.rack ≡ with_closed path given faults a.rack

-- The same with the log's text going nowhere, and no fault of it.
pub record RanUnlogged {X : Type 0} (wire : X → ConnWire) (server : Serving) (C : Config) (seed : List ℕ) (a b : Gear) (keepers : List KeeperIs) (ran : Ran) : Type 0 where
  pub over : RanOver wire server C seed a b keepers ran None 0
  pub rack : b.rack ≡ a.rack

-- The same with the log where the words say.
pub record RanAt {X : Type 0} (wire : X → ConnWire) (server : Serving) (C : Config) (seed : List ℕ) (a b : Gear) (keepers : List KeeperIs) (ran : Ran) (missed : Bool) : Type 0 where
  pub given : Option (List ℕ)
  pub faults : ℕ
  pub over : RanOver wire server C seed a b keepers ran given faults
  pub log : LogAt server.log a.rack b.rack given faults missed

-- The same with the doors opened for it.
pub record RanFrom {X : Type 0} (wire : X → ConnWire) (server : Serving) (C : Config) (seed : List ℕ) (a b : Gear) (keepers : List KeeperIs) (ran : Ran) (missed : Bool) : Type 0 where
  pub at : RanAt wire server C seed (record a { net = with_listened server a.net }) b keepers ran missed

-- The same of a lawful site, with the stores opened for it and given back, whose keepers had counted at least the faults of those over which it ran; `lost` says whether one of them had parted from its keeper.
pub record HasServed {X : Type 0} (wire : X → ConnWire) (tells : Type 0) (server : Serving) (C : Config) (seed : List ℕ) (a b : Gear) (ran : Ran) (missed lost : Bool) : Type 0 where
  pub site : Config
  pub sited : IsSited tells server.store C site
  pub lawful : LawfulConfig site
  pub depot : Depot
  pub opened : Opens server.store C.proxies a.depot depot
  pub keepers : List KeeperIs
  pub from : RanFrom wire server site seed (record a { depot = depot }) (record b { depot = depot }) keepers ran missed
  pub closed : Closes server.store keepers lost depot b.depot

-- How a run ends, and what is printed at its end: its counts, and a last line where the log or, else, the console failed. Where memory was refused to the run, or a store has parted from its keeper, that alone.
abbrev pub EndsAs : Ran → Bool → Bool → Option (List ℕ) → Option (List ℕ) → (Bool → Type 0) → Status → Type 0
EndsAs ran missed lost old new rose status.Ok =
    ((ran.starved || lost) ≡ false) × ((missed || ran.log_failed) ≡ false) × (ran.console_failed ≡ false) × Appends old new (counts_text ran.counts) × rose false
EndsAs ran missed lost old new rose status.OutFault =
    ((ran.starved || lost) ≡ false) × ((missed || ran.log_failed) ≡ false) × (ran.console_failed ≡ false) × rose true × AppendsPrefix old new (counts_text ran.counts)
EndsAs ran missed lost old new rose status.LogFault =
    ((ran.starved || lost) ≡ false) × ((missed || ran.log_failed) ≡ true) × Told old new (counts_text ran.counts ++ log_fault_line) rose
EndsAs ran missed lost old new rose status.ConsoleFault =
    ((ran.starved || lost) ≡ false) × ((missed || ran.log_failed) ≡ false) × (ran.console_failed ≡ true) × Told old new (counts_text ran.counts ++ console_fault_line) rose
EndsAs ran missed lost old new rose status.NoMemory = ((ran.starved || lost) ≡ true) × Told old new no_memory_line rose
EndsAs ran missed lost old new rose _ = ⊥

-- A run that never began did nothing but to tell this line.
pub record Tells (old new : Option (List ℕ)) (line : List ℕ) (rose : Bool → Type 0) (R : Record) : Type 0 where
  pub empty : IsEmptyRecord R
  pub told : Told old new line rose

-- The doors could not be opened, which was counted, and nothing else was touched.
pub record MissesDoors (server : Serving) (a b : Gear) : Type 0 where
  pub gear : b ≡ record a { net = b.net }
  pub net : b.net ≡ record (with_listened server a.net) { faults = (b.net).faults }
  pub rose : Rose (a.net).faults (b.net).faults

-- The same but for the stores, which were opened and given back as they were made.
pub record MissesPort (server : Serving) (C : Config) (a b : Gear) : Type 0 where
  pub depot : Depot
  pub opened : Opens server.store C.proxies a.depot depot
  pub doors : MissesDoors server (record a { depot = depot }) (record b { depot = depot })
  pub closed : Returns server.store C.proxies depot b.depot

-- A keeper of rows could not be made of the file that is asked for, which was counted, or the rows that are there are not sound; and nothing but the stores was touched: what was made of these was given back as it was made.
pub record MissesStore (server : Serving) (C : Config) (a b : Gear) : Type 0 where
  pub wanted : IsSome server.store
  pub gear : b ≡ record a { depot = b.depot }
  pub asked : Asks server.store C.proxies a.depot b.depot
  pub failed : LacksStore C.proxies a.depot b.depot

-- A site whose stores are open was served, and left these keepers; `lost` says whether one of them has parted from its store: the record is the run's, which ended so.
pub record ServesFrom {X : Type 0} (wire : X → ConnWire) (server : Serving) (C : Config) (seed : List ℕ) (a b : Gear) (keepers : List KeeperIs) (lost : Bool) (old new : Option (List ℕ)) (rose : Bool → Type 0) (R : Record) (how : Status) : Type 0 where
  pub ran : Ran
  pub missed : Bool
  pub from : RanFrom wire server C seed a b keepers ran missed
  pub record_is : R ≡ ran.record
  pub ends : EndsAs ran missed lost old new rose how

-- A site was served: the record is the run's, which ended so.
pub record ServesSite {X : Type 0} (wire : X → ConnWire) (tells : Type 0) (server : Serving) (C : Config) (seed : List ℕ) (a b : Gear) (old new : Option (List ℕ)) (rose : Bool → Type 0) (R : Record) (how : Status) : Type 0 where
  pub ran : Ran
  pub missed : Bool
  pub lost : Bool
  pub served : HasServed wire tells server C seed a b ran missed lost
  pub record_is : R ≡ ran.record
  pub ends : EndsAs ran missed lost old new rose how

-- The same over doors that are open, which left these keepers, of each of which it is told what it is and whether it has parted from its store; unless memory was refused before the run began, where none was left.
abbrev pub ServesOpen : {X K : Type 0} → (X → ConnWire) → Serving → Config → List ℕ → Gear → Gear → (K → KeeperIs) → (K → Bool) → List K → Option (List ℕ) → Option (List ℕ) → (Bool → Type 0) → Record → Status → Type 0
ServesOpen wire server C seed a b what parted left old new rose R how =
    ((how ≡ status.NoMemory) × IsUntouched server a b × (left ≡ []) × Tells old new no_memory_line rose R)
    ⊎ ((ran : Ran) × (missed : Bool) × RanAt wire server C seed a b (map what left) ran missed × (R ≡ ran.record) × EndsAs ran missed (list_any parted left) old new rose how)

-- What is done of a site over these keepers of its rows, of each of which it is told what it is and whether it has parted from its store, and which of them are left: its doors could not be opened; or memory was refused before the run began; or it was served.
abbrev pub ServesOver : {X K : Type 0} → (X → ConnWire) → Serving → Config → List ℕ → Gear → Gear → (K → KeeperIs) → (K → Bool) → List K → List K → Option (List ℕ) → Option (List ℕ) → (Bool → Type 0) → Record → Status → Type 0
ServesOver wire server C seed a b what parted keepers left old new rose R status.NetFault = MissesDoors server a b × (left ≡ keepers) × Tells old new net_fault_line rose R
ServesOver wire server C seed a b what parted keepers left old new rose R status.NoMemory =
    (NeverRan server a b keepers left × Tells old new no_memory_line rose R) ⊎ ServesFrom wire server C seed a b (map what left) (list_any parted left) old new rose R status.NoMemory
ServesOver wire server C seed a b what parted keepers left old new rose R how = ServesFrom wire server C seed a b (map what left) (list_any parted left) old new rose R how

-- What is done of a site that was read: its stores or its doors could not be opened; or memory was refused before the run began; or it was served.
abbrev pub ServesConfig : {X : Type 0} → (X → ConnWire) → Type 0 → Serving → Config → List ℕ → Gear → Gear → Option (List ℕ) → Option (List ℕ) → (Bool → Type 0) → Record → Status → Type 0
ServesConfig wire tells server C seed a b old new rose R status.StoreFault = MissesStore server C a b × Tells old new store_fault_line rose R
ServesConfig wire tells server C seed a b old new rose R status.NetFault = MissesPort server C a b × Tells old new net_fault_line rose R
ServesConfig wire tells server C seed a b old new rose R status.NoMemory =
    ((IsSpared server C a b ⊎ LosesKeepers server C a b) × Tells old new no_memory_line rose R) ⊎ ServesSite wire tells server C seed a b old new rose R status.NoMemory
ServesConfig wire tells server C seed a b old new rose R how = ServesSite wire tells server C seed a b old new rose R how

-- ---- the answers

-- A site that the file gives was served, or not.
pub record ServesFile {X : Type 0} (wire : X → ConnWire) (tells : Type 0) (server : Serving) (a b : View) (R : Record) (how : Status) : Type 0 where
  pub config : Config
  pub gives : GivesConfig ((a.shelf).held server.config) config
  pub reads : Reads a.shelf b.shelf (server.config ∷ []) ⊥
  pub serves : ServesConfig wire tells server config a.seed a.gear b.gear a.given b.given (RoseWhere a.faults b.faults) R how

-- A file of the record is asked for.
abbrev pub WantsAudit : Serving → Type 0
WantsAudit server = is_some server.audit ≡ true

-- What `serve` answers, and what it leaves. A file of the record is asked for in vain, which is said. Memory may be refused before the configuration is known.
abbrev pub Served : {X : Type 0} → (X → ConnWire) → Type 0 → Serving → View → View → Record → Status → Type 0
Served wire tells server a b R status.Usage =
    WantsAudit server × (b.shelf ≡ a.shelf) × (b.gear ≡ a.gear) × Tells a.given b.given NOT_YET.now (RoseWhere a.faults b.faults) R
Served wire tells server a b R status.ReadFault = Reads a.shelf b.shelf (server.config ∷ []) (⊤) × (b.gear ≡ a.gear) × Tells a.given b.given read_fault_line (RoseWhere a.faults b.faults) R
Served wire tells server a b R status.ConfigRefused =
    IsEmptyRecord R × Reads a.shelf b.shelf (server.config ∷ []) ⊥ × (b.gear ≡ a.gear) × RefusesConfig ((a.shelf).held server.config) a.given b.given (RoseWhere a.faults b.faults)
Served wire tells server a b R status.NoMemory =
    (Reads a.shelf b.shelf (server.config ∷ []) ⊥ × (b.gear ≡ a.gear) × Tells a.given b.given no_memory_line (RoseWhere a.faults b.faults) R) ⊎ ServesFile wire tells server a b R status.NoMemory
Served wire tells server a b R status.Ok = ServesFile wire tells server a b R status.Ok
Served wire tells server a b R status.StoreFault = ServesFile wire tells server a b R status.StoreFault
Served wire tells server a b R status.NetFault = ServesFile wire tells server a b R status.NetFault
Served wire tells server a b R status.LogFault = ServesFile wire tells server a b R status.LogFault
Served wire tells server a b R status.ConsoleFault = ServesFile wire tells server a b R status.ConsoleFault
Served wire tells server a b R status.OutFault = ServesFile wire tells server a b R status.OutFault
Served wire tells server a b R _ = ⊥

-- The same of its words: where they ask for a file of the record, nothing is served.
pub record ServesWords {X : Type 0} (wire : X → ConnWire) (tells : Type 0) (server : Serving) (a b : View) (R : Record) (how : Status) : Type 0 where
  pub served : Served wire tells server a b R how
  pub files : WantsAudit server → how ≡ status.Usage
