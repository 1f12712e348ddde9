-- What is done of the words of a run.
use Rattle.std.specs.Prelude.{◌≡◌, ◌⊎◌, ◌≤◌, ⊤, ℕ, List, None, Some, Bool, true, false}
use Rattle.std.specs.Io.KnownBytes.{Appends}
use Rattle.std.specs.declared.option.Option.{Option}
use Rattle.command_line.specs.Asked.{Asked, Checks, Drills, Plays, Serves, Versions}
use Rattle.command_line.specs.Usage.{TellsUsage}
use Rattle.command_line.specs.declared.answer.TheConstants.{VERSION}
use Rattle.okws_outer.specs.Conns.{ConnWire}
use Rattle.okws_outer.specs.Streams.{AppendsPrefix}
use Rattle.monitor_model.specs.declared.record.Record.{Record}
use Rattle.play_script.specs.declared.words.TheConstants.{MOST_EVENTS}
use Rattle.okws_server.specs.Drill.{Drilled}
use Rattle.okws_server.specs.Ending.{Told, no_memory_line, RoseWhere}
use Rattle.okws_server.specs.Headline.{IsEmptyRecord}
use Rattle.okws_server.specs.Ran.{Checked, Played}
use Rattle.okws_server.specs.Served.{IsServing, ServesWords}
use Rattle.okws_server.specs.Views.{View}
use Rattle.okws_server.specs.declared.status.Status.{Status}
use Rattle.okws_server.specs.declared.status.Status.TheVariants as status

-- Memory was refused before anything was read.
abbrev pub IsStarved : View → View → Record → Status → Type 0
IsStarved a b R how = (how ≡ status.NoMemory) × IsEmptyRecord R × (b.shelf ≡ a.shelf) × (b.gear ≡ a.gear) × Told a.given b.given no_memory_line (RoseWhere a.faults b.faults)

-- The words are no command: a text was told that ends with how the program is called, and nothing was opened or started.
abbrev pub IsAnswered : View → View → Record → Status → Type 0
IsAnswered a b R how = (how ≡ status.Usage) × IsEmptyRecord R × (b.shelf ≡ a.shelf) × (b.gear ≡ a.gear) × (text : List ℕ) × TellsUsage text × Told a.given b.given text (RoseWhere a.faults b.faults)

-- The words are no command, and a text was told that ends with how the program is called; unless memory was refused.
abbrev pub Says : Option (List ℕ) → Option (List ℕ) → (Bool → Type 0) → Status → Type 0
Says old new rose status.Usage = (text : List ℕ) × TellsUsage text × Told old new text rose
Says old new rose status.NoMemory = Told old new no_memory_line rose
Says old new rose _ = ⊥

-- What telling the program's version answers and gives.
abbrev pub TellsVersion : Option (List ℕ) → Option (List ℕ) → (Bool → Type 0) → Status → Type 0
TellsVersion old new rose status.Ok = Appends old new VERSION.now × rose false
TellsVersion old new rose status.OutFault = rose true × AppendsPrefix old new VERSION.now
TellsVersion old new rose _ = ⊥

-- What is done of the words that ask for this, and how the run ends. Nothing but a server has the further objects do anything.
abbrev pub Does : {X : Type 0} → (X → ConnWire) → Type 0 → Option Asked → View → View → Record → Status → Type 0
Does wire tells None a b R how = IsAnswered a b R how
Does wire tells (Some (Checks config)) a b R how = IsEmptyRecord R × (b.gear ≡ a.gear) × Checked a.shelf b.shelf config a.given b.given (RoseWhere a.faults b.faults) how
Does wire tells (Some (Plays config script)) a b R how = (b.gear ≡ a.gear) × Played a.shelf b.shelf config script a.given b.given (RoseWhere a.faults b.faults) R how
Does wire tells (Some (Drills number events)) a b R how = (b.shelf ≡ a.shelf) × (b.gear ≡ a.gear) × Drilled number events a.given b.given (RoseWhere a.faults b.faults) R how
Does wire tells (Some (Serves server)) a b R how = ServesWords wire tells server a b R how
Does wire tells (Some Versions) a b R how = IsEmptyRecord R × (b.shelf ≡ a.shelf) × (b.gear ≡ a.gear) × TellsVersion a.given b.given (RoseWhere a.faults b.faults) how

-- What a run does that these words ask for, at whose end the seed is as it was: memory may be refused before anything is read.
abbrev pub Obeys : {X : Type 0} → (X → ConnWire) → Type 0 → Option Asked → View → View → Record → Status → Type 0
Obeys wire tells asked a b R how = (b.seed ≡ a.seed) × (IsStarved a b R how ⊎ Does wire tells asked a b R how)

-- What is asked for is within what may be: a drill's events, a server's doors and connections.
abbrev pub IsWithin : Asked → Type 0
IsWithin (Drills number events) = events ≤ MOST_EVENTS
IsWithin (Serves server) = IsServing server
IsWithin _ = ⊤
