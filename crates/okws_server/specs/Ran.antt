-- What a run answers, and what it gives to out.
use Rattle.std.specs.Prelude.{◌≡◌, ◌⊎◌, ⊤, ℕ, ◌+◌, Bool, List, [], ◌∷◌, ◌++◌, Result, Ok, Err, Some, None, replicate, if◌then◌else◌, true, false}
use Rattle.std.specs.declared.alloc.AllocError.{AllocError}
use Rattle.std.specs.Io.KnownBytes.{Appends}
use Rattle.std.specs.declared.option.Option.{Option}
use Rattle.okws_base.specs.declared.limit.TheConstants.{LONGEST_SCRIPT}
use Rattle.okws_outer.specs.Streams.{AppendsPrefix, Tells, IsFrontOf}
use Rattle.okws_outer.specs.Printing.{Printer, PrintsOn, PrintsFront}
use Rattle.okws_outer.specs.Shelf.{Shelf, Reads}
use Rattle.okws_plan.specs.declared.configuration.Config.{Config}
use Rattle.config_reader.specs.Meaning.{meaning}
use Rattle.config_reader.specs.RuleNumber.{rule_number}
use Rattle.config_reader.specs.declared.error.Refusal.{Refusal}
use Rattle.config_reader.specs.declared.error.ConfigError.{ConfigError}
use Rattle.config_reader.specs.declared.error.ConfigError.TheVariants as config_error
use Rattle.monitor_model.specs.declared.record.Record.{Record}
use Rattle.play_script.specs.Refusal.{config_refused, script_refused}
use Rattle.play_script.specs.Rule.{script_rule_number}
use Rattle.okws_server.specs.Ending.{Told, BreaksOff, read_fault_line, no_memory_line}
use Rattle.okws_server.specs.Headline.{IsWholeRun, IsRefused, IsEmptyRecord, IsDueOf, Leaves}
use Rattle.okws_server.specs.Listing.{listing}
use Rattle.okws_server.specs.declared.script_run.Outcome.{Outcome}
use Rattle.okws_server.specs.declared.preparing.ConfigStop.{ConfigStop}
use Rattle.okws_server.specs.declared.preparing.ConfigStop.TheVariants as config_stop
use Rattle.okws_server.specs.declared.preparing.Prepared.{Prepared}
use Rattle.okws_server.specs.declared.preparing.Stop.{Stop}
use Rattle.okws_server.specs.declared.preparing.Stop.TheVariants as stop
use Rattle.okws_server.specs.declared.script.Broken.{Broken}
use Rattle.okws_server.specs.declared.status.Status.{Status}
use Rattle.okws_server.specs.declared.status.Status.TheVariants as status

-- The seed of the tokens of `play`: 32 zero bytes.
abbrev pub zero_seed : List ℕ
zero_seed = replicate 32 0

-- How a run ends that printed all that was due, unless out has stopped.
abbrev pub out_status : Bool → Status
out_status stopped = if stopped then status.OutFault else status.Ok

-- ---- the configuration

-- Some text gives this configuration, the told one where the file tells.
abbrev pub GivesConfig : Option (List ℕ) → Config → Type 0
GivesConfig told C = (text : List ℕ) × Tells told text × (meaning text ≡ Ok C)

-- Some text is refused so, the told one where the file tells.
abbrev pub IsRefusedBy : Option (List ℕ) → Refusal → Type 0
IsRefusedBy told refusal = (text : List ℕ) × Tells told text × (meaning text ≡ Err refusal)

-- The configuration is refused, and the last line says where.
abbrev pub RefusesConfig : Option (List ℕ) → Option (List ℕ) → Option (List ℕ) → (Bool → Type 0) → Type 0
RefusesConfig told old new out_rose =
    (refusal : Refusal) × IsRefusedBy told refusal × Told old new (config_refused refusal.line (rule_number refusal.rule)) out_rose

-- What telling where a configuration is refused answers and gives.
abbrev pub TellsRefusal : Refusal → Option (List ℕ) → Option (List ℕ) → (Bool → Type 0) → Status → Type 0
TellsRefusal refusal old new out_rose status.ConfigRefused = Told old new (config_refused refusal.line (rule_number refusal.rule)) out_rose
TellsRefusal refusal old new out_rose status.NoMemory = Told old new no_memory_line out_rose
TellsRefusal refusal old new out_rose _ = ⊥

-- Why a file that was read gave no configuration.
abbrev pub stop_of : ConfigError → ConfigStop
stop_of (config_error.Refused refusal) = config_stop.Refused refusal
stop_of config_error.NoMemory = config_stop.NoMemory

-- What reading a configuration answers, from what is told of its text.
abbrev pub ReadsConfig : Option (List ℕ) → Result Config ConfigStop → Type 0
ReadsConfig told (Ok C) = GivesConfig told C
ReadsConfig told (Err config_stop.ReadFault) = ⊤
ReadsConfig told (Err (config_stop.Refused refusal)) = IsRefusedBy told refusal
ReadsConfig told (Err config_stop.NoMemory) = ⊤

-- ---- the files in their order

-- The first file alone was opened, or, where it gives a configuration, the second one too; and this fault is counted.
abbrev pub ReadsInOrder : Shelf → Shelf → List ℕ → List ℕ → Type 0 → Type 0
ReadsInOrder before after config script fault =
    Reads before after (config ∷ []) fault ⊎ (((C : Config) × GivesConfig (before.held config) C) × Reads before after (script ∷ config ∷ []) fault)

-- What is known before a script is played.
abbrev pub IsPrepared : Shelf → Shelf → List ℕ → List ℕ → Result Prepared Stop → Type 0
IsPrepared before after config script (Ok both) =
    GivesConfig (before.held config) both.config × IsFrontOf (before.held script) (LONGEST_SCRIPT + 1) both.script.items × Reads before after (script ∷ config ∷ []) ⊥
IsPrepared before after config script (Err stop.ReadFault) = ReadsInOrder before after config script ⊤
IsPrepared before after config script (Err (stop.Refused refusal)) = IsRefusedBy (before.held config) refusal × Reads before after (config ∷ []) ⊥
IsPrepared before after config script (Err stop.NoMemory) = ReadsInOrder before after config script ⊥

-- ---- check

-- What listing a configuration's queries answers and gives.
abbrev pub Lists : Config → Option (List ℕ) → Option (List ℕ) → (Bool → Type 0) → Status → Type 0
Lists C old new out_rose status.Ok = Appends old new (listing C) × out_rose false
Lists C old new out_rose status.OutFault = out_rose true × AppendsPrefix old new (listing C)
Lists C old new out_rose status.NoMemory = BreaksOff old new (listing C) out_rose
Lists C old new out_rose _ = ⊥

-- A configuration that the file gives is listed.
abbrev pub ListsFile : Shelf → Shelf → List ℕ → Option (List ℕ) → Option (List ℕ) → (Bool → Type 0) → Status → Type 0
ListsFile before after path old new out_rose how = (C : Config) × GivesConfig (before.held path) C × Reads before after (path ∷ []) ⊥ × Lists C old new out_rose how

-- What `check` answers and gives: `old` and `new` were given to out before and after, and `out_rose` says of its count of faults that it rose, or that it is as before.
abbrev pub Checked : Shelf → Shelf → List ℕ → Option (List ℕ) → Option (List ℕ) → (Bool → Type 0) → Status → Type 0
Checked before after path old new out_rose status.Ok = ListsFile before after path old new out_rose status.Ok
Checked before after path old new out_rose status.OutFault = ListsFile before after path old new out_rose status.OutFault
Checked before after path old new out_rose status.ConfigRefused = Reads before after (path ∷ []) ⊥ × RefusesConfig (before.held path) old new out_rose
Checked before after path old new out_rose status.ReadFault = Reads before after (path ∷ []) ⊤ × Told old new read_fault_line out_rose
Checked before after path old new out_rose status.NoMemory =
    (Reads before after (path ∷ []) ⊥ × Told old new no_memory_line out_rose) ⊎ ListsFile before after path old new out_rose status.NoMemory
Checked before after path old new out_rose _ = ⊥

-- ---- play

-- What playing a script leaves, and what is printed from one printer to another: where memory was refused, a front of what is due.
abbrev pub PlaysText : Config → List ℕ → Printer → Printer → Result Outcome AllocError → Type 0
PlaysText C text before after (Ok outcome) = (printed : List ℕ) × Leaves C zero_seed text outcome.broken outcome.record printed × PrintsOn before after printed
PlaysText C text before after (Err e) = (due : List ℕ) × IsDueOf C zero_seed text due × PrintsFront before after due

-- How a run ends whose script was played: where it is broken nowhere by whether out has stopped; else with the last line that says where, or that memory was refused.
abbrev pub Ends : Option Broken → Printer → Printer → Status → Type 0
Ends None before after how = PrintsOn before after [] × (how ≡ out_status after.stopped)
Ends (Some found) before after how =
    ((how ≡ status.ScriptRefused) × PrintsOn before after (script_refused found.line (script_rule_number found.rule)))
    ⊎ ((how ≡ status.NoMemory) × PrintsOn before after no_memory_line)

-- What playing a script of this text answers and gives, and the record that it leaves: the empty one where memory was refused, whatever was played.
abbrev pub Plays : Config → List ℕ → Option (List ℕ) → Option (List ℕ) → (Bool → Type 0) → Record → Status → Type 0
Plays C text old new out_rose R status.Ok = (printed : List ℕ) × IsWholeRun C zero_seed text R printed × Appends old new printed × out_rose false
Plays C text old new out_rose R status.OutFault = out_rose true × (printed : List ℕ) × IsWholeRun C zero_seed text R printed × AppendsPrefix old new printed
Plays C text old new out_rose R status.ScriptRefused =
    (printed : List ℕ) × (line rule : ℕ) × IsRefused C zero_seed text R printed line rule × Told old new (printed ++ script_refused line rule) out_rose
Plays C text old new out_rose R status.NoMemory = IsEmptyRecord R × (due : List ℕ) × IsDueOf C zero_seed text due × BreaksOff old new due out_rose
Plays C text old new out_rose R _ = ⊥

-- A script that its file gives is played by the configuration that its file gives.
abbrev pub PlaysFiles : Shelf → Shelf → List ℕ → List ℕ → Option (List ℕ) → Option (List ℕ) → (Bool → Type 0) → Record → Status → Type 0
PlaysFiles before after config script old new out_rose R how =
    (C : Config) × GivesConfig (before.held config) C × (text : List ℕ) × Tells (before.held script) text × Reads before after (script ∷ config ∷ []) ⊥ × Plays C text old new out_rose R how

-- What `play` answers and gives, and the record that it leaves: `old` and `new` were given to out before and after, and `out_rose` says of its count of faults that it rose, or that it is as before.
abbrev pub Played : Shelf → Shelf → List ℕ → List ℕ → Option (List ℕ) → Option (List ℕ) → (Bool → Type 0) → Record → Status → Type 0
Played before after config script old new out_rose R status.Ok = PlaysFiles before after config script old new out_rose R status.Ok
Played before after config script old new out_rose R status.OutFault = PlaysFiles before after config script old new out_rose R status.OutFault
Played before after config script old new out_rose R status.ScriptRefused = PlaysFiles before after config script old new out_rose R status.ScriptRefused
Played before after config script old new out_rose R status.ConfigRefused = IsEmptyRecord R × Reads before after (config ∷ []) ⊥ × RefusesConfig (before.held config) old new out_rose
Played before after config script old new out_rose R status.ReadFault = IsEmptyRecord R × ReadsInOrder before after config script ⊤ × Told old new read_fault_line out_rose
Played before after config script old new out_rose R status.NoMemory =
    (IsEmptyRecord R × ReadsInOrder before after config script ⊥ × Told old new no_memory_line out_rose) ⊎ PlaysFiles before after config script old new out_rose R status.NoMemory
Played before after config script old new out_rose R _ = ⊥
