-- What a script's run leaves, and when it is a run of the script.
use Rattle.std.specs.Prelude.{◌≡◌, ℕ, List, [], ◌∷◌, Option, Some, None, map, reverse}
use Rattle.okws_base.specs.Runs.{Each}
use Rattle.okws_plan.specs.declared.configuration.Config.{Config}
use Rattle.okws_plan.specs.declared.script.Line.{Line}
use Rattle.monitor_model.specs.declared.record.CellEvent.{CellEvent}
use Rattle.monitor_model.specs.declared.record.CellEvent.TheVariants as cell
use Rattle.monitor_model.specs.declared.record.Record.{Record}
use Rattle.monitor_model.specs.Stage.{Stage, Stand, Opened, stand}
use Rattle.monitor_model.specs.Script.{PlaysAll, refusal}
use Rattle.okws_plan.specs.declared.script.Place.{Place}
use Rattle.monitor_model.specs.Entered.{exchanges_at, entered_by}
use Rattle.okws_plan.specs.Lines.{LineFits, PlaceFits}
use Rattle.monitor_model.specs.Seen.{proxy_past}
use Rattle.monitor_model.specs.Columns.{faults}
use Rattle.monitor_model.specs.Legal.{IsLawful}
use Rattle.monitor_model.specs.Unharmed.{IsUnharmed}
use Rattle.monitor_model.specs.Told.{TellsAll}
use Rattle.monitor_model.specs.Replied.{AnswersOnce}
use Rattle.monitor_model.specs.Given.{TakesAll, given_since}
use Rattle.monitor_model.specs.Answered.{AreEventsIn}
use Rattle.monitor_model.specs.Merged.{cell_past}

-- A cell's journal, with its open dialog, if any, as the last event.
abbrev pub with_open : Option Opened → List CellEvent → List CellEvent
with_open None J = J
with_open (Some opened) J = cell.Speaking 0 opened.items ∷ J

-- The record of a state: the journals, each cell with its open dialog, if any, as its last, no doors, and one list; of links a state tells nothing.
abbrev pub record_of : Stage → Record
record_of S = record {
  okd = S.seen.okd;
  proxies = S.seen.proxies;
  pubd = S.seen.pubd;
  oklogd = S.seen.oklogd;
  launcher = S.seen.launcher;
  cells = map (λ (there : Stand). with_open there.open_dialog there.past) S.stands;
  sents = [];
  doors = [];
  workers = S.seen.own ∷ [];
  launches = [];
}

-- A record and what was printed are a run of a script, its lines in order: line by line its events, and what each prints; and the record is lawful, with no fault of a keeper.
pub record IsPlayed (C : Config) (seed : List ℕ) (lines : List Line) (R : Record) (printed : List ℕ) : Type 0 where
  pub stage : Stage
  pub plays : PlaysAll C seed (reverse lines) printed stage
  pub record_is : R ≡ record_of stage
  pub lawful : IsLawful C seed (λ (p : ℕ). Some 0) 0 R

-- A run that is refused at a line: the lines before it are a run, and this line breaks the rule where they end.
abbrev pub IsStopped : Config → List ℕ → List Line → Line → ℕ → Record → List ℕ → Type 0
IsStopped C seed lines next rule R printed = (played : IsPlayed C seed lines R printed) × (refusal next played.stage ≡ Some rule)

-- A run that is refused at a line played the lines before it, and the next one breaks this rule.
abbrev pub IsRefusedAt : Config → List ℕ → List Line → Line → ℕ → List ℕ → Stage → Type 0
IsRefusedAt C seed lines line rule printed now = PlaysAll C seed lines printed now × (refusal line now ≡ Some rule)

-- No Call is marked Fault.
abbrev pub IsFaultless : Stage → Type 0
IsFaultless stage = (p : ℕ) → faults (proxy_past stage.seen.proxies p) ≡ 0

-- What holds of each run of a script whose lines name what is declared.
abbrev pub OfEachRun : (Config → List ℕ → List Line → List ℕ → Stage → Type 0) → Type 0
OfEachRun P = (C : Config) (seed : List ℕ) (lines : List Line) (printed : List ℕ) (stage : Stage) → Each (LineFits C) lines → PlaysAll C seed (reverse lines) printed stage → P C seed lines printed stage

-- The record of a run is lawful, where no Call is marked Fault.
abbrev pub RunsAreLawful : Type 0
RunsAreLawful = OfEachRun (λ C seed lines printed stage. IsFaultless stage → IsLawful C seed (λ (p : ℕ). Some 0) 0 (record_of stage))

-- Where no Call is marked Fault, the run and its record are a run of the script.
abbrev pub RunsArePlayed : Type 0
RunsArePlayed = OfEachRun (λ C seed lines printed stage. IsFaultless stage → IsPlayed C seed lines (record_of stage) printed)

-- No dialog of a run ends by a fault of its link or for want of memory, and no item of its list is NoMemory.
abbrev pub RunsAreUnharmed : Type 0
RunsAreUnharmed = OfEachRun (λ C seed lines printed stage. IsUnharmed (record_of stage))

-- What a run prints tells all that each incarnation heard, and nothing that it didn't.
abbrev pub RunsTellAll : Type 0
RunsTellAll = OfEachRun (λ C seed lines printed stage. TellsAll C seed (record_of stage) printed)

-- Each frame that was heard in each dialog of a run is what the verdict of its entry in the run's journals says.
abbrev pub RunsAreAnswered : Type 0
RunsAreAnswered = OfEachRun (λ C seed lines printed stage. (s : ℕ) → AreEventsIn C (record_of stage) s (cell_past (record_of stage) s))

-- What the last incarnation that was booted said, in whole frames, and what is left on its link, is all that came from it; after the incarnation nothing is left, and all that came is what it said, and what its end left unread.
abbrev pub RunsTakeAll : Type 0
RunsTakeAll = OfEachRun (λ C seed lines printed stage. (s : ℕ) → TakesAll (cell_past (record_of stage) s) (stand stage s).left (given_since (reverse lines) s))

-- What an incarnation's entries at a column ask, and what the monitor's verdicts on them are, is just what its dialogs said to the column and heard, but for what was answered by NoMemory, in order.
abbrev pub RunsEnterAll : Type 0
RunsEnterAll = OfEachRun (λ C seed lines printed stage. (s k : ℕ) (at : Place) → PlaceFits C at →
    exchanges_at C at s k (record_of stage) ≡ entered_by at k (cell_past (record_of stage) s))

-- Each request of a run is answered once, unless its dialog wasn't begun or is open.
abbrev pub RunsAnswerOnce : Type 0
RunsAnswerOnce = OfEachRun (λ C seed lines printed stage. AnswersOnce C stage printed)
