-- What the reference monitor says of a run of a script.
use Rattle.std.specs.Prelude.{◌≡◌, ◌⊎◌, ◌<◌, ◌≤◌, ℕ, ◌+◌, List, [], ◌∷◌, ◌++◌, length, reverse, Option, Some, None}
use Rattle.okws_base.specs.declared.limit.TheConstants.{LONGEST_SCRIPT}
use Rattle.okws_plan.specs.Lines.{PlaceFits}
use Rattle.okws_plan.specs.declared.configuration.Config.{Config}
use Rattle.okws_plan.specs.declared.script.Line.{Line}
use Rattle.okws_plan.specs.declared.script.Place.{Place}
use Rattle.monitor_model.specs.declared.record.Record.{Record}
use Rattle.monitor_model.specs.Answered.{AreEventsIn}
use Rattle.monitor_model.specs.Entered.{exchanges_at, entered_by}
use Rattle.monitor_model.specs.Given.{TakesAll, given_since}
use Rattle.monitor_model.specs.Legal.{IsLawful}
use Rattle.monitor_model.specs.Merged.{cell_past}
use Rattle.monitor_model.specs.Played.{record_of}
use Rattle.monitor_model.specs.Replied.{AnswersOnce}
use Rattle.monitor_model.specs.Script.{PlaysAll}
use Rattle.monitor_model.specs.Sent.{AreGivenAll, sents_of}
use Rattle.monitor_model.specs.Stage.{Stage, stand}
use Rattle.monitor_model.specs.Told.{TellsAll}
use Rattle.monitor_model.specs.Unharmed.{IsUnharmed}
use Rattle.play_script.specs.Reading.{script_reads}
use Rattle.play_script.specs.Rule.{script_rule_number}
use Rattle.play_script.specs.declared.reading.LineRead.{LineRead}
use Rattle.play_script.specs.declared.rule.ScriptRule.TheVariants as rule
use Rattle.okws_server.specs.Script.{said_by, Breaks, IsDue}
use Rattle.okws_server.specs.declared.script.Broken.{Broken}

-- The lines, one after another, lead from nothing to a state and print this; the record is that state's, and has besides what the links were given.
-- Its journals are the run's own list column by column, and each column, cell and the launcher keeps its law, with no fault of a keeper.
-- No dialog ended by a fault of its link or for want of memory.
-- Each dialog opens with the pushes of its Drain's verdict and its Request, and each frame that it heard later is the verdict of its entry; and no entry stands without its frame.
-- All that came from a service's last incarnation is what it said in whole frames and what is left on its link, or what its end left unread.
-- What is printed is all that each incarnation heard, and one answer to each request, unless its dialog wasn't begun or is open.
-- Each incarnation of a service that was booted had a link, and that was given just what it heard, to the end of the run; no other link was given anything.
pub record IsMonitored (C : Config) (seed : List ℕ) (lines : List Line) (R : Record) (printed : List ℕ) : Type 0 where
  pub stage : Stage
  pub plays : PlaysAll C seed (reverse lines) printed stage
  pub record_is : record R { sents = [] } ≡ record_of stage
  pub lawful : IsLawful C seed (λ (p : ℕ). Some 0) 0 R
  pub unharmed : IsUnharmed R
  pub answered : (s : ℕ) → AreEventsIn C R s (cell_past R s)
  pub entered : (s k : ℕ) (at : Place) → PlaceFits C at → exchanges_at C at s k R ≡ entered_by at k (cell_past R s)
  pub taken : (s : ℕ) → TakesAll (cell_past R s) (stand stage s).left (given_since (reverse lines) s)
  pub told : TellsAll C seed R printed
  pub replied : AnswersOnce C stage printed
  pub linked : length R.sents ≡ length C.services
  pub heard : (s : ℕ) → s < length C.services → AreGivenAll C seed s (cell_past R s) (sents_of R s)

-- The script is no longer than the limit, and its lines are a run.
pub record IsWholeRun (C : Config) (seed text : List ℕ) (R : Record) (printed : List ℕ) : Type 0 where
  pub fits : length text ≤ LONGEST_SCRIPT
  pub lines : List Line
  pub says : said_by (script_reads C text) ≡ Some lines
  pub monitored : IsMonitored C seed lines R printed

-- The script is refused at a line, counted from 1: the lines before it are a run, and this line breaks the rule where they end.
pub record IsRunTo (C : Config) (seed text : List ℕ) (R : Record) (printed : List ℕ) (line rule : ℕ) : Type 0 where
  pub fits : length text ≤ LONGEST_SCRIPT
  pub front : List LineRead
  pub broken : LineRead
  pub rest : List LineRead
  pub parts : script_reads C text ≡ front ++ broken ∷ rest
  pub number : line ≡ length front + 1
  pub lines : List Line
  pub says : said_by front ≡ Some lines
  pub monitored : IsMonitored C seed lines R printed
  pub breaks : Breaks broken monitored.stage rule

-- The record of a run that ended before it began.
pub record IsEmptyRecord (R : Record) : Type 0 where
  pub okd : R.okd ≡ []
  pub proxies : R.proxies ≡ []
  pub pubd : R.pubd ≡ []
  pub oklogd : R.oklogd ≡ []
  pub launchers : R.launcher ≡ []
  pub cells : R.cells ≡ []
  pub sents : R.sents ≡ []
  pub doors : R.doors ≡ []
  pub workers : R.workers ≡ []
  pub launches : R.launches ≡ []

-- The script is too long: nothing of it is played.
pub record IsTooLong (text : List ℕ) (R : Record) (printed : List ℕ) (line number : ℕ) : Type 0 where
  pub long : LONGEST_SCRIPT < length text
  pub empty : IsEmptyRecord R
  pub nothing : printed ≡ []
  pub line_is : line ≡ 0
  pub rule_is : number ≡ script_rule_number rule.TooLong

-- The script is refused at a line by a rule, after a run that printed this.
abbrev pub IsRefused : Config → List ℕ → List ℕ → Record → List ℕ → ℕ → ℕ → Type 0
IsRefused C seed text R printed line rule = IsTooLong text R printed line rule ⊎ IsRunTo C seed text R printed line rule

-- What a script's run prints as far as it comes, nothing of a script that is too long.
abbrev pub IsDueOf : Config → List ℕ → List ℕ → List ℕ → Type 0
IsDueOf C seed text due = (due ≡ []) ⊎ ((length text ≤ LONGEST_SCRIPT) × IsDue C seed text due)

-- What a script leaves: a whole run where it is broken nowhere, else a run up to where it is refused.
abbrev pub Leaves : Config → List ℕ → List ℕ → Option Broken → Record → List ℕ → Type 0
Leaves C seed text None R printed = IsWholeRun C seed text R printed
Leaves C seed text (Some found) R printed = IsRefused C seed text R printed found.line (script_rule_number found.rule)
