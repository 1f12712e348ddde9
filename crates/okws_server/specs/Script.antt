-- The script of a run, line by line, and where it is refused.
use Rattle.std.specs.Prelude.{◌≡◌, ◌⊎◌, ℕ, ◌+◌, List, [], ◌∷◌, ◌++◌, length, reverse, option_map, Option, Some, None, Result, Ok, Err}
use Rattle.std.specs.declared.alloc.AllocError.{AllocError}
use Rattle.okws_base.specs.Runs.{Each}
use Rattle.okws_plan.specs.Lines.{LineFits}
use Rattle.okws_plan.specs.declared.configuration.Config.{Config}
use Rattle.okws_plan.specs.declared.script.Line.{Line}
use Rattle.okws_outer.specs.Printing.{Printer, PrintsOn, PrintsFront}
use Rattle.monitor_model.specs.Stage.{Stage}
use Rattle.monitor_model.specs.Script.{Plays, PlaysAll, refusal}
use Rattle.play_script.specs.Reading.{script_reads}
use Rattle.play_script.specs.Rule.{script_rule_number}
use Rattle.play_script.specs.declared.rule.ScriptRule.{ScriptRule}
use Rattle.play_script.specs.declared.reading.LineRead.{LineRead}
use Rattle.play_script.specs.declared.reading.LineRead.TheVariants as read
use Rattle.okws_play.specs.Run.{Run, at_stage, IsShortLine}
use Rattle.okws_server.specs.declared.script.Broken.{Broken}

-- A line before others: a skipped one says nothing, and one that is broken has no run.
abbrev pub before_lines : LineRead → Option (List Line) → Option (List Line)
before_lines read.Skipped more = more
before_lines (read.Broken rule) more = None
before_lines (read.Says line) more = option_map (λ (lines : List Line). line ∷ lines) more

-- What lines that were read say, in order, where each is skipped or says something.
abbrev pub said_by : List LineRead → Option (List Line)
said_by [] = Some []
said_by (read ∷ more) = before_lines read (said_by more)

-- A line that was read has a short target.
abbrev pub IsShortRead : LineRead → Type 0
IsShortRead read.Skipped = Unit {0}
IsShortRead (read.Broken rule) = Unit {0}
IsShortRead (read.Says line) = IsShortLine line

-- What a line that was read makes of a state, and what it prints: a skipped one nothing, and one that is broken has no step.
abbrev pub PlaysRead : Config → List ℕ → LineRead → Stage → List ℕ → Stage → Type 0
PlaysRead C seed read.Skipped S text now = (text ≡ []) × (now ≡ S)
PlaysRead C seed (read.Broken rule) S text now = ⊥
PlaysRead C seed (read.Says line) S text now = Plays C seed line S text now

-- The rule that a line that was read breaks at a state: one of the grammar, or one that its line breaks there.
abbrev pub Breaks : LineRead → Stage → ℕ → Type 0
Breaks read.Skipped S number = ⊥
Breaks (read.Broken rule) S number = number ≡ script_rule_number rule
Breaks (read.Says line) S number = refusal line S ≡ Some number

-- The lines that were read say these, which lead from nothing to a state, and print this.
pub record HasPlayed (C : Config) (seed : List ℕ) (reads : List LineRead) (printed : List ℕ) (S : Stage) : Type 0 where
  pub lines : List Line
  pub says : said_by reads ≡ Some lines
  pub fit : Each (LineFits C) lines
  pub plays : PlaysAll C seed (reverse lines) printed S

-- A script is broken at a line, counted from 1: the lines before it lead to a state, where this line breaks the rule.
pub record IsBrokenAt (C : Config) (seed text printed : List ℕ) (S : Stage) (line rule : ℕ) : Type 0 where
  pub front : List LineRead
  pub broken : LineRead
  pub rest : List LineRead
  pub parts : script_reads C text ≡ front ++ broken ∷ rest
  pub number : line ≡ length front + 1
  pub played : HasPlayed C seed front printed S
  pub breaks : Breaks broken S rule

-- What the next of these lines prints at a state: what it does there, where it breaks no rule, or nothing.
abbrev pub PrintsNext : Config → List ℕ → List LineRead → Stage → List ℕ → Type 0
PrintsNext C seed rest S text =
    (text ≡ []) ⊎ ((line : Line) × (more : List LineRead) × (later : Stage) × (rest ≡ read.Says line ∷ more) × Plays C seed line S text later)

-- What a run of the script prints as far as it comes: some of its lines, from the first on, lead from nothing to a state and print a text; and the next one prints the last of it there.
pub record IsDue (C : Config) (seed text due : List ℕ) : Type 0 where
  pub front : List LineRead
  pub rest : List LineRead
  pub parts : script_reads C text ≡ front ++ rest
  pub lines : List Line
  pub says : said_by front ≡ Some lines
  pub printed : List ℕ
  pub stage : Stage
  pub plays : PlaysAll C seed (reverse lines) printed stage
  pub last : List ℕ
  pub next : PrintsNext C seed rest stage last
  pub due_is : due ≡ printed ++ last

-- What a line that was read makes of a run, and what is printed from one printer to another; where it breaks a rule, all is as before and nothing is printed. Where memory is refused, it breaks no rule, and a front of what it prints was printed.
abbrev pub PlayedRead : Run → LineRead → Printer → Printer → Result (Option ScriptRule) AllocError → Run → Type 0
PlayedRead run line before after (Ok None) now =
    (text : List ℕ) × PlaysRead run.config run.seed line run.stage text now.stage × (now ≡ at_stage run now.stage) × PrintsOn before after text
PlayedRead run line before after (Ok (Some rule)) now = Breaks line run.stage (script_rule_number rule) × (now ≡ run) × PrintsOn before after []
PlayedRead run line before after (Err e) now =
    (said : Line) × (text : List ℕ) × (later : Stage) × (line ≡ read.Says said) × Plays run.config run.seed said run.stage text later × PrintsFront before after text

-- What the lines of a script make of a run, up to the first that is broken, and what is printed from one printer to another. Where memory is refused, a front of what is due was printed.
abbrev pub PlayedLines : Run → List ℕ → Printer → Printer → Result (Option Broken) AllocError → Run → Type 0
PlayedLines run text before after (Ok None) now =
    (printed : List ℕ) × HasPlayed run.config run.seed (script_reads run.config text) printed now.stage × (now ≡ at_stage run now.stage) × PrintsOn before after printed
PlayedLines run text before after (Ok (Some found)) now =
    (printed : List ℕ) × IsBrokenAt run.config run.seed text printed now.stage found.line (script_rule_number found.rule) × (now ≡ at_stage run now.stage)
    × PrintsOn before after printed
PlayedLines run text before after (Err e) now = (due : List ℕ) × IsDue run.config run.seed text due × PrintsFront before after due
