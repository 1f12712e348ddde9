-- What a drill answers, and what it gives to out.
use Rattle.std.specs.Prelude.{◌≡◌, ℕ, ◌++◌, ◌∷◌, List, Ok, None, reverse, Bool, true, false}
use Rattle.std.specs.Io.KnownBytes.{Appends}
use Rattle.std.specs.declared.option.Option.{Option}
use Rattle.okws_base.specs.Runs.{Runs}
use Rattle.okws_outer.specs.Streams.{AppendsPrefix}
use Rattle.okws_plan.specs.Lines.{LineFits}
use Rattle.okws_plan.specs.declared.configuration.Config.{Config}
use Rattle.okws_plan.specs.declared.script.Line.{Line}
use Rattle.config_reader.specs.Meaning.{meaning}
use Rattle.monitor_model.specs.Script.{Plays, refusal}
use Rattle.monitor_model.specs.Stage.{Stage}
use Rattle.monitor_model.specs.declared.record.Record.{Record}
use Rattle.play_script.specs.Reading.{LineKeeps}
use Rattle.play_script.specs.Script.{drill_script}
use Rattle.play_script.specs.Summary.{summary, frames_in}
use Rattle.play_script.specs.declared.site.TheConstants.{SITE}
use Rattle.okws_play.specs.Run.{Run, IsShortLine, at_stage}
use Rattle.okws_server.specs.Ending.{Told, no_memory_line}
use Rattle.okws_server.specs.Headline.{IsMonitored, IsEmptyRecord}
use Rattle.okws_server.specs.Ran.{zero_seed}
use Rattle.okws_server.specs.declared.status.Status.{Status}
use Rattle.okws_server.specs.declared.status.Status.TheVariants as status

-- A line that a run may be given: it names what is declared, has a target and content that a request may have, and its target is short.
abbrev pub CanBePlayed : Config → Line → Type 0
CanBePlayed C line = LineFits C line × LineKeeps line × IsShortLine line

-- Lines lead a run from one state to another, and what they print is tallied.
abbrev pub Leads : Run → List Line → List ℕ → List ℕ → Run → Type 0
Leads run lines before after now =
    (text : List ℕ) × Runs (Plays run.config run.seed) run.stage (reverse lines) text now.stage × (now ≡ at_stage run now.stage) × (after ≡ before ++ text)

-- None of these lines breaks a rule where those before it have led a run.
abbrev pub GoesThrough : Run → List Line → Type 0
GoesThrough run lines =
    (front rest : List Line) (line : Line) (printed : List ℕ) (now : Stage) → lines ≡ front ++ line ∷ rest → Runs (Plays run.config run.seed) run.stage (reverse front) printed now → refusal line now ≡ None

-- The drill's site has this configuration; the drill's script is a run over it, which leaves the record; and the text is the summary of the frames that the run's lines tell of, which are just those that were heard.
pub record IsDrilled (number events : ℕ) (R : Record) (text : List ℕ) : Type 0 where
  pub config : Config
  pub means : meaning SITE.now ≡ Ok config
  pub printed : List ℕ
  pub monitored : IsMonitored config zero_seed (drill_script number events) R printed
  pub summed : text ≡ summary (frames_in monitored.told.lines)

-- What `drill` answers and gives, and the record that it leaves, the empty one where memory was refused; its script is never refused. `old` and `new` were given to out before and after, and `out_rose` says of its count of faults that it rose, or that it is as before.
abbrev pub Drilled : ℕ → ℕ → Option (List ℕ) → Option (List ℕ) → (Bool → Type 0) → Record → Status → Type 0
Drilled number events old new out_rose R status.Ok = (text : List ℕ) × IsDrilled number events R text × Appends old new text × out_rose false
Drilled number events old new out_rose R status.OutFault = out_rose true × (text : List ℕ) × IsDrilled number events R text × AppendsPrefix old new text
Drilled number events old new out_rose R status.NoMemory = IsEmptyRecord R × Told old new no_memory_line out_rose
Drilled number events old new out_rose R _ = ⊥
