-- What the laws about scripts say of a run.
use Rattle.std.proofs.Common.{◌≡◌, ℕ, ◌<◌, ◌≤◌, List, length, reverse, refl, ap, sym, subst, inr, Option, Some, None}
use Rattle.std.specs.declared.result.Result.TheVariants.{Ok}
use Rattle.okws_base.specs.declared.limit.TheConstants.{LONGEST_SCRIPT}
use Rattle.okws_plan.specs.declared.configuration.Config.{Config}
use Rattle.okws_plan.specs.declared.script.Line.{Line}
use Rattle.okws_base.specs.Runs.{Each}
use Rattle.okws_plan.specs.Lines.{LineFits}
use Rattle.monitor_model.specs.declared.record.Record.{Record}
use Rattle.monitor_model.specs.declared.sent.Sent.{Sent}
use Rattle.monitor_model.specs.Merged.{cell_past}
use Rattle.monitor_model.specs.Sent.{AreSent, IsToldOf, sents_of}
use Rattle.monitor_model.specs.Played.{record_of, IsFaultless, RunsAreLawful, RunsAreUnharmed, RunsAreAnswered, RunsEnterAll, RunsTakeAll, RunsTellAll, RunsAnswerOnce}
use Rattle.monitor_model.specs.Stage.{Stage}
use Rattle.monitor_model.specs.Script.{PlaysAll}
use Rattle.play_script.specs.Reading.{script_reads}
use Rattle.play_script.specs.Rule.{script_rule_number}
use Rattle.okws_outer.specs.Printing.{Printer, PrintsOn}
use Rattle.okws_server.specs.Headline.{IsMonitored, IsWholeRun, IsRunTo, Leaves}
use Rattle.okws_play.specs.Run.{Run, at_stage}
use Rattle.okws_server.specs.Script.{HasPlayed, IsBrokenAt, PlayedLines}
use Rattle.okws_server.specs.declared.script.Broken.{Broken}
use Rattle.okws_server.proofs.Sents.{with_sents, lawful_still, unharmed_still, answered_still, entered_still, told_still, links_given}

-- all that the laws say of a run that played these lines
pub record Laws : Type 0 where
  pub lawful : RunsAreLawful
  pub unharmed : RunsAreUnharmed
  pub answered : RunsAreAnswered
  pub entered : RunsEnterAll
  pub taken : RunsTakeAll
  pub told : RunsTellAll
  pub replied : RunsAnswerOnce

-- what the links were given, by a record
pub record Links (C : Config) (seed : List ℕ) (R : Record) : Type 0 where
  pub many : length R.sents ≡ length C.services
  pub sent : (s : ℕ) → s < length C.services → AreSent C seed s (cell_past R s) (sents_of R s)
  pub told : (s : ℕ) → Each IsToldOf (sents_of R s)

-- the record of a state, with what the links were given
abbrev pub left_of : Stage → List (List Sent) → Record
left_of S x = with_sents x (record_of S)

-- a run of lines
pub of_stage : Laws → (C : Config) (seed : List ℕ) (lines : List Line) (printed : List ℕ) (S : Stage) (x : List (List Sent)) →
    Each (LineFits C) lines → PlaysAll C seed (reverse lines) printed S → IsFaultless S → Links C seed (left_of S x) → IsMonitored C seed lines (left_of S x) printed
of_stage laws C seed lines printed S x fit plays faultless links =
    let whole = unharmed_still x (record_of S) (laws.unharmed C seed lines printed S fit plays) in
    record {
      stage = S;
      plays = plays;
      record_is = refl;
      lawful = lawful_still x C seed (λ (p : ℕ). Some 0) 0 (record_of S) (laws.lawful C seed lines printed S fit plays faultless);
      unharmed = whole;
      answered = answered_still x C (record_of S) (laws.answered C seed lines printed S fit plays);
      entered = λ s k at fits. entered_still x C (record_of S) s k at (laws.entered C seed lines printed S fit plays s k at fits);
      taken = laws.taken C seed lines printed S fit plays;
      told = told_still x C seed (record_of S) printed (laws.told C seed lines printed S fit plays);
      replied = laws.replied C seed lines printed S fit plays;
      linked = links.many;
      heard = λ s lt. links_given C seed s (left_of S x) whole (links.sent s lt) (links.told s);
    }

whole_of : Laws → (C : Config) (seed text printed : List ℕ) (S : Stage) (x : List (List Sent)) → length text ≤ LONGEST_SCRIPT →
    HasPlayed C seed (script_reads C text) printed S → IsFaultless S → Links C seed (left_of S x) → IsWholeRun C seed text (left_of S x) printed
whole_of laws C seed text printed S x fits h faultless links =
    record { fits = fits; lines = h.lines; says = h.says; monitored = of_stage laws C seed h.lines printed S x h.fit h.plays faultless links }

refused_of : Laws → (C : Config) (seed text printed : List ℕ) (S : Stage) (x : List (List Sent)) (line rule : ℕ) → length text ≤ LONGEST_SCRIPT →
    IsBrokenAt C seed text printed S line rule → IsFaultless S → Links C seed (left_of S x) → IsRunTo C seed text (left_of S x) printed line rule
unfolding of_stage
refused_of laws C seed text printed S x line rule fits b faultless links = record {
  fits = fits;
  front = b.front;
  broken = b.broken;
  rest = b.rest;
  parts = b.parts;
  number = b.number;
  lines = b.played.lines;
  says = b.played.says;
  monitored = of_stage laws C seed b.played.lines printed S x b.played.fit b.played.plays faultless links;
  breaks = b.breaks;
}

-- the same, of what the lines of a script leave
left_by : Laws → (text : List ℕ) (found : Option Broken) (a b : Printer) (run after : Run) (x : List (List Sent)) → length text ≤ LONGEST_SCRIPT →
    PlayedLines run text a b (Ok found) after → IsFaultless after.stage → Links run.config run.seed (left_of after.stage x) →
    (printed : List ℕ) × Leaves run.config run.seed text found (left_of after.stage x) printed × PrintsOn a b printed
left_by laws text None a b run after x fits h faultless links = (h.0, whole_of laws run.config run.seed text h.0 after.stage x fits h.1 faultless links, h.3)
left_by laws text (Some found) a b run after x fits h faultless links =
    (h.0, inr (refused_of laws run.config run.seed text h.0 after.stage x found.line (script_rule_number found.rule) fits h.1 faultless links), h.3)

-- nothing but the state changed
still : (text : List ℕ) (found : Option Broken) (a b : Printer) (run after : Run) → PlayedLines run text a b (Ok found) after → after ≡ at_stage run after.stage
still text None a b run after h = h.2
still text (Some found) a b run after h = h.2

-- what the lines of a script leave, and the record of where they end
pub played_to : Laws → (C : Config) (seed text : List ℕ) (found : Option Broken) (a b : Printer) (run after : Run) (R : Record) →
    run.config ≡ C → run.seed ≡ seed → length text ≤ LONGEST_SCRIPT → PlayedLines run text a b (Ok found) after → IsFaultless after.stage → R ≡ left_of after.stage R.sents →
    Links after.config after.seed R → (printed : List ℕ) × Leaves C seed text found R printed × PrintsOn a b printed
played_to laws C seed text found a b run after R config_is seed_is fits h faultless e links =
    let same : after ≡ at_stage run after.stage = still text found a b run after h in
    let there : Links after.config after.seed (left_of after.stage R.sents) = subst (λ (r : Record). Links after.config after.seed r) e links in
    let moved : Links run.config run.seed (left_of after.stage R.sents) =
    subst (λ (D : Config). Links D run.seed (left_of after.stage R.sents)) (ap (λ (r : Run). r.config) same)
    (subst (λ (x : List ℕ). Links after.config x (left_of after.stage R.sents)) (ap (λ (r : Run). r.seed) same) there) in
    let left : (printed : List ℕ) × Leaves run.config run.seed text found (left_of after.stage R.sents) printed × PrintsOn a b printed =
    left_by laws text found a b run after R.sents fits h faultless moved in
    (left.0, subst (λ (D : Config). Leaves D seed text found R left.0) config_is (subst (λ (x : List ℕ). Leaves run.config x text found R left.0) seed_is (subst (λ (S : Record). Leaves run.config run.seed text found S left.0) (sym e) left.1)), left.2)
