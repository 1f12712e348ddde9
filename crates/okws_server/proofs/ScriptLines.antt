-- How the lines of a script follow one another.
use Rattle.std.proofs.Common.{◌≡◌, ◌∙◌, ℕ, ◌+◌, List, [], ◌∷◌, ◌++◌, length, Option, Some, None, option_map, refl, sym, ap, subst, arith, append_assoc, append-nil, inl, inr}
use Rattle.std.proofs.lemmas.List.{reverse-append}
use Rattle.std.proofs.lemmas.Grind.{common_steps}
use Rattle.std.specs.declared.result.Result.{Result}
use Rattle.std.specs.declared.result.Result.TheVariants.{Ok, Err}
use Rattle.std.specs.declared.alloc.AllocError.{AllocError}
use Rattle.okws_base.specs.Runs.{Each}
use Rattle.okws_plan.specs.Lines.{LineFits}
use Rattle.okws_plan.specs.declared.configuration.Config.{Config}
use Rattle.okws_plan.specs.declared.script.Line.{Line}
use Rattle.monitor_model.specs.Stage.{Stage, first_stage}
use Rattle.monitor_model.specs.Script.{Plays}
use Rattle.play_script.specs.Reading.{ReadFits, script_reads}
use Rattle.play_script.specs.Rule.{script_rule_number}
use Rattle.play_script.specs.declared.reading.LineRead.{LineRead}
use Rattle.play_script.specs.declared.reading.LineRead.TheVariants as read
use Rattle.play_script.specs.declared.rule.ScriptRule.{ScriptRule}
use Rattle.okws_outer.specs.Printing.{Printer, PrintsOn, PrintsFront}
use Rattle.okws_outer.proofs.Printed.{then_on, whole_front, front_then}
use Rattle.okws_play.specs.Run.{Run, at_stage}
use Rattle.okws_play.specs.Played.{PlayedLine}
use Rattle.okws_server.specs.Script.{said_by, PlaysRead, Breaks, HasPlayed, IsBrokenAt, IsDue, PlayedRead, PlayedLines}
use Rattle.okws_server.specs.declared.script.Broken.{Broken}

-- what holds of all and of one more
each_more : {A : Type 0} (P : A → Type 0) (xs : List A) (x : A) → Each P xs → P x → Each P (xs ++ x ∷ [])
each_more P [] x all one = (one, all)
each_more P (y ∷ ys) x all one = (all.0, each_more P ys x all.1 one)

-- what a line says before others
said_before : (o : Option (List Line)) (p : Option (List Line)) (line one : Line) (lines : List Line) →
    ((rest : List Line) → o ≡ Some rest → p ≡ Some (rest ++ one ∷ [])) →
    option_map (λ (more : List Line). line ∷ more) o ≡ Some lines → option_map (λ (more : List Line). line ∷ more) p ≡ Some (lines ++ one ∷ [])
said_before None p line one lines later e = absurd (cc)
said_before (Some rest) p line one lines later e =
    let same : line ∷ rest ≡ lines = cc in
    rw (← same) (rw (later rest refl) refl)

-- a line more that says something
said_more : (reads : List LineRead) (one : Line) (lines : List Line) → said_by reads ≡ Some lines → said_by (reads ++ read.Says one ∷ []) ≡ Some (lines ++ one ∷ [])
said_more [] one lines e =
    let same : [] ≡ lines = cc in
    rw (← same) refl
said_more (read.Skipped ∷ more) one lines e = said_more more one lines e
said_more (read.Broken rule ∷ more) one lines e = absurd (cc)
said_more (read.Says line ∷ more) one lines e =
    said_before (said_by more) (said_by (more ++ read.Says one ∷ [])) line one lines (λ rest f. said_more more one rest f) e

said_same : (o p : Option (List Line)) (line : Line) (lines : List Line) → ((rest : List Line) → o ≡ Some rest → p ≡ Some rest) →
    option_map (λ (more : List Line). line ∷ more) o ≡ Some lines → option_map (λ (more : List Line). line ∷ more) p ≡ Some lines
said_same None p line lines later e = absurd (cc)
said_same (Some rest) p line lines later e = rw (later rest refl) e

-- a line more that is skipped
said_skipped : (reads : List LineRead) (lines : List Line) → said_by reads ≡ Some lines → said_by (reads ++ read.Skipped ∷ []) ≡ Some lines
said_skipped [] lines e = e
said_skipped (read.Skipped ∷ more) lines e = said_skipped more lines e
said_skipped (read.Broken rule ∷ more) lines e = absurd (cc)
said_skipped (read.Says line ∷ more) lines e = said_same (said_by more) (said_by (more ++ read.Skipped ∷ [])) line lines (λ rest f. said_skipped more rest f) e

-- nothing was played of no lines
pub played_none : (C : Config) (seed : List ℕ) → HasPlayed C seed [] [] (first_stage C)
played_none C seed = record { lines = []; says = refl; fit = tt; plays = (refl, refl) }

-- a line more was played
pub played_more : (C : Config) (seed : List ℕ) (reads : List LineRead) (one : LineRead) (printed text : List ℕ) (S now : Stage) →
    HasPlayed C seed reads printed S → ReadFits C one → PlaysRead C seed one S text now → HasPlayed C seed (reads ++ one ∷ []) (printed ++ text) now
played_more C seed reads read.Skipped printed text S now h fits step = record {
  lines = h.lines;
  says = said_skipped reads h.lines h.says;
  fit = h.fit;
  plays = rw step.0 (rw step.1 (rw (append-nil printed) h.plays));
}
played_more C seed reads (read.Broken rule) printed text S now h fits step = absurd step
played_more C seed reads (read.Says line) printed text S now h fits step = record {
  lines = h.lines ++ line ∷ [];
  says = said_more reads line h.lines h.says;
  fit = each_more (LineFits C) h.lines line h.fit fits;
  plays = rw (reverse-append h.lines (line ∷ [])) (S, printed, text, h.plays, step, refl);
}

-- where no rule is broken
pub read_on : (run after : Run) (one : LineRead) (a b : Printer) (found : Option ScriptRule) → found ≡ None → PlayedRead run one a b (Ok found) after →
    PlayedRead run one a b (Ok None) after
read_on run after one a b found e h = subst (λ (o : Option ScriptRule). PlayedRead run one a b (Ok o) after) e h

-- how far a run has come: it played these lines that were read, which print this, and the rest of the script is still to be read
pub record ComesTo (C : Config) (first run : Run) (whole rest : List LineRead) (n : ℕ) (a b : Printer) : Type 0 where
  pub reads : List LineRead
  pub printed : List ℕ
  pub parts : whole ≡ reads ++ rest
  pub number : n ≡ length reads
  pub played : HasPlayed C first.seed reads printed run.stage
  pub same : run ≡ at_stage first run.stage
  pub on : PrintsOn a b printed

-- the line that comes next was read
pub reads_on : (C : Config) (first run : Run) (whole rest next : List LineRead) (n : ℕ) (a b : Printer) → rest ≡ next → ComesTo C first run whole rest n a b → ComesTo C first run whole next n a b
reads_on C first run whole rest next n a b e i = subst (λ (r : List LineRead). ComesTo C first run whole r n a b) e i

-- the lines so far, with a line more
pub lines_more : (C : Config) (first run after : Run) (whole more : List LineRead) (one : LineRead) (n : ℕ) (a b c : Printer) →
    first.config ≡ C → ComesTo C first run whole (one ∷ more) n a b → ReadFits C one → PlayedRead run one b c (Ok None) after → ComesTo C first after whole more (n + 1) a c
lines_more C first run after whole more one n a b c config_is i fits step =
    let config_at : run.config ≡ C = ap (λ (r : Run). r.config) i.same ∙ config_is in
    let seed_at : run.seed ≡ first.seed = ap (λ (r : Run). r.seed) i.same in
    let plays : PlaysRead C first.seed one run.stage step.0 after.stage = subst (λ (D : Config). PlaysRead D first.seed one run.stage step.0 after.stage) config_at (subst (λ (x : List ℕ). PlaysRead run.config x one run.stage step.0 after.stage) seed_at step.1) in
    record {
      reads = i.reads ++ one ∷ [];
      printed = i.printed ++ step.0;
      parts = i.parts ∙ sym (append_assoc i.reads (one ∷ []) more);
      number = grind (arith, common_steps, i.number);
      played = played_more C first.seed i.reads one i.printed step.0 run.stage after.stage i.played fits plays;
      same = step.2 ∙ ap (λ (r : Run). at_stage r after.stage) i.same;
      on = then_on a b c i.printed step.0 i.on step.3;
    }

-- what is due of lines that were played
due_of : (C : Config) (seed text printed : List ℕ) (front rest : List LineRead) (S : Stage) → script_reads C text ≡ front ++ rest → HasPlayed C seed front printed S → IsDue C seed text printed
due_of C seed text printed front rest S parts h = record {
  front = front;
  rest = rest;
  parts = parts;
  lines = h.lines;
  says = h.says;
  printed = printed;
  stage = S;
  plays = h.plays;
  last = [];
  next = inl refl;
  due_is = sym (append-nil printed);
}

-- memory was refused in the next line
pub breaks_within : (C : Config) (first run after : Run) (text : List ℕ) (more : List LineRead) (one : LineRead) (n : ℕ) (a b c : Printer) (e : AllocError) → first.config ≡ C →
    ComesTo C first run (script_reads C text) (one ∷ more) n a b → PlayedRead run one b c (Err e) after → (due : List ℕ) × IsDue first.config first.seed text due × PrintsFront a c due
breaks_within C first run after text more one n a b c e config_is i step =
    let config_at : run.config ≡ C = ap (λ (r : Run). r.config) i.same ∙ config_is in
    let seed_at : run.seed ≡ first.seed = ap (λ (r : Run). r.seed) i.same in
    let does : Plays C first.seed step.0 run.stage step.1 step.2 = subst (λ (D : Config). Plays D first.seed step.0 run.stage step.1 step.2) config_at (subst (λ (x : List ℕ). Plays run.config x step.0 run.stage step.1 step.2) seed_at step.4) in
    let due : IsDue C first.seed text (i.printed ++ step.1) = record {
      front = i.reads;
      rest = one ∷ more;
      parts = i.parts;
      lines = i.played.lines;
      says = i.played.says;
      printed = i.printed;
      stage = run.stage;
      plays = i.played.plays;
      last = step.1;
      next = inr (step.0, more, step.2, ap (λ (l : LineRead). l ∷ more) step.3, does);
      due_is = refl;
    } in
    (i.printed ++ step.1, subst (λ (D : Config). IsDue D first.seed text (i.printed ++ step.1)) (sym config_is) due, front_then a b c i.printed step.1 i.on step.5)

-- what is due of lines that were played to their end, or up to one that is broken
pub due_played : (run after : Run) (text : List ℕ) (found : Option Broken) (a b : Printer) → PlayedLines run text a b (Ok found) after →
    (due : List ℕ) × IsDue run.config run.seed text due × PrintsFront a b due
due_played run after text None a b h =
    (h.0, due_of run.config run.seed text h.0 (script_reads run.config text) [] after.stage (sym (append-nil (script_reads run.config text))) h.1, rw (append-nil h.0) at (whole_front a b h.0 [] h.3))
due_played run after text (Some found) a b h =
    (h.0, due_of run.config run.seed text h.0 h.1.front (h.1.broken ∷ h.1.rest) after.stage h.1.parts h.1.played, rw (append-nil h.0) at (whole_front a b h.0 [] h.3))

-- the next line breaks a rule
pub lines_broken : (C : Config) (first run after : Run) (text : List ℕ) (more : List LineRead) (one : LineRead) (n : ℕ) (rule : ScriptRule) (found : Option ScriptRule) (a b c : Printer) →
    first.config ≡ C → found ≡ Some rule → ComesTo C first run (script_reads C text) (one ∷ more) n a b → PlayedRead run one b c (Ok found) after →
    (printed : List ℕ) × IsBrokenAt first.config first.seed text printed after.stage (n + 1) (script_rule_number rule) × (after ≡ at_stage first after.stage) × PrintsOn a c printed
lines_broken C first run after text more one n rule found a b c config_is e i h =
    let step : Breaks one run.stage (script_rule_number rule) × (after ≡ run) × PrintsOn b c [] = subst (λ (o : Option ScriptRule). PlayedRead run one b c (Ok o) after) e h in
    let on : PrintsOn a c (i.printed ++ []) = then_on a b c i.printed [] i.on step.2 in
    let broken : IsBrokenAt C first.seed text i.printed run.stage (n + 1) (script_rule_number rule) = record {
      front = i.reads;
      broken = one;
      rest = more;
      parts = i.parts;
      number = ap (λ (k : ℕ). k + 1) i.number;
      played = i.played;
      breaks = step.0;
    } in
    let here : IsBrokenAt first.config first.seed text i.printed run.stage (n + 1) (script_rule_number rule) =
    subst (λ (D : Config). IsBrokenAt D first.seed text i.printed run.stage (n + 1) (script_rule_number rule)) (sym config_is) broken in (
      i.printed,
      subst (λ (S : Stage). IsBrokenAt first.config first.seed text i.printed S (n + 1) (script_rule_number rule)) (sym (ap (λ (r : Run). r.stage) step.1)) here,
      subst (λ (r : Run). r ≡ at_stage first r.stage) (sym step.1) i.same,
      rw (append-nil i.printed) at on,
    )
