-- What a drill leaves, and how it ends.
use Rattle.std.proofs.Common.{◌≡◌, ◌∙◌, ℕ, Bool, true, false, List, [], refl, sym, ap, subst, Option}
use Rattle.std.specs.Prelude.{Ok}
use Rattle.std.specs.List.{list_all}
use Rattle.okws_base.specs.Names.{is_name}
use Rattle.okws_outer.specs.Printing.{Printed, Counted, Printer, PrintsOn}
use Rattle.okws_outer.proofs.Printed.{printed_first, counted_first}
use Rattle.okws_plan.specs.Lines.{service_names}
use Rattle.okws_plan.specs.declared.configuration.Config.{Config}
use Rattle.okws_plan.specs.declared.script.Line.{Line}
use Rattle.config_reader.specs.Meaning.{meaning}
use Rattle.monitor_model.specs.Played.{IsFaultless}
use Rattle.monitor_model.specs.Stage.{first_stage}
use Rattle.monitor_model.specs.declared.record.Record.{Record}
use Rattle.play_script.specs.Script.{drill_script}
use Rattle.play_script.specs.Site.{is_drilled_site}
use Rattle.play_script.specs.Summary.{TalliesCount, frames_in, kinds_of, rules_of, summary, summary_of}
use Rattle.play_script.specs.Tally.{tally_of}
use Rattle.play_script.specs.declared.site.TheConstants.{SITE}
use Rattle.okws_play.specs.Run.{Run}
use Rattle.okws_server.specs.Ending.{RoseWhere}
use Rattle.okws_server.specs.Drill.{Drilled, IsDrilled, Leads}
use Rattle.okws_server.specs.Headline.{IsMonitored}
use Rattle.okws_server.specs.Ran.{out_status, zero_seed}
use Rattle.okws_server.proofs.DrillLines.{Declares, declares, script_fits}
use Rattle.okws_server.proofs.Ended.{at_start}
use Rattle.okws_server.proofs.Monitored.{Laws, Links, left_of, of_stage}

-- the run of a drill before its first line
abbrev pub drill_start : Config → Run
drill_start C = record { config = C; seed = zero_seed; stage = first_stage C }

-- the summary of a run that is monitored
summed_by : TalliesCount → (C : Config) (lines : List Line) (R : Record) (printed tally text : List ℕ) (m : IsMonitored C zero_seed lines R printed) →
    list_all is_name (service_names C) ≡ true → tally ≡ printed → text ≡ summary_of (kinds_of (tally_of tally)) (rules_of (tally_of tally)) → text ≡ summary (frames_in m.told.lines)
summed_by law C lines R printed tally text m names same e =
    e ∙ ap (λ (t : List ℕ). summary_of (kinds_of (tally_of t)) (rules_of (tally_of t))) (same ∙ m.told.text_is) ∙ law C m.told.lines names

-- a drill that was played to its end, from its first state
drilled_from : Laws → TalliesCount → (C : Config) (number events : ℕ) (now : Run) (tally text : List ℕ) (R : Record) → meaning SITE.now ≡ Ok C → Declares C →
    Leads (drill_start C) (drill_script number events) [] tally now → IsFaultless now.stage → R ≡ left_of now.stage R.sents → Links now.config now.seed R →
    text ≡ summary_of (kinds_of (tally_of tally)) (rules_of (tally_of tally)) → IsDrilled number events R text
drilled_from laws law C number events now tally text R means site h faultless e links summed =
    let there : Links C zero_seed R =
    subst (λ (D : Config). Links D zero_seed R) (ap (λ (r : Run). r.config) h.2) (subst (λ (x : List ℕ). Links now.config x R) (ap (λ (r : Run). r.seed) h.2) links) in
    let left : IsMonitored C zero_seed (drill_script number events) (left_of now.stage R.sents) h.0 =
    of_stage laws C zero_seed (drill_script number events) h.0 now.stage R.sents (script_fits C number events site) h.1 faultless (subst (λ (S : Record). Links C zero_seed S) e there) in
    let all : IsMonitored C zero_seed (drill_script number events) R h.0 = subst (λ (S : Record). IsMonitored C zero_seed (drill_script number events) S h.0) (sym e) left in
    record {
      config = C;
      means = means;
      printed = h.0;
      monitored = all;
      summed = summed_by law C (drill_script number events) R h.0 tally text all site.names h.3 summed;
    }

pub drilled_by : Laws → TalliesCount → (C : Config) (number events : ℕ) (first now : Run) (start tally text : List ℕ) (R : Record) → meaning SITE.now ≡ Ok C → is_drilled_site C ≡ true →
    first ≡ drill_start C → start ≡ [] → Leads first (drill_script number events) start tally now → IsFaultless now.stage → R ≡ left_of now.stage R.sents → Links now.config now.seed R →
    text ≡ summary_of (kinds_of (tally_of tally)) (rules_of (tally_of tally)) → IsDrilled number events R text
drilled_by laws law C number events first now start tally text R means site e none h faultless is links summed =
    let here : Leads (drill_start C) (drill_script number events) [] tally now =
    subst (λ (t : List ℕ). Leads (drill_start C) (drill_script number events) t tally now) none (subst (λ (r : Run). Leads r (drill_script number events) start tally now) e h) in
    drilled_from laws law C number events now tally text R means (declares C site) here faultless is links summed

-- how a drill ends whose summary was printed
ends_at : (number events : ℕ) (R : Record) (text : List ℕ) (old new : Option (List ℕ)) (f g : ℕ) (stopped : Bool) → IsDrilled number events R text →
    Printed old new text stopped → Counted f g stopped → Drilled number events old new (RoseWhere f g) R (out_status stopped)
ends_at number events R text old new f g true h p n = (n.rose refl, text, h, p.part)
ends_at number events R text old new f g false h p n = (text, h, p.whole refl, n.still refl)

pub drill_ends : (number events : ℕ) (R : Record) (text : List ℕ) (old : Option (List ℕ)) (f : ℕ) (c : Printer) → IsDrilled number events R text →
    PrintsOn (at_start old f) c text → Drilled number events old c.given (RoseWhere f c.faults) R (out_status c.stopped)
drill_ends number events R text old f c h on =
    ends_at number events R text old c.given f c.faults c.stopped h (printed_first old c.given text c.stopped on.prints) (counted_first f c.faults c.stopped on.counts)
