-- How the lines of a drill follow one another, and what its run leaves.
use Rattle.std.proofs.Common.{◌≡◌, ◌∙◌, ℕ, zero, suc, ◌+◌, ◌<◌, ◌≤◌, Bool, true, false, List, [], ◌∷◌, ◌++◌, length, map, refl, sym, ap, subst, arith, append_assoc, append-nil, reverse, inl, inr, Option, Some, None}
use Rattle.std.specs.Prelude.{◌==◌, if◌then◌else◌, codes, Ok}
use Rattle.std.specs.List.{list_all}
use Rattle.std.proofs.lemmas.Bool.{cases_lt}
use Rattle.std.proofs.lemmas.List.{reverse-append}
use Rattle.okws_base.specs.Names.{is_name}
use Rattle.okws_base.specs.Runs.{Each, Runs}
use Rattle.okws_outer.specs.Printing.{Printer, Printed, Counted, PrintsOn}
use Rattle.okws_outer.proofs.Printed.{printed_first, counted_first}
use Rattle.okws_plan.specs.Lines.{LineFits, service_names}
use Rattle.okws_plan.specs.declared.configuration.Config.{Config}
use Rattle.okws_plan.specs.declared.script.Line.{Line}
use Rattle.okws_plan.specs.declared.script.Line.TheVariants as line
use Rattle.okws_plan.specs.declared.script.Method.TheVariants as method
use Rattle.frame_codec.specs.declared.frame.ServiceFrame.{ServiceFrame}
use Rattle.monitor_model.specs.Script.{Plays, refusal}
use Rattle.monitor_model.specs.Stage.{Stage, first_stage}
use Rattle.play_script.specs.Rule.{script_rule_number}
use Rattle.play_script.specs.declared.rule.ScriptRule.{ScriptRule}
use Rattle.play_script.specs.Course.{Taken, course, incarnation_of}
use Rattle.play_script.specs.DrillRefusal.{NeverRefused}
use Rattle.play_script.specs.Script.{act_lines, asks, dialog_lines, drill_script, first_lines, group, groups, reply_frame, says, token_seed}
use Rattle.play_script.specs.Site.{is_drilled_site}
use Rattle.play_script.specs.Words.{act_of, drill_word, number_of, service_of}
use Rattle.play_script.specs.declared.words.TheConstants.{MOST_EVENTS}
use Rattle.play_script.specs.declared.course.Course.{Course}
use Rattle.play_script.specs.declared.words.Act.{Act}
use Rattle.play_script.specs.declared.words.Act.TheVariants.{Publish, Relaunch, Select, Insert, Delete, OpenAsFirst, Get, Log}
use Rattle.okws_play.specs.Played.{PlayedLine}
use Rattle.okws_play.specs.Run.{Run, at_stage}
use Rattle.okws_server.specs.Drill.{CanBePlayed, GoesThrough, Leads}

-- ---- lines one after another

runs_then : (P : Line → Stage → List ℕ → Stage → Type 0) (S mid now : Stage) (xs ys : List Line) (t u : List ℕ) →
    Runs P S xs t mid → Runs P mid ys u now → Runs P S (ys ++ xs) (t ++ u) now
runs_then P S mid now xs [] t u h k = rw (k.0, k.1, append-nil t) h
runs_then P S mid now xs (y ∷ ys) t u h k =
    (k.0, t ++ k.1, k.2, runs_then P S mid k.0 xs ys t k.1 h k.3, k.4, ap (λ (v : List ℕ). t ++ v) k.5 ∙ sym (append_assoc t k.1 k.2))

-- where nothing was played
pub leads_none : (first : Run) (t : List ℕ) → Leads first [] t t first
leads_none first t = ([], (refl, refl), refl, sym (append-nil t))

-- the configuration stays
pub leads_config : (first now : Run) (lines : List Line) (t u : List ℕ) → Leads first lines t u now → now.config ≡ first.config
leads_config first now lines t u h = ap (λ (r : Run). r.config) h.2

pub leads_then : (first mid now : Run) (a b : List Line) (t u v : List ℕ) → Leads first a t u mid → Leads mid b u v now → Leads first (a ++ b) t v now
leads_then first mid now a b t u v h k =
    let here : Runs (Plays first.config first.seed) mid.stage (reverse b) k.0 now.stage =
    subst (λ (D : Config). Runs (Plays D first.seed) mid.stage (reverse b) k.0 now.stage) (ap (λ (r : Run). r.config) h.2)
    (subst (λ (x : List ℕ). Runs (Plays mid.config x) mid.stage (reverse b) k.0 now.stage) (ap (λ (r : Run). r.seed) h.2) k.1) in
    let all : Runs (Plays first.config first.seed) first.stage (reverse b ++ reverse a) (h.0 ++ k.0) now.stage =
    runs_then (Plays first.config first.seed) first.stage mid.stage now.stage (reverse a) (reverse b) h.0 k.0 h.1 here in
    (h.0 ++ k.0, rw (reverse-append a b) all, k.2 ∙ ap (λ (r : Run). at_stage r now.stage) h.2, k.3 ∙ ap (λ (w : List ℕ). w ++ k.0) h.3 ∙ append_assoc t h.0 k.0)

-- ---- a tally never stops

-- how a tally stands as a printer
abbrev pub tally_at : List ℕ → Bool → Printer
tally_at t stopped = record { given = Some t; faults = 0; stopped = stopped }

tallied_now : (a b text : List ℕ) (t : Bool) → Printed (Some a) (Some b) text t → Counted 0 0 t → (t ≡ false) × (b ≡ a ++ text)
tallied_now a b text true p n = absurd (let rose = n.rose refl in omega (arith, rose))
tallied_now a b text false p n = (refl, p.whole refl)

tallied : (a b text : List ℕ) (s t : Bool) → s ≡ false → PrintsOn (tally_at a s) (tally_at b t) text → (t ≡ false) × (b ≡ a ++ text)
tallied a b text true t e h = absurd (cc)
tallied a b text false t e h = tallied_now a b text t (printed_first (Some a) (Some b) text t h.prints) (counted_first 0 0 t h.counts)

-- how far the lines of a list were played
pub record Goes (first : Run) (lines yielded rest : List Line) (t u : List ℕ) (stopped : Bool) (run : Run) : Type 0 where
  pub parts : lines ≡ yielded ++ rest
  pub going : stopped ≡ false
  pub leads : Leads first yielded t u run

pub goes_none : (first : Run) (lines rest : List Line) (t : List ℕ) → rest ≡ lines → Goes first lines [] rest t t false first
goes_none first lines rest t e = record { parts = sym e; going = refl; leads = leads_none first t }

-- a line more
pub goes_more : (first run now : Run) (lines yielded rest more : List Line) (one : Line) (found : Option ScriptRule) (t u v : List ℕ) (s w : Bool) → rest ≡ one ∷ more → found ≡ None →
    Goes first lines yielded rest t u s run → PlayedLine run one (tally_at u s) (tally_at v w) (Ok found) now → Goes first lines (yielded ++ one ∷ []) more t v w now
goes_more first run now lines yielded rest more one (Some rule) t u v s w e none h k = absurd (cc)
goes_more first run now lines yielded rest more one None t u v s w e none h k =
    let told : (w ≡ false) × (v ≡ u ++ k.0) = tallied u v k.0 s w h.going k.3 in
    record {
      parts = h.parts ∙ ap (λ (l : List Line). yielded ++ l) e ∙ sym (append_assoc yielded (one ∷ []) more);
      going = told.0;
      leads = leads_then first run now yielded (one ∷ []) t u v h.leads (k.0, (run.stage, [], k.0, (refl, refl), k.1, refl), k.2, told.1);
    }

-- all lines were played
pub goes_all : (first run : Run) (lines yielded rest : List Line) (t u : List ℕ) (s : Bool) → rest ≡ [] → Goes first lines yielded rest t u s run → Leads first lines t u run
goes_all first run lines yielded rest t u s e h =
    let same : yielded ≡ lines = sym (h.parts ∙ ap (λ (l : List Line). yielded ++ l) e ∙ append-nil yielded) in
    subst (λ (l : List Line). Leads first l t u run) same h.leads

-- no line is refused
pub goes_through : (first run now : Run) (lines yielded rest more : List Line) (one : Line) (found : Option ScriptRule) (rule : ScriptRule) (t u v : List ℕ) (s w : Bool) → rest ≡ one ∷ more → found ≡ Some rule →
    Goes first lines yielded rest t u s run → GoesThrough first lines → PlayedLine run one (tally_at u s) (tally_at v w) (Ok found) now → ⊥
goes_through first run now lines yielded rest more one found rule t u v s w e some h through k =
    let refused = subst (λ (r : Option ScriptRule). PlayedLine run one (tally_at u s) (tally_at v w) (Ok r) now) some k in
    let fine : refusal one run.stage ≡ None = through yielded more one h.leads.0 run.stage (h.parts ∙ ap (λ (l : List Line). yielded ++ l) e) h.leads.1 in
    let broken : refusal one run.stage ≡ Some (script_rule_number rule) = refused.0 in
    cc

each_at : (P : Line → Type 0) (xs ys : List Line) (y : Line) → Each P (xs ++ y ∷ ys) → P y
each_at P [] ys y h = h.0
each_at P (x ∷ xs) ys y h = each_at P xs ys y h.1

-- the line that comes next may be played
pub next_can : (first run : Run) (lines yielded rest more : List Line) (one : Line) (t u : List ℕ) (s : Bool) → rest ≡ one ∷ more →
    Goes first lines yielded rest t u s run → Each (CanBePlayed first.config) lines → CanBePlayed run.config one
next_can first run lines yielded rest more one t u s e h can =
    let there : Each (CanBePlayed first.config) (yielded ++ one ∷ more) = subst (λ (l : List Line). Each (CanBePlayed first.config) l) (h.parts ∙ ap (λ (l : List Line). yielded ++ l) e) can in
    subst (λ (D : Config). CanBePlayed D one) (sym (leads_config first run yielded t u h.leads)) (each_at (CanBePlayed first.config) yielded more one there)

-- ---- the lines of a drill may be played

each_append : (P : Line → Type 0) (xs ys : List Line) → Each P xs → Each P ys → Each P (xs ++ ys)
each_append P [] ys h k = k
each_append P (x ∷ xs) ys h k = (h.0, each_append P xs ys h.1 k)

each_said : (C : Config) (s : ℕ) (frames : List ServiceFrame) → s < length C.services → Each (CanBePlayed C) (map (says s) frames)
each_said C s [] h = tt
each_said C s (f ∷ more) h = ((h, tt, tt), each_said C s more h)

-- what a site of a drill declares
pub record Declares (C : Config) : Type 0 where
  pub services : length C.services ≡ 2
  pub templates : length C.templates ≡ 2
  pub names : list_all is_name (service_names C) ≡ true

pub declares : (C : Config) → is_drilled_site C ≡ true → Declares C
declares C h = record { services = grind arith; templates = grind arith; names = grind arith }

accept_can : (C : Config) (b : Bool) →
    CanBePlayed C (line.Accept method.Get (if b then codes "/guest" else codes "/other") [])
accept_can C true = (tt, (refl, omega arith), omega arith)
accept_can C false = (tt, (refl, omega arith), omega arith)

dialog_can : (C : Config) (s n : ℕ) (frames : List ServiceFrame) → s < length C.services → Each (CanBePlayed C) (dialog_lines s n frames)
dialog_can C s n frames h =
    (accept_can C (s == 0), ((tt, tt, tt), each_append (CanBePlayed C) (map (says s) frames) (says s reply_frame ∷ []) (each_said C s frames h) ((h, tt, tt), tt)))

act_can : (C : Config) (act : Act) (s : ℕ) (at : Course) (w : ℕ) → Declares C → s < 2 → Each (CanBePlayed C) (act_lines act s at w)
act_can C Publish s at w site h = ((omega (arith, site.templates), tt, tt), tt)
act_can C Relaunch s at w site h = ((omega (arith, site.services, h), tt, tt), tt)
act_can C Select s at w site h = dialog_can C s at.requests (asks Select s (incarnation_of at s) (number_of w)) (omega (arith, site.services, h))
act_can C Insert s at w site h = dialog_can C s at.requests (asks Insert s (incarnation_of at s) (number_of w)) (omega (arith, site.services, h))
act_can C Delete s at w site h = dialog_can C s at.requests (asks Delete s (incarnation_of at s) (number_of w)) (omega (arith, site.services, h))
act_can C OpenAsFirst s at w site h = dialog_can C s at.requests (asks OpenAsFirst s (incarnation_of at s) (number_of w)) (omega (arith, site.services, h))
act_can C Get s at w site h = dialog_can C s at.requests (asks Get s (incarnation_of at s) (number_of w)) (omega (arith, site.services, h))
act_can C Log s at w site h = dialog_can C s at.requests (asks Log s (incarnation_of at s) (number_of w)) (omega (arith, site.services, h))

pub group_can : (C : Config) (at : Course) (w : ℕ) → Declares C → Each (CanBePlayed C) (group at w)
group_can C at w site = act_can C (act_of w) (service_of w) at w site (omega arith)

pub first_can : (C : Config) → Declares C → Each (CanBePlayed C) first_lines
first_can C site = ((omega (arith, site.services), tt, tt), ((omega (arith, site.services), tt, tt), tt))

groups_can : (C : Config) (number n : ℕ) → Declares C → Each (CanBePlayed C) (groups number n)
groups_can C number zero site = tt
groups_can C number (suc n) site =
    each_append (CanBePlayed C) (groups number n) (group (course number n) (drill_word number n)) (groups_can C number n site) (group_can C (course number n) (drill_word number n) site)

each_fits : (C : Config) (lines : List Line) → Each (CanBePlayed C) lines → Each (LineFits C) lines
each_fits C [] h = tt
each_fits C (l ∷ more) h = (h.0.0, each_fits C more h.1)

-- each line of a drill names what is declared
pub script_fits : (C : Config) (number events : ℕ) → Declares C → Each (LineFits C) (drill_script number events)
script_fits C number events site =
    each_fits C (drill_script number events) (each_append (CanBePlayed C) first_lines (groups number events) (first_can C site) (groups_can C number events site))

-- ---- a word's lines more

script_more : (number n m : ℕ) → m ≡ n + 1 → drill_script number m ≡ drill_script number n ++ group (course number n) (drill_word number n)
script_more number n zero e = absurd (omega (arith, e))
script_more number n (suc m) e =
    let same : m ≡ n = omega (arith, e) in
    subst (λ (k : ℕ). drill_script number (suc k) ≡ drill_script number n ++ group (course number n) (drill_word number n)) (sym same)
    (sym (append_assoc first_lines (groups number n) (group (course number n) (drill_word number n))))

drill_more : (first mid now : Run) (number n m : ℕ) (t u v : List ℕ) → m ≡ n + 1 → Leads first (drill_script number n) t u mid →
    Leads mid (group (course number n) (drill_word number n)) u v now → Leads first (drill_script number m) t v now
drill_more first mid now number n m t u v e h k =
    subst (λ (l : List Line). Leads first l t v now) (sym (script_more number n m e)) (leads_then first mid now (drill_script number n) (group (course number n) (drill_word number n)) t u v h k)

-- what follows the lines of the first words
groups_same : (number k n : ℕ) → k ≡ n → (rest : List Line) × (groups number n ≡ groups number k ++ rest)
groups_same number k n e = ([], ap (λ (m : ℕ). groups number m) (sym e) ∙ sym (append-nil (groups number k)))

groups_within : (number k n : ℕ) → k ≤ n → (rest : List Line) × (groups number n ≡ groups number k ++ rest)
groups_within number k zero h = groups_same number k zero (omega (arith, h))
groups_within number k (suc n) h =
    elim (cases_lt k (suc n)) [
      | inl lt ↦
          (
          let w = groups_within number k n (omega (arith, lt)) in
          let one : List Line = group (course number n) (drill_word number n) in
          (w.0 ++ one, ap (λ (l : List Line). l ++ one) w.1 ∙ append_assoc (groups number k) w.0 one)
          )
      | inr le ↦ groups_same number k (suc n) (omega (arith, le, h))
    ]

-- the script begins with the lines of its first words
script_within : (number k n : ℕ) → k ≤ n → (rest : List Line) × (drill_script number n ≡ drill_script number k ++ rest)
script_within number k n h =
    let w = groups_within number k n h in
    (w.0, ap (λ (l : List Line). first_lines ++ l) w.1 ∙ sym (append_assoc first_lines (groups number k) w.0))

-- ---- no line of a drill is refused

-- the lines that follow others
through_part : (first mid : Run) (script before lines rest : List Line) (t u : List ℕ) → GoesThrough first script → script ≡ (before ++ lines) ++ rest → Leads first before t u mid → GoesThrough mid lines
through_part first mid script before lines rest t u through parts h front more one printed now split runs =
    let here : Runs (Plays first.config first.seed) mid.stage (reverse front) printed now =
    subst (λ (D : Config). Runs (Plays D first.seed) mid.stage (reverse front) printed now) (ap (λ (r : Run). r.config) h.2)
    (subst (λ (x : List ℕ). Runs (Plays mid.config x) mid.stage (reverse front) printed now) (ap (λ (r : Run). r.seed) h.2) runs) in
    let all : Runs (Plays first.config first.seed) first.stage (reverse front ++ reverse before) (h.0 ++ printed) now =
    runs_then (Plays first.config first.seed) first.stage mid.stage now (reverse before) (reverse front) h.0 printed h.1 here in
    through (before ++ front) (more ++ rest) one (h.0 ++ printed) now
    (parts ∙ ap (λ (l : List Line). (before ++ l) ++ rest) split ∙ ap (λ (l : List Line). l ++ rest) (sym (append_assoc before front (one ∷ more))) ∙ append_assoc (before ++ front) (one ∷ more) rest)
    (rw (reverse-append before front) all)

pub drill_through : NeverRefused → (first : Run) (number events : ℕ) → events ≤ MOST_EVENTS → is_drilled_site first.config ≡ true → first.seed ≡ token_seed → first.stage ≡ first_stage first.config →
    GoesThrough first (drill_script number events)
drill_through law first number events few site seed begun front rest one printed now parts runs =
    law first.config number events front rest one printed now site few parts
    (subst (λ (S : Stage). Runs (Plays first.config token_seed) S (reverse front) printed now) begun
    (subst (λ (x : List ℕ). Runs (Plays first.config x) first.stage (reverse front) printed now) seed runs))

-- the first lines go through
pub first_through : (first : Run) (number events : ℕ) (lines : List Line) → GoesThrough first (drill_script number events) → lines ≡ first_lines → GoesThrough first lines
first_through first number events lines through is =
    subst (λ (l : List Line). GoesThrough first l) (sym is) (through_part first first (drill_script number events) [] first_lines (groups number events) [] [] through refl (leads_none first []))

-- the lines of a word go through
pub word_through : (first mid : Run) (number n events : ℕ) (lines : List Line) (t u : List ℕ) → n < events → GoesThrough first (drill_script number events) → Leads first (drill_script number n) t u mid →
    lines ≡ group (course number n) (drill_word number n) → GoesThrough mid lines
word_through first mid number n events lines t u lt through h is =
    let one : List Line = group (course number n) (drill_word number n) in
    let within = script_within number (suc n) events (omega (arith, lt)) in
    subst (λ (l : List Line). GoesThrough mid l) (sym is)
    (through_part first mid (drill_script number events) (drill_script number n) one within.0 t u through
    (within.1 ∙ ap (λ (l : List Line). l ++ within.0) (script_more number n (suc n) (omega arith))) h)

-- ---- the loop over the words

-- the first lines may be played
pub first_lines_can : (C : Config) (lines : List Line) → is_drilled_site C ≡ true → lines ≡ first_lines → Each (CanBePlayed C) lines
first_lines_can C lines site is = subst (λ (l : List Line). Each (CanBePlayed C) l) (sym is) (first_can C (declares C site))

-- the first lines lead as the script of no event does
pub drill_begun : (first now : Run) (number : ℕ) (lines : List Line) (t v : List ℕ) → lines ≡ first_lines → Leads first lines t v now → Leads first (drill_script number 0) t v now
drill_begun first now number lines t v is h = subst (λ (l : List Line). Leads first l t v now) is h

-- the lines of the next word
pub word_lines : (at : Taken) (number n : ℕ) (lines : List Line) → at ≡ record { number = number; taken = n } → lines ≡ group (course at.number at.taken) (drill_word at.number at.taken) →
    lines ≡ group (course number n) (drill_word number n)
word_lines at number n lines e is = subst (λ (v : Taken). lines ≡ group (course v.number v.taken) (drill_word v.number v.taken)) e is

-- a word more was taken
pub word_taken : (at now : Taken) (number n : ℕ) → at ≡ record { number = number; taken = n } → now ≡ record { number = at.number; taken = at.taken + 1 } → now ≡ record { number = number; taken = n + 1 }
word_taken at now number n e is = subst (λ (v : Taken). now ≡ record { number = v.number; taken = v.taken + 1 }) e is

-- the lines of a word may be played
pub word_can : (first run : Run) (number n : ℕ) (lines : List Line) (t u : List ℕ) → is_drilled_site first.config ≡ true → Leads first (drill_script number n) t u run →
    lines ≡ group (course number n) (drill_word number n) → Each (CanBePlayed run.config) lines
word_can first run number n lines t u site h is =
    subst (λ (D : Config). Each (CanBePlayed D) lines) (sym (leads_config first run (drill_script number n) t u h))
    (subst (λ (l : List Line). Each (CanBePlayed first.config) l) (sym is) (group_can first.config (course number n) (drill_word number n) (declares first.config site)))

-- the lines of a word were played
pub drill_on : (first mid now : Run) (number n m : ℕ) (lines : List Line) (t u v : List ℕ) → m ≡ n + 1 → lines ≡ group (course number n) (drill_word number n) →
    Leads first (drill_script number n) t u mid → Leads mid lines u v now → Leads first (drill_script number m) t v now
drill_on first mid now number n m lines t u v e is h k = drill_more first mid now number n m t u v e h (subst (λ (l : List Line). Leads mid l u v now) is k)
