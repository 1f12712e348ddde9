-- A run whose cell of one service changes, in a script's state.
use Rattle.std.proofs.Common.{◌≡◌, ◌≢◌, ◌≤◌, ◌<◌, ℕ, zero, suc, true, List, [], ◌∷◌, ◌++◌, Option, Some, None, length, get_or, refl, sym, ap, subst, ◌∙◌, arith}
use Rattle.std.specs.Prelude.{slice_set, slice_get, IsSome, IfSome, Result, Ok, Err, option_map}
use Rattle.std.proofs.lemmas.Option.{same_Some, slice_get_within, get_or_from_slice_get}
use Rattle.std.specs.declared.alloc.AllocError.{AllocError}
use Rattle.okws_plan.specs.declared.configuration.Config.{Config}
use Rattle.okws_plan.specs.declared.script.Line.TheVariants as line
use Rattle.frame_codec.specs.declared.frame.ServerFrame.{ServerFrame}
use Rattle.frame_codec.specs.declared.frame.ServerFrame.TheVariants as frame
use Rattle.http_text.specs.Response.{own_response}
use Rattle.okws_outer.specs.Printing.{Printer, PrintsOn, PrintsFront, PrintsAs}
use Rattle.monitor_model.specs.Cell.{incarnation, last_booted}
use Rattle.monitor_model.specs.Launcher.{begun}
use Rattle.monitor_model.specs.Script.{Advances, Begun as ScriptBegun, IsReady, refusal, marked, dialog_opened, opening_text, request_method}
use Rattle.monitor_model.specs.Seen.{Seen}
use Rattle.monitor_model.specs.Stage.{Stage, Stand, Opened, Asked, stand, answer_line, method_text}
use Rattle.service_cell.specs.Asking.{Asker}
use Rattle.service_cell.specs.Standing.{Open, Standing}
use Rattle.service_cell.specs.declared.answer.Advanced.{Advanced}
use Rattle.service_cell.specs.declared.answer.Advanced.TheVariants as advanced
use Rattle.service_cell.specs.declared.answer.Begun.{Begun}
use Rattle.service_cell.specs.declared.answer.Begun.TheVariants as begun_is
use Rattle.service_cell.specs.Steps.{Begins}
use Rattle.site_columns.specs.Site.{Site}
use Rattle.okws_play.specs.Cells.{stand_by, stands_by, stand_at, left_to_do, opened_by, AreBytes, FitsRequest, IsSeat}
use Rattle.okws_play.specs.Printed.{closes, StepsAs, RunsAs, BeginsAs, last_response, newest_text}
use Rattle.okws_play.specs.Run.{Run, IsRun, at_stage}
use Rattle.okws_play.proofs.Cells.{cell_of, fresh, stand_set, stands_set, stands_long, left_bytes, run_set}
use Rattle.okws_play.proofs.Going.{each_at, get_set, is_pending_at, marked_is, stepped, starved, IsAskedAs, IsBegun, begun_as, begun_none, begun_cut, begun_on}
use Rattle.okws_play.proofs.Lawful.{advances_less}
use Rattle.okws_play.proofs.Printing.{same_on, same_front, same_as}
use Rattle.okws_play.proofs.Opening.{IsIdleAt, begin_missed, begin_superseded, begin_started}
use Rattle.okws_play.proofs.Steps.{IsStep, IsOpenAt, asker, shown_in, begin_seat, begin_booted, begin_launcher, advance_seat, advance_booted, same_launcher, step_goes, step_closes, answer_of, after, opened}

-- a state by its parts, and a run
abbrev pub stage_of : Seen → List Standing → List Asked → Stage
stage_of J cells requests = record { seen = J; stands = stands_by cells; requests = requests }

abbrev pub run_of : Config → List ℕ → Seen → List Standing → List Asked → Run
run_of C seed J cells requests = record { config = C; seed = seed; stage = stage_of J cells requests }

-- the state after the cell of s changed
pub after_is : (J K : Seen) (cells : List Standing) (requests : List Asked) (s : ℕ) (d : Standing) → stage_of K (slice_set cells s d) requests ≡ after (stage_of J cells requests) s (stand_by d) K
after_is J K cells requests s d = rw (stands_set cells s d) refl

pub stand_now : (cells : List Standing) (s : ℕ) (d : Standing) → s < length cells → stand_at (stands_by (slice_set cells s d)) s ≡ stand_by d
stand_now cells s d below = ap (λ (t : List Stand). stand_at t s) (stands_set cells s d) ∙ stand_set (stands_by cells) s (stand_by d) (omega (arith, below, stands_long cells))

-- what is known of a run and of its cell of s
pub record IsAt (C : Config) (seed : List ℕ) (columns : Site) (cells : List Standing) (requests : List Asked) (R : Run) (s : ℕ) (c : Standing) : Type 0 where
  pub run : IsRun C seed columns cells requests
  pub view : run_of C seed columns.seen cells requests ≡ R
  pub below : s < length cells
  pub cell_is : c ≡ get_or cells s c
  pub seat : IsSeat C seed s c
  pub stand_is : stand_by c ≡ stand R.stage s
  pub inside : s < length R.stage.stands
  pub bytes : AreBytes (stand R.stage s).left

pub at_cell : (C : Config) (seed : List ℕ) (columns : Site) (cells : List Standing) (requests : List Asked) (R : Run) (s : ℕ) (c : Standing) → IsRun C seed columns cells requests → run_of C seed columns.seen cells requests ≡ R
    → s < length R.config.services → c ≡ get_or cells s c → IsAt C seed columns cells requests R s c
at_cell C seed columns cells requests R s c run view declared is =
    let below : s < length cells = omega (arith, declared, run.cells_are, ap (λ (x : Run). length x.config.services) view) in
    let found = cell_of C seed cells s c run.seats_are below is in
    let there : stand_by c ≡ stand R.stage s = found.stand_is ∙ ap (λ (x : Run). stand x.stage s) view in record {
      run = run;
      view = view;
      below = below;
      cell_is = is;
      seat = found.seat;
      stand_is = there;
      inside = omega (arith, below, stands_long cells, ap (λ (x : Run). length x.stage.stands) view);
      bytes = subst (λ (t : Stand). AreBytes t.left) there (left_bytes c found.seat.linked);
    }

open_at : (C : Config) (seed : List ℕ) (columns : Site) (cells : List Standing) (requests : List Asked) (R : Run) (s : ℕ) (c : Standing) (o : Open) → IsAt C seed columns cells requests R s c → c.open_dialog ≡ Some o → incarnation c.past ≢ 0
    → IsOpenAt C seed s (stage_of columns.seen cells requests) c o
open_at C seed columns cells requests R s c o at is some = record {
  seat = at.seat;
  stand_is = ap (λ (x : Run). stand x.stage s) at.view ∙ sym at.stand_is;
  below = omega (arith, at.below, stands_long cells);
  open_is = is;
  some = some;
}

-- a run whose open dialog of s made a step
pub step_run : (C : Config) (seed : List ℕ) (columns now : Site) (cells : List Standing) (requests : List Asked) (R : Run) (s : ℕ) (c d : Standing) (answer : Advanced) → IsAt C seed columns cells requests R s c → IsStep C s columns.seen now.seen c d answer → incarnation c.past ≢ 0
    → now.config ≡ columns.config → now.seed ≡ columns.seed → now.worker ≡ columns.worker → IsRun C seed now (slice_set cells s d) requests
step_run C seed columns now cells requests R s c d answer at step some config same worker =
    let booted = advance_booted C (λ k. k ≡ begun now.seen.launcher s) c d columns.seen now.seen step.dialog answer step.advances in
    let before : last_booted c.past ≡ last_booted (stand_at (stands_by cells) s).past = ap (λ (t : Stand). last_booted t.past) (cell_of C seed cells s c at.run.seats_are at.below at.cell_is).stand_is in
    run_set C seed columns now cells requests s d at.run at.below (advance_seat C C (λ k. k ≡ begun now.seen.launcher s) seed s c d columns.seen now.seen step.dialog answer at.seat step.open_is some step.advances) config same worker
    (same_launcher 0 columns.seen now.seen step.next) (omega (arith, booted, before, at.run.booted_are s))

-- a step in the script's state, whose text is printed, or a front of it
pub record IsStepped (r : Result (Unit {0}) AllocError) (s : ℕ) (R now : Run) (a b : Printer) : Type 0 where
  pub steps : StepsAs s R a b r now
  pub less : left_to_do (stand now.stage s) < left_to_do (stand R.stage s)

stepped_at : (r : Result (Unit {0}) AllocError) (C : Config) (seed : List ℕ) (columns : Site) (K : Seen) (cells : List Standing) (requests : List Asked) (R : Run) (s : ℕ) (c d : Standing) (o : Open) (text : List ℕ) (a b : Printer) → IsAt C seed columns cells requests R s c
    → c.open_dialog ≡ Some o → IsReady (stand R.stage s) → Advances C s (opened o) (stage_of columns.seen cells requests) text (after (stage_of columns.seen cells requests) s (stand_by d) K) → PrintsAs r a b text
    → IsStepped r s R (run_of C seed K (slice_set cells s d) requests) a b
stepped_at r C seed columns K cells requests R s c d o text a b at is ready advances printed =
    let S : Stage = stage_of columns.seen cells requests in
    let before : Run = run_of C seed columns.seen cells requests in
    let now : Run = run_of C seed K (slice_set cells s d) requests in
    let there : stand S s ≡ stand_by c = ap (λ (x : Run). stand x.stage s) at.view ∙ sym at.stand_is in
    let dialog : (stand S s).open_dialog ≡ Some (opened o) = ap (λ (t : Stand). t.open_dialog) there ∙ ap opened_by is in
    let below : s < length S.stands = omega (arith, at.below, stands_long cells) in
    let bytes : AreBytes (stand S s).left = subst (λ (x : Run). AreBytes (stand x.stage s).left) (sym at.view) at.bytes in
    let can : IsReady (stand S s) = subst (λ (x : Run). IsReady (stand x.stage s)) (sym at.view) ready in
    let step : Advances C s (opened o) S text now.stage = subst (Advances C s (opened o) S text) (sym (after_is columns.seen K cells requests s d)) advances in record {
      steps = subst (λ (x : Run). StepsAs s x a b r now) at.view (stepped r s before now (opened o) text a b below bytes dialog can step refl printed);
      less = subst (λ (x : Run). left_to_do (stand now.stage s) < left_to_do (stand x.stage s)) at.view (advances_less C s (opened o) S now.stage text below bytes dialog step).less;
    }

-- a frame was answered, and what was heard is printed
pub goes_as : (r : Result (Unit {0}) AllocError) (C D : Config) (seed : List ℕ) (columns : Site) (K : Seen) (cells : List Standing) (requests : List Asked) (R : Run) (s : ℕ) (c d : Standing) (a b : Printer) → IsAt C seed columns cells requests R s c
    → IsStep C s columns.seen K c d advanced.Goes → incarnation c.past ≢ 0 → IsReady (stand R.stage s) → D ≡ C → PrintsAs r a b (newest_text D d) → IsStepped r s R (run_of C seed K (slice_set cells s d) requests) a b
goes_as r C D seed columns K cells requests R s c d a b at step some ready same printed =
    let there = open_at C seed columns cells requests R s c step.dialog at step.open_is some in
    let advances = step_goes C seed s (stage_of columns.seen cells requests) c d K step.dialog there step.next step.advances in
    stepped_at r C seed columns K cells requests R s c d step.dialog (newest_text C d) a b at step.open_is ready advances (same_as r a b (newest_text D d) (newest_text C d) (ap (λ (x : Config). newest_text x d) same) printed)

-- the dialog ended, and the answer to its request is printed
pub closes_as : (r : Result (Unit {0}) AllocError) (C : Config) (seed : List ℕ) (columns : Site) (K : Seen) (cells : List Standing) (requests : List Asked) (R : Run) (s n : ℕ) (c d : Standing) (answer : Advanced) (a b : Printer) → IsAt C seed columns cells requests R s c
    → IsStep C s columns.seen K c d answer → closes answer ≡ true → incarnation c.past ≢ 0 → IsReady (stand R.stage s) → Some n ≡ option_map (λ (x : Open). x.request) c.open_dialog
    → PrintsAs r a b (answer_line n (last_response (stand_at (stands_by (slice_set cells s d)) s).past (request_method (slice_get requests n)))) → IsStepped r s R (run_of C seed K (slice_set cells s d) requests) a b
closes_as r C seed columns K cells requests R s n c d answer a b at step ends some ready asked printed =
    let S : Stage = stage_of columns.seen cells requests in
    let there = open_at C seed columns cells requests R s c step.dialog at step.open_is some in
    let can : IsReady (stand S s) = subst (λ (x : Run). IsReady (stand x.stage s)) (sym at.view) ready in
    let advances = step_closes C seed s S c d K step.dialog answer ends there can step.next step.advances in
    let same : n ≡ step.dialog.request = same_Some n step.dialog.request (asked ∙ ap (option_map (λ (x : Open). x.request)) step.open_is) in
    let text : answer_line n (last_response (stand_at (stands_by (slice_set cells s d)) s).past (request_method (slice_get requests n))) ≡ answer_of step.dialog.request d.past S = rw (stand_now cells s d at.below, same) refl in
    stepped_at r C seed columns K cells requests R s c d step.dialog (answer_of step.dialog.request d.past S) a b at step.open_is ready advances (same_as r a b _ _ text printed)

-- memory was refused before a frame was taken
pub starved_as : (e : AllocError) (C : Config) (seed : List ℕ) (columns : Site) (cells : List Standing) (requests : List Asked) (R now : Run) (s : ℕ) (c : Standing) (a : Printer) → IsAt C seed columns cells requests R s c → RunsAs s R a a (Err e) now
starved_as e C seed columns cells requests R now s c a at = starved e s R now a at.inside at.bytes

-- ---- a dialog begins

-- a run at whose cell of s the dialog of a request began
pub begin_run : (C D : Config) (seed : List ℕ) (columns now : Site) (cells : List Standing) (requests : List Asked) (R : Run) (w s n k : ℕ) (request : ServerFrame) (c d : Standing) (answer : Begun) → IsAt C seed columns cells requests R s c → 0 < k → w ≡ 0
    → Begins (record { config = D; worker = w; alone = true }) (λ (j : ℕ). j ≡ begun now.seen.launcher c.service) n request k c columns.seen answer d now.seen
    → now.config ≡ columns.config → now.seed ≡ columns.seed → now.worker ≡ columns.worker → IsRun C seed now (slice_set cells s d) requests
begin_run C D seed columns now cells requests R w s n k request c d answer at first worker begins config same number =
    let shows : ℕ → Type 0 = λ (j : ℕ). j ≡ begun now.seen.launcher c.service in
    let own : Begins (asker D) shows n request k c columns.seen answer d now.seen = subst (λ (x : ℕ). Begins (record { config = D; worker = x; alone = true }) shows n request k c columns.seen answer d now.seen) worker begins in
    let booted = begin_booted D shows n k request c d columns.seen now.seen answer own in
    let before : last_booted c.past ≡ last_booted (stand_at (stands_by cells) s).past = ap (λ (t : Stand). last_booted t.past) (cell_of C seed cells s c at.run.seats_are at.below at.cell_is).stand_is in
    run_set C seed columns now cells requests s d at.run at.below (begin_seat C D shows seed s n k request c d columns.seen now.seen answer at.seat first own) config same number
    (begin_launcher D shows n k request c d columns.seen now.seen answer own) (omega (arith, booted, before, at.run.booted_are s))

-- the call that begins a dialog, as the script's state has it
own_begins : (C D : Config) (w s n k : ℕ) (request : ServerFrame) (c d : Standing) (J K : Seen) (answer : Begun) → D ≡ C → w ≡ 0 → c.service ≡ s
    → Begins (record { config = D; worker = w; alone = true }) (λ (j : ℕ). j ≡ begun K.launcher c.service) n request k c J answer d K → Begins (asker C) (shown_in K s) n request k c J answer d K
own_begins C D w s n k request c d J K answer config worker service begins =
    subst (λ (x : ℕ). Begins (asker C) (shown_in K x) n request k c J answer d K) service
    (subst (λ (x : ℕ). Begins (record { config = C; worker = x; alone = true }) (shown_in K c.service) n request k c J answer d K) worker
    (subst (λ (x : Config). Begins (record { config = x; worker = w; alone = true }) (shown_in K c.service) n request k c J answer d K) config begins))

pub none_open : (o : Option Open) → opened_by o ≡ None → o ≡ None
none_open None e = refl
none_open (Some o) e = absurd cc

-- no dialog is open, though memory was not refused
abbrev pub IsRefusal : Begun → Type 0
IsRefusal begun_is.Started = ⊥
IsRefusal (begun_is.Missed asks is) = Unit {0}
IsRefusal (begun_is.Superseded j shown) = Unit {0}
IsRefusal (begun_is.Crashed why) = ⊥
IsRefusal begun_is.NoMemory = ⊥

-- what a call that begins the dialog of request n found and answered
pub record IsBeginning (C : Config) (seed : List ℕ) (columns : Site) (K : Seen) (cells : List Standing) (requests : List Asked) (R : Run) (s n k : ℕ) (head content : List ℕ) (c d : Standing) (answer : Begun) : Type 0 where
  pub at : IsAt C seed columns cells requests R s c
  pub asked : IsAskedAs R.stage.requests n head content
  pub idle : c.open_dialog ≡ None
  pub first : 0 < k
  pub begins : Begins (asker C) (shown_in K s) n (frame.Request head content) k c columns.seen answer d K

pub beginning : (C D : Config) (seed : List ℕ) (columns : Site) (K : Seen) (cells : List Standing) (requests : List Asked) (R : Run) (w s n k : ℕ) (head content : List ℕ) (c d : Standing) (answer : Begun) → IsAt C seed columns cells requests R s c
    → IsAskedAs R.stage.requests n head content → (stand R.stage s).open_dialog ≡ None → 0 < k → D ≡ C → w ≡ 0
    → Begins (record { config = D; worker = w; alone = true }) (λ (j : ℕ). j ≡ begun K.launcher c.service) n (frame.Request head content) k c columns.seen answer d K → IsBeginning C seed columns K cells requests R s n k head content c d answer
beginning C D seed columns K cells requests R w s n k head content c d answer at asked closed first config worker begins = record {
  at = at;
  asked = asked;
  idle = none_open c.open_dialog (ap (λ (t : Stand). t.open_dialog) at.stand_is ∙ closed);
  first = first;
  begins = own_begins C D w s n k (frame.Request head content) c d columns.seen K answer config worker at.seat.service_is begins;
}

idle_at : (C : Config) (seed : List ℕ) (columns : Site) (K : Seen) (cells : List Standing) (requests : List Asked) (R : Run) (s n k : ℕ) (head content : List ℕ) (c d : Standing) (answer : Begun) → IsBeginning C seed columns K cells requests R s n k head content c d answer
    → IsIdleAt C seed s (stage_of columns.seen cells requests) c
idle_at C seed columns K cells requests R s n k head content c d answer h = record { seat = h.at.seat; stand_is = ap (λ (x : Run). stand x.stage s) h.at.view ∙ sym h.at.stand_is; idle = h.idle }

asked_begins : (C : Config) (s n k : ℕ) (head content : List ℕ) (asked : Asked) (c d : Standing) (J K : Seen) (answer : Begun) → asked.head ≡ head → asked.content ≡ content
    → Begins (asker C) (shown_in K s) n (frame.Request head content) k c J answer d K → Begins (asker C) (shown_in K s) n (frame.Request asked.head asked.content) k c J answer d K
asked_begins C s n k head content asked c d J K answer e f begins = rw (e, f) begins

-- a dialog that ended as it began
pub ended_as : (r : Result (Unit {0}) AllocError) (C : Config) (seed : List ℕ) (columns : Site) (K : Seen) (cells : List Standing) (requests : List Asked) (R : Run) (s n k : ℕ) (head content : List ℕ) (c d : Standing) (answer : Begun) (a b : Printer)
    → IsBeginning C seed columns K cells requests R s n k head content c d answer → IsRefusal answer → PrintsAs r a b (answer_line n (own_response 503 (request_method (slice_get requests n)))) → BeginsAs n s k R a b r (run_of C seed K (slice_set cells s d) requests)
ended_as r C seed columns K cells requests R s n k head content c d answer a b h refused printed = by answer h refused
  where
    S : Stage
    S = stage_of columns.seen cells requests

    now : Run
    now = run_of C seed K (slice_set cells s d) requests

    there : slice_get requests n ≡ Some h.asked.asked
    there = ap (λ (x : Run). slice_get x.stage.requests n) h.at.view ∙ h.asked.there

    text : List ℕ
    text = answer_line n (own_response 503 (method_text h.asked.asked.method))

    line : PrintsAs r a b text
    line = same_as r a b _ text (ap (λ (o : Option Asked). answer_line n (own_response 503 (request_method o))) there) printed

    from : ScriptBegun C n s k h.asked.asked S text (after S s (stand_by d) K) → BeginsAs n s k R a b r now
    from begins =
        let state : ScriptBegun C n s k h.asked.asked S text now.stage = subst (ScriptBegun C n s k h.asked.asked S text) (sym (after_is columns.seen K cells requests s d)) begins in
        subst (λ (x : Run). BeginsAs n s k x a b r now) h.at.view (begun_as r n s k (run_of C seed columns.seen cells requests) now h.asked.asked text a b there state refl line)

    by : (answer : Begun) → IsBeginning C seed columns K cells requests R s n k head content c d answer → IsRefusal answer → BeginsAs n s k R a b r now
    by (begun_is.Missed asks is) g refusal =
        from (begin_missed C seed s n k asks is h.asked.asked S c d K text (idle_at C seed columns K cells requests R s n k head content c d (begun_is.Missed asks is) g) (asked_begins C s n k head content h.asked.asked c d columns.seen K (begun_is.Missed asks is) h.asked.head_is h.asked.content_is g.begins) refl)
    by (begun_is.Superseded j shown) g refusal =
        from (begin_superseded C seed s n k j shown h.asked.asked S c d K text (idle_at C seed columns K cells requests R s n k head content c d (begun_is.Superseded j shown) g) g.first (asked_begins C s n k head content h.asked.asked c d columns.seen K (begun_is.Superseded j shown) h.asked.head_is h.asked.content_is g.begins) refl)
    by begun_is.Started g refusal = absurd refusal
    by (begun_is.Crashed why) g refusal = absurd refusal
    by begun_is.NoMemory g refusal = absurd refusal

-- memory was refused before anything was printed
pub none_as : (e : AllocError) (C : Config) (seed : List ℕ) (columns : Site) (cells : List Standing) (requests : List Asked) (R now : Run) (s n k : ℕ) (head content : List ℕ) (c : Standing) (a : Printer)
    → IsAt C seed columns cells requests R s c → IsAskedAs R.stage.requests n head content → BeginsAs n s k R a a (Err e) now
none_as e C seed columns cells requests R now s n k head content c a at asked = begun_none e n s k R now asked.asked a asked.there at.inside at.bytes

-- a dialog that is open, in the script's state
pub record IsStarted (n s k : ℕ) (R mid : Run) (asked : Asked) (opening : List ℕ) : Type 0 where
  pub begun : IsBegun n s k R mid asked
  pub text : opening ≡ opening_text R.config s k asked R.stage

pub started_as : (C : Config) (seed : List ℕ) (columns : Site) (K : Seen) (cells : List Standing) (requests : List Asked) (R : Run) (s n k : ℕ) (head content : List ℕ) (c d : Standing) (h : IsBeginning C seed columns K cells requests R s n k head content c d begun_is.Started)
    → IsStarted n s k R (run_of C seed K (slice_set cells s d) requests) h.asked.asked (newest_text C d)
started_as C seed columns K cells requests R s n k head content c d h =
    let S : Stage = stage_of columns.seen cells requests in
    let mid : Run = run_of C seed K (slice_set cells s d) requests in
    let asked : Asked = h.asked.asked in
    let there : slice_get requests n ≡ Some asked = ap (λ (x : Run). slice_get x.stage.requests n) h.at.view ∙ h.asked.there in
    let found = begin_started C seed s n k asked S c d K (idle_at C seed columns K cells requests R s n k head content c d begun_is.Started h) h.first
    (asked_begins C s n k head content asked c d columns.seen K begun_is.Started h.asked.head_is h.asked.content_is h.begins) in
    let state : mid.stage ≡ dialog_opened C n s k asked S = after_is columns.seen K cells requests s d ∙ found.2 in
    subst (λ (x : Run). IsStarted n s k x mid asked (newest_text C d)) h.at.view
    (record { begun = record { there = there; is = found.0; current = found.1; state = ap (at_stage (run_of C seed columns.seen cells requests)) state }; text = found.3 })

pub started_cut : (f : AllocError) (C D : Config) (seed : List ℕ) (columns : Site) (K : Seen) (cells : List Standing) (requests : List Asked) (R now : Run) (s n k : ℕ) (head content : List ℕ) (c d : Standing) (a b : Printer)
    → IsBeginning C seed columns K cells requests R s n k head content c d begun_is.Started → D ≡ C → PrintsFront a b (newest_text D d) → BeginsAs n s k R a b (Err f) now
started_cut f C D seed columns K cells requests R now s n k head content c d a b h same printed =
    let start = started_as C seed columns K cells requests R s n k head content c d h in
    begun_cut f n s k R (run_of C seed K (slice_set cells s d) requests) now h.asked.asked a b start.begun h.at.inside h.at.bytes
    (same_front a b (newest_text D d) (opening_text R.config s k h.asked.asked R.stage) (ap (λ (x : Config). newest_text x d) same ∙ start.text) printed)

pub started_on : (r : Result (Unit {0}) AllocError) (C D : Config) (seed : List ℕ) (columns : Site) (K : Seen) (cells : List Standing) (requests : List Asked) (R now : Run) (s n k : ℕ) (head content : List ℕ) (c d : Standing) (x y z : Printer)
    → IsBeginning C seed columns K cells requests R s n k head content c d begun_is.Started → D ≡ C → PrintsOn x y (newest_text D d) → RunsAs s (run_of C seed K (slice_set cells s d) requests) y z r now → BeginsAs n s k R x z r now
started_on r C D seed columns K cells requests R now s n k head content c d x y z h same printed ran =
    let start = started_as C seed columns K cells requests R s n k head content c d h in
    begun_on r n s k R (run_of C seed K (slice_set cells s d) requests) now h.asked.asked x y z start.begun
    (same_on x y (newest_text D d) (opening_text R.config s k h.asked.asked R.stage) (ap (λ (q : Config). newest_text q d) same ∙ start.text) printed) ran

-- ---- what calls tell

pub is_there : {n : ℕ} {o : Option ℕ} → o ≡ Some n → IsSome o
is_there {n} {o} e = rw e refl

pub board_config : {x y : Asker} → x ≡ y → x.config ≡ y.config
board_config e = ap (λ (a : Asker). a.config) e

pub board_worker : {x y : Asker} → x ≡ y → x.worker ≡ y.worker
board_worker e = ap (λ (a : Asker). a.worker) e

-- ---- a request whose dialog may begin

get_or_self : {A : Type 0} (xs : List A) (i : ℕ) (d : A) → i < length xs → get_or xs i d ≡ get_or xs i (get_or xs i d)
get_or_self [] i d below = absurd (omega (arith, below))
get_or_self (x ∷ xs) zero d below = refl
get_or_self (x ∷ xs) (suc i) d below = get_or_self xs i d (omega (arith, below))

pub record IsChosen (C : Config) (columns : Site) (cells : List Standing) (requests : List Asked) (R : Run) (n : ℕ) (a : Asked) : Type 0 where
  pub service : ℕ
  pub incarnation : ℕ
  pub goes : a.goes ≡ Some (service, incarnation)
  pub within : n < length requests
  pub there : slice_get requests n ≡ Some a
  pub asked : slice_get R.stage.requests n ≡ Some a
  pub fits : FitsRequest C a
  pub closed : (stand (stage_of columns.seen cells requests) service).open_dialog ≡ None
  pub inside : service < length R.stage.stands
  pub bytes : AreBytes (stand R.stage service).left
  pub declared : service < length C.services
  pub wanted : 0 < incarnation

goes_fits : (C : Config) (o : Option (ℕ × ℕ)) (s k : ℕ) → o ≡ Some (s, k) → IfSome o (λ (at : ℕ × ℕ). (at.0 < length C.services) × (0 < at.1)) → (s < length C.services) × (0 < k)
goes_fits C o s k e h = subst (λ (x : Option (ℕ × ℕ)). IfSome x (λ (at : ℕ × ℕ). (at.0 < length C.services) × (0 < at.1))) e h

pub chosen : (C : Config) (seed : List ℕ) (columns : Site) (cells : List Standing) (requests : List Asked) (R : Run) (n : ℕ) (a : Asked) → IsRun C seed columns cells requests → run_of C seed columns.seen cells requests ≡ R
    → refusal (line.Dialog n) R.stage ≡ None → a ≡ get_or requests n a → IsChosen C columns cells requests R n a
chosen C seed columns cells requests R n a run view may is =
    let pending = is_pending_at (stage_of columns.seen cells requests) n (subst (λ (x : Run). refusal (line.Dialog n) x.stage ≡ None) (sym view) may) in
    let within : n < length requests = slice_get_within requests n pending.asked pending.there in
    let same : pending.asked ≡ a = sym (is ∙ get_or_from_slice_get requests n pending.asked a pending.there) in
    let there : slice_get requests n ≡ Some a = pending.there ∙ ap Some same in
    let goes : a.goes ≡ Some (pending.service, pending.incarnation) = ap (λ (x : Asked). x.goes) (sym same) ∙ pending.goes in
    let fits : FitsRequest C a = subst (FitsRequest C) (sym is) (each_at (FitsRequest C) requests n a run.requests_are within) in
    let both = goes_fits C a.goes pending.service pending.incarnation goes fits.goes in
    let declared : pending.service < length R.config.services = omega (arith, both.0, ap (λ (x : Run). length x.config.services) view) in
    let below : pending.service < length cells = omega (arith, both.0, run.cells_are) in
    let at = at_cell C seed columns cells requests R pending.service (get_or cells pending.service (fresh C seed 0)) run view declared (get_or_self cells pending.service (fresh C seed 0) below) in record {
      service = pending.service;
      incarnation = pending.incarnation;
      goes = goes;
      within = within;
      there = there;
      asked = ap (λ (x : Run). slice_get x.stage.requests n) (sym view) ∙ there;
      fits = fits;
      closed = pending.closed;
      inside = at.inside;
      bytes = at.bytes;
      declared = both.0;
      wanted = both.1;
    }

pub mark_set : (requests : List Asked) (n : ℕ) (a it element : Asked) → slice_get requests n ≡ Some a → it ≡ get_or requests n it → element ≡ record it { has_begun = true } → slice_set requests n element ≡ slice_set requests n (record a { has_begun = true })
mark_set requests n a it element there is made =
    let same : it ≡ a = is ∙ get_or_from_slice_get requests n a it there in
    ap (slice_set requests n) (made ∙ ap (λ (x : Asked). record x { has_begun = true }) same)

pub marked_run : (C : Config) (seed : List ℕ) (J : Seen) (cells : List Standing) (requests marks : List Asked) (R : Run) (n : ℕ) (a : Asked) → run_of C seed J cells requests ≡ R → slice_get requests n ≡ Some a → marks ≡ slice_set requests n (record a { has_begun = true })
    → run_of C seed J cells marks ≡ at_stage R (marked n R.stage)
marked_run C seed J cells requests marks R n a view there set =
    subst (λ (x : Run). run_of C seed J cells marks ≡ at_stage x (marked n x.stage)) view (ap (at_stage (run_of C seed J cells requests)) (marked_is (stage_of J cells requests) marks n a there set))

pub marked_there : (requests marks : List Asked) (n : ℕ) (a : Asked) (head content : List ℕ) → slice_get requests n ≡ Some a → marks ≡ slice_set requests n (record a { has_begun = true }) → a.head ≡ head → a.content ≡ content
    → IsSome (slice_get marks n) × IfSome (slice_get marks n) (λ (asked : Asked). (asked.head ≡ head) × (asked.content ≡ content))
marked_there requests marks n a head content there set e f = rw (set, get_set n requests a (record a { has_begun = true }) there) (refl, (e, f))
