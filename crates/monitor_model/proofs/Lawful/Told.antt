-- A run tells all that was heard.
use Rattle.std.proofs.Common.{◌≡◌, inl, inr, ℕ, ◌<◌, Bool, true, false, cond, List, [], ◌∷◌, ◌++◌, Some, None, map, reverse, refl, ap, sym, ◌∙◌, length, ◌==◌, append-nil, Option}
use Rattle.std.specs.Prelude.{flat_map}
use Rattle.std.proofs.lemmas.Grind.{flat_map-append}
use Rattle.std.proofs.lemmas.List.Folds.{flat_map-map}
use Rattle.okws_base.specs.Runs.{Each}
use Rattle.okws_plan.specs.declared.configuration.Config.{Config}
use Rattle.okws_plan.specs.declared.script.Line.{Line}
use Rattle.okws_plan.specs.declared.script.Line.TheVariants as line
use Rattle.frame_codec.specs.Spelling.{server_spelling}
use Rattle.frame_codec.specs.declared.frame.ServerFrame.{ServerFrame}
use Rattle.frame_codec.specs.declared.frame.ServerFrame.TheVariants as frame
use Rattle.http_text.specs.Response.{own_response}
use Rattle.http_text.specs.Target.{path}
use Rattle.monitor_model.specs.declared.record.CellEvent.{CellEvent}
use Rattle.monitor_model.specs.declared.record.CellEvent.TheVariants as cell
use Rattle.monitor_model.specs.declared.record.End.TheVariants as end
use Rattle.monitor_model.specs.declared.verdict.Push.{Push}
use Rattle.monitor_model.specs.declared.verdict.Way.{Way}
use Rattle.monitor_model.specs.declared.verdict.Way.TheVariants as way
use Rattle.monitor_model.specs.Cell.{heard, incarnation, last_booted}
use Rattle.monitor_model.specs.Course.{opening, push_frame}
use Rattle.monitor_model.specs.Okd.{accept_verdict}
use Rattle.monitor_model.specs.Pubd.{drain_verdict}
use Rattle.monitor_model.specs.Stage.{Stage, Stand, Asked, empty_stand, stand, heard_line, answer_line, first_stage, method_text, Opened}
use Rattle.monitor_model.specs.Script.{greatest, way_text, pushes_text, opening_text, missed, dialog_opened, Begun, given, has_ended, marked, Does, PlaysAll, refusal, settled}
use Rattle.okws_plan.specs.Lines.{LineFits}
use Rattle.monitor_model.specs.Told.{TellsAll, told_to}
use Rattle.monitor_model.specs.Played.{with_open, record_of}
use Rattle.monitor_model.proofs.Lawful.Plain.{replicate_at, each_reverse}
use Rattle.monitor_model.proofs.Lawful.Settled.{closed_there, settled_keeps}
use Rattle.monitor_model.proofs.Lawful.Kept.{IsGood}
use Rattle.monitor_model.proofs.Lawful.Lines.{MayBegin, dialog_may_begin, good_install}
use Rattle.monitor_model.proofs.Lawful.Records.{journal, cell_is, good_run}
use Rattle.monitor_model.proofs.Lawful.Hearing.{Adds, heard_by, adds_nothing, adds_then, adds_quiet, adds_answer, adds_answer_alone, adds_frames, heard_opening}
use Rattle.monitor_model.proofs.Lawful.Telling.{adds_booted, adds_launched, adds_relaunched, adds_goes_on}

-- a request is missed
heard_missed : (C : Config) (seed : List ℕ) (s k is : ℕ) (there : Stand) (j : ℕ) → there.open_dialog ≡ None
    → heard C seed s j (with_open there.open_dialog (cell.Missed 0 k is ∷ there.past)) ≡ heard C seed s j (journal there)
heard_missed C seed s k is there j shut = rw shut (append-nil (heard C seed s j there.past))

adds_missed : (C : Config) (seed : List ℕ) (n s k : ℕ) (text : List ℕ) (S : Stage) → s < length S.stands → (stand S s).open_dialog ≡ None → Adds C seed S.stands (answer_line n text) (missed s k S).stands
adds_missed C seed n s k text S declared shut =
    adds_answer C seed s n text S.stands (record (stand S s) { past = cell.Missed 0 k (incarnation (stand S s).past) ∷ (stand S s).past }) declared
    (λ j. heard_missed C seed s k (incarnation (stand S s).past) (stand S s) j shut)

-- a dialog is superseded at once
nothing_when : (bytes : List ℕ) (b : Bool) → bytes ++ cond b [] [] ≡ bytes
nothing_when bytes true = append-nil bytes
nothing_when bytes false = append-nil bytes

heard_at_once : (C : Config) (seed : List ℕ) (s shown : ℕ) (there : Stand) (j : ℕ) → there.open_dialog ≡ None
    → heard C seed s j (cell.Dialog (record { worker = 0; items = []; end = end.Superseded shown; due = [] }) ∷ there.past) ≡ heard C seed s j (journal there)
heard_at_once C seed s shown there j shut = rw shut (nothing_when (heard C seed s j there.past) (incarnation there.past == j))

-- a dialog opens
pub opening_is : (C : Config) (s k : ℕ) (pushes : List Push) (request : ServerFrame)
    → pushes_text C s k pushes ++ heard_line C s k request ≡ flat_map (heard_line C s k) (map push_frame pushes ++ request ∷ [])
opening_is C s k pushes request =
    rw (flat_map-append (heard_line C s k) (map push_frame pushes) (request ∷ []), flat_map-map (heard_line C s k) push_frame pushes, append-nil (heard_line C s k request)) refl

heard_opened : (C : Config) (seed : List ℕ) (s k : ℕ) (pushes : List Push) (request : ServerFrame) (there : Stand) (j : ℕ) → there.open_dialog ≡ None → incarnation there.past ≡ k
    → heard C seed s j (cell.Speaking 0 (opening pushes request) ∷ there.past)
    ≡ heard C seed s j (journal there) ++ cond (k == j) (flat_map server_spelling (map push_frame pushes ++ request ∷ [])) []
heard_opened C seed s k pushes request there j shut is = rw (shut, is, ← heard_opening pushes request) refl

adds_opened : (C : Config) (seed : List ℕ) (n s k : ℕ) (asked : Asked) (S : Stage) → s < length S.stands → (stand S s).open_dialog ≡ None → incarnation (stand S s).past ≡ k
    → Adds C seed S.stands (opening_text C s k asked S) (dialog_opened C n s k asked S).stands
adds_opened C seed n s k asked S declared shut is =
    let pushes : List Push = drain_verdict C S.seen.pubd s k in
    let request : ServerFrame = frame.Request asked.head asked.content in
    rw (opening_is C s k pushes request)
    (adds_frames C seed s k (map push_frame pushes ++ request ∷ []) S.stands (record (stand S s) { open_dialog = Some (record { request = n; items = opening pushes request }) }) declared
    (λ j. heard_opened C seed s k pushes request (stand S s) j shut is))

adds_begun : (C : Config) (seed : List ℕ) (n s k : ℕ) (asked : Asked) (S : Stage) (text : List ℕ) (now : Stage) → MayBegin s k S → Begun C n s k asked S text now → Adds C seed S.stands text now.stands
adds_begun C seed n s k asked S text now may (inl begun) = rw (begun.1, begun.2) (adds_missed C seed n s k (own_response 503 (method_text asked.method)) S may.declared may.shut)
adds_begun C seed n s k asked S text now may (inr (inl begun)) =
    rw (begun.2, begun.3)
    (adds_answer C seed s n (own_response 503 (method_text asked.method)) S.stands
    (settled (closed_there [] (end.Superseded (greatest S s)) (stand S s))) may.declared
    (λ j. settled_keeps (λ (J : List CellEvent) (o : Option Opened). heard C seed s j (with_open o J) ≡ heard C seed s j (journal (stand S s)))
    (closed_there [] (end.Superseded (greatest S s)) (stand S s)) (heard_at_once C seed s (greatest S s) (stand S s) j may.shut)))
adds_begun C seed n s k asked S text now may (inr (inr begun)) =
    rw begun.5
    (adds_then C seed S.stands (dialog_opened C n s k asked S).stands now.stands (opening_text C s k asked S) begun.3
    (adds_opened C seed n s k asked S may.declared may.shut begun.0) (adds_goes_on C seed s begun.2 (dialog_opened C n s k asked S) begun.3 now begun.4))

-- a request that goes to nobody is answered
adds_way : (C : Config) (seed : List ℕ) (n : ℕ) (way : Way) (method : List ℕ) (stands : List Stand) → Adds C seed stands (way_text n way method) stands
adds_way C seed n way.NotOwned method stands = adds_answer_alone C seed n (own_response 404 method) stands
adds_way C seed n (way.Down s) method stands = adds_answer_alone C seed n (own_response 503 method) stands
adds_way C seed n (way.To s k) method stands = adds_nothing C seed stands

-- each line
adds_line : (C : Config) (seed : List ℕ) (line : Line) (S : Stage) (text : List ℕ) (now : Stage) → IsGood C seed S → LineFits C line → refusal line S ≡ None → Does C seed line S text now
    → Adds C seed S.stands text now.stands
adds_line C seed (line.Begin s) S text now g fits unrefused does = rw (does.0, does.1) (adds_nothing C seed S.stands)
adds_line C seed (line.Install s at) S text now g fits unrefused does = rw (does.0, does.1) (adds_nothing C seed S.stands)
adds_line C seed (line.Revoke s at) S text now g fits unrefused does = rw (does.0, does.1) (adds_nothing C seed S.stands)
adds_line C seed (line.Boot s) S text now g fits unrefused does =
    rw (does.0, does.1)
    (adds_booted C seed s (greatest S s) (stand S s).open_dialog S S
    (record { good = g; declared = rw g.stands_are fits; fresh = good_install C seed s S (last_booted (stand S s).past) unrefused }) refl refl)
adds_line C seed (line.Up s) S text now g fits unrefused does = rw (does.0, does.1) (adds_nothing C seed S.stands)
adds_line C seed (line.Down s) S text now g fits unrefused does = rw (does.0, does.1) (adds_nothing C seed S.stands)
adds_line C seed (line.Launch s) S text now g fits unrefused does = rw (does.0, does.1) (adds_launched C seed s S g fits)
adds_line C seed (line.Relaunch s) S text now g fits unrefused does = rw (does.0, does.1) (adds_relaunched C seed s S g fits)
adds_line C seed (line.Accept method target content) S text now g fits unrefused does =
    rw (does.0, does.1) (adds_way C seed (length S.requests) (accept_verdict C S.seen.okd (path target)) (method_text method) S.stands)
adds_line C seed (line.Dialog n) S text now g fits unrefused does =
    let may : MayBegin does.1 does.2 S = dialog_may_begin C seed n S text now g unrefused does in
    adds_begun C seed n does.1 does.2 does.0 (marked n S) text now (record { declared = may.declared; shut = may.shut; above = may.above }) does.5
adds_line C seed (line.Bytes s bytes) S text now g fits unrefused does =
    adds_then C seed S.stands (given s bytes S).stands now.stands [] text
    (adds_quiet C seed s S.stands (record (stand S s) { left = (stand S s).left ++ bytes }) (rw g.stands_are fits) (λ k. refl))
    (adds_goes_on C seed s does.0 (given s bytes S) text now does.1)
adds_line C seed (line.End s) S text now g fits unrefused does =
    adds_then C seed S.stands (has_ended s S).stands now.stands [] text
    (adds_quiet C seed s S.stands (record (stand S s) { has_ended = true }) (rw g.stands_are fits) (λ k. refl))
    (adds_goes_on C seed s does.0 (has_ended s S) text now does.1)
adds_line C seed (line.Publish t content) S text now g fits unrefused does = rw (does.0, does.1) (adds_nothing C seed S.stands)

-- the lines one after another
adds_run : (C : Config) (seed : List ℕ) (lines : List Line) (printed : List ℕ) (now : Stage) → Each (LineFits C) lines → PlaysAll C seed lines printed now
    → Adds C seed (first_stage C).stands printed now.stands
adds_run C seed [] printed now fits run = rw (run.0, run.1) (adds_nothing C seed (first_stage C).stands)
adds_run C seed (line ∷ lines) printed now fits run =
    rw run.5
    (adds_then C seed (first_stage C).stands run.0.stands now.stands run.1 run.2 (adds_run C seed lines run.1 run.0 fits.1 run.3)
    (adds_line C seed line run.0 run.2 now (good_run C seed lines run.1 run.0 fits.1 run.3) fits.0 run.4.0 run.4.1))

nothing_heard : (C : Config) (seed : List ℕ) (s k : ℕ) → heard_by C seed (first_stage C).stands s k ≡ []
nothing_heard C seed s k = rw (replicate_at (length C.services) s empty_stand) refl

pub script_runs_tell_all : (C : Config) (seed : List ℕ) (lines : List Line) (printed : List ℕ) (stage : Stage)
    → Each (LineFits C) lines → PlaysAll C seed (reverse lines) printed stage → TellsAll C seed (record_of stage) printed
script_runs_tell_all C seed lines printed stage fits run =
    let added : Adds C seed (first_stage C).stands printed stage.stands = adds_run C seed (reverse lines) printed stage (each_reverse (LineFits C) lines fits) run in
    record {
      lines = added.more;
      text_is = added.text_is;
      heard_is = λ s k. rw (cell_is stage s) (sym (added.heard_is s k ∙ ap (λ (before : List ℕ). before ++ told_to s k added.more) (nothing_heard C seed s k)));
    }
