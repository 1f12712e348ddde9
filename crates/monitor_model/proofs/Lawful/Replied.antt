-- Each request of a run is answered once, or waits.
use Rattle.std.proofs.Common.{◌≡◌, ◌≢◌, inl, inr, ℕ, zero, suc, ◌+◌, ◌<◌, Bool, true, false, ◌&&◌, not, cond, List, [], ◌∷◌, ◌++◌, Some, None, map, refl, ap, sym, ◌∙◌, arith, length, ◌==◌, is_some, eq-eqb, eqb-true, append-nil, add-zero, reverse, subst, Option}
use Rattle.std.specs.Prelude.{slice_get}
use Rattle.std.proofs.lemmas.Bool.{eqb-false}
use Rattle.okws_base.specs.Runs.{Each}
use Rattle.okws_plan.specs.declared.configuration.Config.{Config}
use Rattle.okws_plan.specs.declared.script.Line.{Line}
use Rattle.okws_plan.specs.declared.script.Line.TheVariants as line
use Rattle.okws_plan.specs.declared.event.PubdEvent.TheVariants as pubd
use Rattle.frame_codec.specs.declared.frame.ServerFrame.{ServerFrame}
use Rattle.frame_codec.specs.declared.frame.ServerFrame.TheVariants as frame
use Rattle.http_text.specs.Response.{own_response}
use Rattle.http_text.specs.Target.{path}
use Rattle.monitor_model.proofs.Lawful.Settled.{closed_there, settled_keeps}
use Rattle.monitor_model.specs.declared.record.CellEvent.{CellEvent}
use Rattle.monitor_model.specs.declared.record.CellEvent.TheVariants as cell
use Rattle.monitor_model.specs.declared.record.End.TheVariants as end
use Rattle.monitor_model.specs.declared.record.Own.TheVariants as own
use Rattle.monitor_model.specs.declared.verdict.Push.{Push}
use Rattle.monitor_model.specs.declared.verdict.Way.{Way}
use Rattle.monitor_model.specs.declared.verdict.Way.TheVariants as way
use Rattle.monitor_model.specs.Cell.{incarnation, last_booted}
use Rattle.monitor_model.specs.Course.{opening, push_frame}
use Rattle.monitor_model.specs.Launcher.{begun}
use Rattle.okws_plan.specs.Lines.{LineFits}
use Rattle.monitor_model.specs.Okd.{accept_verdict}
use Rattle.monitor_model.specs.Pubd.{drain_verdict}
use Rattle.monitor_model.specs.Replied.{AnswersOnce, answers_to, asking, replies, replies_of, request_of}
use Rattle.monitor_model.specs.Stage.{Stage, Stand, Asked, answer_line, empty_stand, first_stage, method_text, request_head, stand, with_item, with_seen, Opened, marked_begun}
use Rattle.monitor_model.specs.Script.{at_pubd, begins, broken, closed, dialog_opened, downed, given, goes_of, greatest, has_ended, installed, is_busy_request, is_pending, marked, missed, opening_text, revoked, upped, way_text, Begun, Does, PlaysAll, refusal, settled}
use Rattle.monitor_model.specs.Told.{Told, ToldAnswer, ToldFrame, told_text}
use Rattle.monitor_model.proofs.Lawful.Plain.{each_reverse, replicate_at, none_some}
use Rattle.monitor_model.proofs.Lawful.Kept.{IsGood}
use Rattle.monitor_model.proofs.Lawful.Lines.{MayBegin, dialog_may_begin, good_install, unbroken}
use Rattle.monitor_model.proofs.Lawful.Records.{good_run}
use Rattle.monitor_model.proofs.Lawful.Hearing.{frames_told}
use Rattle.monitor_model.proofs.Lawful.Told.{opening_is}
use Rattle.monitor_model.proofs.Lawful.Replying.{AreAsking, IsBegunAt, Replies, replies_then, replies_nothing, closed_of, same_of, no_answers}
use Rattle.monitor_model.proofs.Lawful.Pending.{IsPending, ask_here, ask_other, ask_same, ask_stands, replies_columns, replies_booted, replies_launched, replies_relaunched, replies_goes_on, marked_here, marked_other, begun_marked, pending_before, replies_at_once}

-- a dialog opens
opened_here : (m n s k : ℕ) (asked : Asked) (S now : Stage) → IsPending n s k asked S → now.requests ≡ marked_begun n S.requests → asking now s ≡ Some n → n ≡ m → replies S m + 0 ≡ replies now m
opened_here m n s k asked S now p requests opened_is one =
    let found : slice_get now.requests n ≡ Some (record asked { has_begun = true }) = ap (λ (xs : List Asked). slice_get xs n) requests ∙ marked_here n S.requests asked p.found in
    let after : replies now n ≡ 0 = rw (found, p.goes, opened_is, eq-eqb n n refl) refl in
    subst (λ (r : ℕ). replies S r + 0 ≡ replies now r) one (rw (pending_before n s k asked S p, after) refl)

opened_count : (m n s k : ℕ) (asked : Asked) (S now : Stage) → IsPending n s k asked S → now.requests ≡ marked_begun n S.requests → asking now s ≡ Some n → ((t : ℕ) → s ≢ t → asking now t ≡ asking S t) → (b : Bool) → (n == m) ≡ b
    → replies S m + 0 ≡ replies now m
opened_count m n s k asked S now p requests opened_is same true is = opened_here m n s k asked S now p requests opened_is (eqb-true n m is)
opened_count m n s k asked S now p requests opened_is same false is =
    let found : slice_get now.requests m ≡ slice_get S.requests m = ap (λ (xs : List Asked). slice_get xs m) requests ∙ marked_other n m S.requests (eqb-false n m is) in
    let before : replies S m ≡ replies_of m (slice_get S.requests m) (asking now)
    = closed_of m s n (slice_get S.requests m) (asking now) (asking S) (eqb-false n m is) opened_is p.shut (λ t apart. sym (same t apart)) in
    let after : replies now m ≡ replies_of m (slice_get S.requests m) (asking now) = rw found refl in
    omega arith

opened_asks : (n s k : ℕ) (asked : Asked) (S now : Stage) → AreAsking S → IsPending n s k asked S → now.requests ≡ marked_begun n S.requests → asking now s ≡ Some n → ((t : ℕ) → s ≢ t → asking now t ≡ asking S t)
    → (t r : ℕ) → asking now t ≡ Some r → (b : Bool) → (s == t) ≡ b → IsBegunAt (slice_get now.requests r) t
opened_asks n s k asked S now all p requests opened_is same t r is true here =
    let one : s ≡ t = eqb-true s t here in
    let both : Some n ≡ Some r = sym opened_is ∙ subst (λ (u : ℕ). asking now u ≡ Some r) (sym one) is in
    let request : n ≡ r = cc in
    let found : slice_get now.requests n ≡ Some (record asked { has_begun = true }) = ap (λ (xs : List Asked). slice_get xs n) requests ∙ marked_here n S.requests asked p.found in
    let begun_there : IsBegunAt (slice_get now.requests n) s = rw found (refl, k, p.goes) in
    subst (λ (u : ℕ). IsBegunAt (slice_get now.requests u) t) request (subst (λ (u : ℕ). IsBegunAt (slice_get now.requests n) u) one begun_there)
opened_asks n s k asked S now all p requests opened_is same t r is false here =
    rw requests (begun_marked n r t S.requests (all t r (sym (same t (eqb-false s t here)) ∙ is)))

replies_opened : (C : Config) (n s k : ℕ) (asked : Asked) (S : Stage) → AreAsking S → IsPending n s k asked S → s < length S.stands → Replies C S (opening_text C s k asked (marked n S)) (dialog_opened C n s k asked (marked n S))
replies_opened C n s k asked S all p declared =
    let now : Stage = dialog_opened C n s k asked (marked n S) in
    let pushes : List Push = drain_verdict C S.seen.pubd s k in
    let request : ServerFrame = frame.Request asked.head asked.content in
    let there : Stand = record (stand S s) { open_dialog = Some (record { request = n; items = opening pushes request }) } in
    let opened_is : asking now s ≡ Some n = ask_here s S.stands there declared in
    let same : (t : ℕ) → s ≢ t → asking now t ≡ asking S t = (λ (t : ℕ) (apart : s ≢ t). ask_other s t S.stands there apart) in
    record {
      more = map (ToldFrame s k) (map push_frame pushes ++ request ∷ []);
      text_is = opening_is C s k pushes request ∙ frames_told C s k (map push_frame pushes ++ request ∷ []);
      count = λ m. rw (no_answers s k m (map push_frame pushes ++ request ∷ [])) (opened_count m n s k asked S now p refl opened_is same (n == m) refl);
      asks = λ t r is. opened_asks n s k asked S now all p refl opened_is same t r is (s == t) refl;
    }

-- a dialog begins
replies_begun : (C : Config) (n s k : ℕ) (asked : Asked) (S : Stage) (text : List ℕ) (now : Stage) → AreAsking S → IsPending n s k asked S → s < length S.stands → Begun C n s k asked (marked n S) text now → Replies C S text now
replies_begun C n s k asked S text now all p declared (inl begun) =
    rw (begun.1, begun.2)
    (replies_at_once C n s k asked (own_response 503 (method_text asked.method)) S (missed s k (marked n S)) all p refl
    (ask_same s S.stands (record (stand S s) { past = cell.Missed 0 k (incarnation (stand S s).past) ∷ (stand S s).past }) declared refl))
replies_begun C n s k asked S text now all p declared (inr (inl begun)) =
    rw (begun.2, begun.3)
    (replies_at_once C n s k asked (own_response 503 (method_text asked.method)) S
    (closed s (record { request = n; items = [] }) (end.Superseded (greatest S s)) (with_item (marked n S) (own.Dialog s))) all p refl
    (ask_same s S.stands (settled (closed_there [] (end.Superseded (greatest S s)) (stand S s))) declared
    (settled_keeps (λ (J : List CellEvent) (o : Option Opened). request_of o ≡ request_of (stand S s).open_dialog) (closed_there [] (end.Superseded (greatest S s)) (stand S s)) (sym p.shut))))
replies_begun C n s k asked S text now all p declared (inr (inr begun)) =
    let first : Replies C S (opening_text C s k asked (marked n S)) (dialog_opened C n s k asked (marked n S)) = replies_opened C n s k asked S all p declared in
    rw begun.5
    (replies_then C S (dialog_opened C n s k asked (marked n S)) now (opening_text C s k asked (marked n S)) begun.3 first
    (replies_goes_on C s begun.2 (dialog_opened C n s k asked (marked n S)) begun.3 now first.asks begun.4))

-- a request comes
pushed_at : (xs : List Asked) (one : Asked) (m : ℕ) → m ≡ length xs → slice_get (xs ++ one ∷ []) m ≡ Some one
pushed_at [] one zero is = refl
pushed_at [] one (suc m) is = absurd (omega arith)
pushed_at (x ∷ xs) one zero is = absurd (omega arith)
pushed_at (x ∷ xs) one (suc m) is = pushed_at xs one m (omega arith)

pushed_other : (xs : List Asked) (one : Asked) (m : ℕ) → m ≢ length xs → slice_get (xs ++ one ∷ []) m ≡ slice_get xs m
pushed_other [] one zero other = absurd (other refl)
pushed_other [] one (suc m) other = refl
pushed_other (x ∷ xs) one zero other = refl
pushed_other (x ∷ xs) one (suc m) other = pushed_other xs one m (λ same. other (ap suc same))

past_end : (xs : List Asked) (m : ℕ) → m ≡ length xs → slice_get xs m ≡ None
past_end [] m is = refl
past_end (x ∷ xs) zero is = absurd (omega arith)
past_end (x ∷ xs) (suc m) is = past_end xs m (omega arith)

begun_pushed : (xs : List Asked) (one : Asked) (r t : ℕ) → IsBegunAt (slice_get xs r) t → IsBegunAt (slice_get (xs ++ one ∷ []) r) t
begun_pushed [] one r t begun = absurd begun
begun_pushed (x ∷ xs) one zero t begun = begun
begun_pushed (x ∷ xs) one (suc r) t begun = begun_pushed xs one r t begun

-- How many lines answer a request when it comes.
abbrev pub answers_now : Way → ℕ
answers_now way.NotOwned = 1
answers_now (way.Down s) = 1
answers_now (way.To s k) = 0

came_count : (m : ℕ) (way : Way) (one : Asked) (S now : Stage) → one.goes ≡ goes_of way → one.has_begun ≡ false → now.requests ≡ S.requests ++ one ∷ [] → now.stands ≡ S.stands → (b : Bool) → (length S.requests == m) ≡ b
    → replies S m + cond b (answers_now way) 0 ≡ replies now m
came_count m way.NotOwned one S now goes waits requests same true is =
    let last : m ≡ length S.requests = sym (eqb-true (length S.requests) m is) in
    rw (requests, pushed_at S.requests one m last, past_end S.requests m last, goes) refl
came_count m (way.Down s) one S now goes waits requests same true is =
    let last : m ≡ length S.requests = sym (eqb-true (length S.requests) m is) in
    rw (requests, pushed_at S.requests one m last, past_end S.requests m last, goes) refl
came_count m (way.To s k) one S now goes waits requests same true is =
    let last : m ≡ length S.requests = sym (eqb-true (length S.requests) m is) in
    rw (requests, pushed_at S.requests one m last, past_end S.requests m last, goes, waits) refl
came_count m way one S now goes waits requests same false is =
    let apart : m ≢ length S.requests = (λ (last : m ≡ length S.requests). eqb-false (length S.requests) m is (sym last)) in
    let found : slice_get now.requests m ≡ slice_get S.requests m = ap (λ (xs : List Asked). slice_get xs m) requests ∙ pushed_other S.requests one m apart in
    let after : replies now m ≡ replies S m = rw found (same_of m (slice_get S.requests m) (asking S) (asking now) (ask_stands S now same)) in
    omega arith

nothing_now : (b : Bool) → ◌≡◌ {A = ℕ} 0 (cond b 0 0)
nothing_now true = refl
nothing_now false = refl

way_told : (C : Config) (n : ℕ) (way : Way) (method : List ℕ) → (more : List Told) × (way_text n way method ≡ told_text C more) × ((m : ℕ) → answers_to m more ≡ cond (n == m) (answers_now way) 0)
way_told C n way.NotOwned method = (ToldAnswer n (own_response 404 method) ∷ [], sym (append-nil (answer_line n (own_response 404 method))), λ m. add-zero (cond (n == m) 1 0))
way_told C n (way.Down s) method = (ToldAnswer n (own_response 503 method) ∷ [], sym (append-nil (answer_line n (own_response 503 method))), λ m. add-zero (cond (n == m) 1 0))
way_told C n (way.To s k) method = ([], refl, λ m. nothing_now (n == m))

replies_came : (C : Config) (way : Way) (one : Asked) (method : List ℕ) (S now : Stage) → AreAsking S → one.goes ≡ goes_of way → one.has_begun ≡ false → now.requests ≡ S.requests ++ one ∷ [] → now.stands ≡ S.stands
    → Replies C S (way_text (length S.requests) way method) now
replies_came C way one method S now all goes waits requests same =
    let told : (more : List Told) × (way_text (length S.requests) way method ≡ told_text C more) × ((m : ℕ) → answers_to m more ≡ cond (length S.requests == m) (answers_now way) 0)
    = way_told C (length S.requests) way method in
    record {
      more = told.0;
      text_is = told.1;
      count = λ m. rw (told.2 m) (came_count m way one S now goes waits requests same (length S.requests == m) refl);
      asks = λ t r is. rw requests (begun_pushed S.requests one r t (all t r (sym (ask_stands S now same t) ∙ is)));
    }

-- a request that is pending wasn't begun
not_begun : (goes begun : Bool) → not (goes && not begun) ≡ false → begun ≡ false
not_begun true true is = is
not_begun true false is = refl
not_begun false true is = let never : ⊥ = cc in absurd never
not_begun false false is = refl

replies_dialog : (C : Config) (seed : List ℕ) (n : ℕ) (S : Stage) (text : List ℕ) (now : Stage) → IsGood C seed S → AreAsking S → refusal (line.Dialog n) S ≡ None → Does C seed (line.Dialog n) S text now → Replies C S text now
replies_dialog C seed n S text now g all unrefused does =
    let may : MayBegin does.1 does.2 S = dialog_may_begin C seed n S text now g unrefused does in
    let pending : not (is_pending (slice_get S.requests n)) ≡ false
    = (unbroken (not (is_pending (slice_get S.requests n))) 5 (broken (is_busy_request (slice_get S.requests n) S) 6 None) unrefused).0 in
    let here : not (is_pending (Some does.0)) ≡ false = rw does.3 at pending in
    replies_begun C n does.1 does.2 does.0 S text now all
    (record { found = does.3; goes = does.4; waits = not_begun (is_some does.0.goes) does.0.has_begun here; shut = ap request_of may.shut }) may.declared does.5

-- each line
replies_line : (C : Config) (seed : List ℕ) (line : Line) (S : Stage) (text : List ℕ) (now : Stage) → IsGood C seed S → AreAsking S → LineFits C line → refusal line S ≡ None → Does C seed line S text now → Replies C S text now
replies_line C seed (line.Begin s) S text now g all fits unrefused does = rw (does.0, does.1) (replies_columns C S (begins s S) all refl refl)
replies_line C seed (line.Install s at) S text now g all fits unrefused does = rw (does.0, does.1) (replies_columns C S (installed seed s at S) all refl refl)
replies_line C seed (line.Revoke s at) S text now g all fits unrefused does = rw (does.0, does.1) (replies_columns C S (revoked s at S) all refl refl)
replies_line C seed (line.Boot s) S text now g all fits unrefused does =
    rw (does.0, does.1)
    (replies_booted C seed s (greatest S s) (stand S s).open_dialog S S (record { good = g; declared = rw g.stands_are fits; fresh = good_install C seed s S (last_booted (stand S s).past) unrefused }) all refl refl)
replies_line C seed (line.Up s) S text now g all fits unrefused does = rw (does.0, does.1) (replies_columns C S (upped s S) all refl refl)
replies_line C seed (line.Down s) S text now g all fits unrefused does = rw (does.0, does.1) (replies_columns C S (downed s S) all refl refl)
replies_line C seed (line.Launch s) S text now g all fits unrefused does = rw (does.0, does.1) (replies_launched C seed s S g fits all)
replies_line C seed (line.Relaunch s) S text now g all fits unrefused does = rw (does.0, does.1) (replies_relaunched C seed s S g fits all)
replies_line C seed (line.Accept method target content) S text now g all fits unrefused does =
    rw does.1
    (replies_came C (accept_verdict C S.seen.okd (path target))
    (record { method = method; head = request_head method target content; content = content; goes = goes_of (accept_verdict C S.seen.okd (path target)); has_begun = false }) (method_text method) S now all refl refl
    (ap (λ (T : Stage). T.requests) does.0) (ap (λ (T : Stage). T.stands) does.0))
replies_line C seed (line.Dialog n) S text now g all fits unrefused does = replies_dialog C seed n S text now g all unrefused does
replies_line C seed (line.Bytes s bytes) S text now g all fits unrefused does =
    let first : Replies C S [] (given s bytes S) = replies_nothing C S (given s bytes S) all refl (ask_same s S.stands (record (stand S s) { left = (stand S s).left ++ bytes }) (rw g.stands_are fits) refl) in
    replies_then C S (given s bytes S) now [] text first (replies_goes_on C s does.0 (given s bytes S) text now first.asks does.1)
replies_line C seed (line.End s) S text now g all fits unrefused does =
    let first : Replies C S [] (has_ended s S) = replies_nothing C S (has_ended s S) all refl (ask_same s S.stands (record (stand S s) { has_ended = true }) (rw g.stands_are fits) refl) in
    replies_then C S (has_ended s S) now [] text first (replies_goes_on C s does.0 (has_ended s S) text now first.asks does.1)
replies_line C seed (line.Publish t content) S text now g all fits unrefused does = rw (does.0, does.1) (replies_columns C S (with_seen S (at_pubd (pubd.Publish t content) S.seen)) all refl refl)

-- the lines one after another
first_asking : (C : Config) → AreAsking (first_stage C)
first_asking C s r is = absurd (none_some r (asking (first_stage C) s) (ap (λ (x : Stand). request_of x.open_dialog) (replicate_at (length C.services) s empty_stand)) is)

replies_run : (C : Config) (seed : List ℕ) (lines : List Line) (printed : List ℕ) (now : Stage) → Each (LineFits C) lines → PlaysAll C seed lines printed now → Replies C (first_stage C) printed now
replies_run C seed [] printed now fits run = rw (run.0, run.1) (replies_columns C (first_stage C) (first_stage C) (first_asking C) refl refl)
replies_run C seed (line ∷ lines) printed now fits run =
    let before : Replies C (first_stage C) run.1 run.0 = replies_run C seed lines run.1 run.0 fits.1 run.3 in
    rw run.5
    (replies_then C (first_stage C) run.0 now run.1 run.2 before
    (replies_line C seed line run.0 run.2 now (good_run C seed lines run.1 run.0 fits.1 run.3) before.asks fits.0 run.4.0 run.4.1))

pub script_runs_answer_once : (C : Config) (seed : List ℕ) (lines : List Line) (printed : List ℕ) (stage : Stage)
    → Each (LineFits C) lines → PlaysAll C seed (reverse lines) printed stage → AnswersOnce C stage printed
script_runs_answer_once C seed lines printed stage fits run =
    let all : Replies C (first_stage C) printed stage = replies_run C seed (reverse lines) printed stage (each_reverse (LineFits C) lines fits) run in
    record { lines = all.more; text_is = all.text_is; answers_are = λ n. let counted : 0 + answers_to n all.more ≡ replies stage n = all.count n in omega arith }
