-- A dialog of a service at rest: it is accepted, it begins, its frames are said one by one, and the Reply leaves the service at rest.
use Rattle.std.proofs.Common.{◌≡◌, ◌∙◌, ℕ, zero, suc, ◌<◌, Bool, true, false, List, [], ◌∷◌, ◌++◌, length, map, reverse, Option, Some, None, refl, sym, ap, subst, arith, inl, inr}
use Rattle.std.specs.Prelude.{not, slice_get}
use Rattle.std.proofs.lemmas.List.{length-append, length-set}
use Rattle.std.proofs.lemmas.Option.{same_Some}
use Rattle.okws_plan.specs.Configuration.{owner}
use Rattle.okws_plan.specs.declared.configuration.Config.{Config}
use Rattle.okws_plan.specs.declared.script.Line.TheVariants as line
use Rattle.okws_plan.specs.declared.event.OkdEvent.TheVariants as okd
use Rattle.frame_codec.specs.declared.frame.ServerFrame.{ServerFrame}
use Rattle.frame_codec.specs.declared.frame.ServerFrame.TheVariants as frame
use Rattle.frame_codec.proofs.Apart.{short_begins_none}
use Rattle.monitor_model.specs.declared.record.Item.{Item}
use Rattle.monitor_model.specs.declared.record.Item.TheVariants.{Heard}
use Rattle.monitor_model.specs.declared.verdict.Way.{Way}
use Rattle.monitor_model.specs.declared.verdict.Way.TheVariants as way
use Rattle.monitor_model.specs.Cell.{incarnation}
use Rattle.monitor_model.specs.Course.{opening, said_count, push_frame}
use Rattle.monitor_model.specs.Okd.{accept_verdict, way_of, way_up}
use Rattle.monitor_model.specs.Pubd.{drain_verdict}
use Rattle.monitor_model.specs.Script.{Begun, Does, GoesOn, IsReady, accepted, at_okd, broken, dialog_opened, is_busy_request, is_pending, marked, refusal}
use Rattle.monitor_model.specs.Stage.{Asked, Stage, Stand, marked_begun, stand, with_seen, with_stand}
use Rattle.monitor_model.specs.Standing.{up_at_okd}
use Rattle.monitor_model.specs.declared.verdict.Push.{Push}
use Rattle.monitor_model.proofs.Lawful.Answered.{IsHeard, all_heard, none_said}
use Rattle.monitor_model.proofs.Lawful.Plain.{each_reverse}
use Rattle.play_script.proofs.Rests.{Beside, Rests, Speaks, beside_stand, beside_then, stand_here}

-- ---- a request is accepted

-- Request n goes to incarnation k of s, and its dialog was not begun.
pub record IsAsked (S : Stage) (s k n : ℕ) : Type 0 where
  pub asked : Asked
  pub found : slice_get S.requests n ≡ Some asked
  pub goes_is : asked.goes ≡ Some (s, k)
  pub fresh : asked.has_begun ≡ false

last_at : {A : Type 0} (xs : List A) (x : A) (n : ℕ) → n ≡ length xs → slice_get (xs ++ x ∷ []) n ≡ Some x
last_at [] x zero e = refl
last_at [] x (suc n) e = absurd (omega (arith, e))
last_at (y ∷ xs) x zero e = absurd (omega (arith, e))
last_at (y ∷ xs) x (suc n) e = last_at xs x n (omega (arith, e))

-- The state once a request of these parts is accepted, which goes this way.
abbrev pub after_accept : Asked → List ℕ → Way → Stage → Stage
after_accept asked target goes S = accepted goes asked (with_seen S (at_okd (okd.Accept target) S.seen))

pub beside_accept : (s : ℕ) (asked : Asked) (target : List ℕ) (goes : Way) (S : Stage) → Beside s 1 0 S (after_accept asked target goes S)
beside_accept s asked target goes S = record {
  begun_is = λ t apart. refl;
  up_is = λ t apart. refl;
  stand_is = λ t apart. refl;
  cells_are = refl;
  requests_are = simp length-append (omega arith);
  editions = omega arith;
}

pub rests_accept : (s k : ℕ) (asked : Asked) (target : List ℕ) (goes : Way) (S : Stage) → Rests S s k → Rests (after_accept asked target goes S) s k
rests_accept s k asked target goes S r = record {
  calm = record {
    first = r.calm.first;
    greatest_is = r.calm.greatest_is;
    there = r.calm.there;
    up = r.calm.up;
    left_is = r.calm.left_is;
    goes_on = r.calm.goes_on;
    within = r.calm.within;
  };
  shut = r.shut;
}

pub asked_accept : (s k n : ℕ) (asked : Asked) (target : List ℕ) (S : Stage) → asked.has_begun ≡ false → n ≡ length S.requests → IsAsked (after_accept asked target (way.To s k) S) s k n
asked_accept s k n asked target S fresh is = record {
  asked = record asked { goes = Some (s, k) };
  found = last_at S.requests (record asked { goes = Some (s, k) }) n is;
  goes_is = refl;
  fresh = fresh;
}

pub accept_way : (C : Config) (s k : ℕ) (target : List ℕ) (S : Stage) → owner C target ≡ Some s → up_at_okd S.seen.okd s ≡ Some k → accept_verdict C S.seen.okd target ≡ way.To s k
accept_way C s k target S owned up = ap (λ (o : Option ℕ). way_of S.seen.okd o) owned ∙ ap (λ (o : Option ℕ). way_up s o) up

-- ---- its dialog begins

pending_is : (o : Option Asked) (asked : Asked) (s k : ℕ) → o ≡ Some asked → asked.goes ≡ Some (s, k) → asked.has_begun ≡ false → is_pending o ≡ true
pending_is o asked s k is goes fresh = rw is (rw (goes, fresh) refl)

busy_is : (o : Option Asked) (asked : Asked) (s k : ℕ) (S : Stage) → o ≡ Some asked → asked.goes ≡ Some (s, k) → (stand S s).open_dialog ≡ None → is_busy_request o S ≡ false
busy_is o asked s k S is goes shut = rw is (rw (goes, shut) refl)

allowed : (pending busy : Bool) → pending ≡ true → busy ≡ false → broken (not pending) 5 (broken busy 6 None) ≡ None
allowed pending busy p b = rw (p, b) refl

pub dialog_allowed : (s k n : ℕ) (S : Stage) → IsAsked S s k n → (stand S s).open_dialog ≡ None → refusal (line.Dialog n) S ≡ None
dialog_allowed s k n S a shut =
    allowed (is_pending (slice_get S.requests n)) (is_busy_request (slice_get S.requests n) S) (pending_is (slice_get S.requests n) a.asked s k a.found a.goes_is a.fresh)
    (busy_is (slice_get S.requests n) a.asked s k S a.found a.goes_is shut)

length_marked : (n : ℕ) (requests : List Asked) → length (marked_begun n requests) ≡ length requests
length_marked n [] = refl
length_marked zero (asked ∷ more) = refl
length_marked (suc n) (asked ∷ more) = ap (λ (m : ℕ). suc m) (length_marked n more)

-- no whole frame is left, and more may come
not_ready : (there : Stand) → there.left ≡ [] → there.has_ended ≡ false → IsReady there → ⊥
not_ready there left goes_on (inl whole) = short_begins_none there.left (inl (omega (arith, ap (λ (bytes : List ℕ). length bytes) left))) whole.0 whole.1 whole.2
not_ready there left goes_on (inr (inl bad)) = bad.1 (inl (omega (arith, ap (λ (bytes : List ℕ). length bytes) left)))
not_ready there left goes_on (inr (inr ended)) = let never : ⊥ = cc in never

-- so the cell waits
pub waits : (C : Config) (s steps : ℕ) (S now : Stage) (text : List ℕ) → (stand S s).left ≡ [] → (stand S s).has_ended ≡ false → GoesOn C s steps S text now → now ≡ S
waits C s zero S now text left goes_on h = h.1
waits C s (suc steps) S now text left goes_on h = absurd (not_ready (stand S s) left goes_on h.5)

-- the cell of s once the dialog of request n is open, by these pushes and this Request
abbrev opened_items : Config → ℕ → ℕ → Asked → Stage → List Item
opened_items C s k asked S = opening (drain_verdict C S.seen.pubd s k) (frame.Request asked.head asked.content)

abbrev opened_there : Config → ℕ → ℕ → ℕ → Asked → Stage → Stand
opened_there C n s k asked S = record (stand S s) { open_dialog = Some (record { request = n; items = opened_items C s k asked S }) }

opening_said : (pushes : List Push) (request : ServerFrame) → said_count (opening pushes request) ≡ 0
opening_said pushes request = none_said (reverse (map (λ (push : Push). Heard (push_frame push)) pushes)) (each_reverse IsHeard (map (λ (push : Push). Heard (push_frame push)) pushes) (all_heard pushes))

speaks_opened : (C : Config) (n s k : ℕ) (asked : Asked) (S : Stage) → Rests S s k → Speaks (dialog_opened C n s k asked S) s k 0 []
speaks_opened C n s k asked S r =
    let there : Stand = opened_there C n s k asked S in
    let here : stand (with_stand S s there) s ≡ there = stand_here S s there r.calm.within in
    record {
      calm = record {
        first = r.calm.first;
        greatest_is = r.calm.greatest_is;
        there = ap (λ (x : Stand). incarnation x.past) here ∙ r.calm.there;
        up = r.calm.up;
        left_is = ap (λ (x : Stand). x.left) here ∙ r.calm.left_is;
        goes_on = ap (λ (x : Stand). x.has_ended) here ∙ r.calm.goes_on;
        within = subst (λ (n : ℕ). s < n) (sym (length-set S.stands s there)) r.calm.within;
      };
      opened = record { request = n; items = opened_items C s k asked S };
      open_is = ap (λ (x : Stand). x.open_dialog) here;
      said_is = opening_said (drain_verdict C S.seen.pubd s k) (frame.Request asked.head asked.content);
    }

beside_opened : (C : Config) (n s k : ℕ) (asked : Asked) (S : Stage) → Beside s 0 0 S (dialog_opened C n s k asked S)
beside_opened C n s k asked S =
    let h : Beside s 0 0 S (with_stand S s (opened_there C n s k asked S)) = beside_stand s S (opened_there C n s k asked S) in
    record { begun_is = h.begun_is; up_is = h.up_is; stand_is = h.stand_is; cells_are = h.cells_are; requests_are = h.requests_are; editions = h.editions }

beside_marked : (s n : ℕ) (S : Stage) → Beside s 0 0 S (marked n S)
beside_marked s n S = record {
  begun_is = λ t apart. refl;
  up_is = λ t apart. refl;
  stand_is = λ t apart. refl;
  cells_are = refl;
  requests_are = omega (arith, length_marked n S.requests);
  editions = omega arith;
}

rests_marked : (s k n : ℕ) (S : Stage) → Rests S s k → Rests (marked n S) s k
rests_marked s k n S r = record {
  calm = record { first = r.calm.first; greatest_is = r.calm.greatest_is; there = r.calm.there; up = r.calm.up; left_is = r.calm.left_is; goes_on = r.calm.goes_on; within = r.calm.within };
  shut = r.shut;
}

-- What holds once s speaks as incarnation k, and has said so many frames: m requests and at most e editions came besides.
abbrev pub Talks : ℕ → ℕ → ℕ → ℕ → ℕ → Stage → Stage → Type 0
Talks s k n m e S T = Speaks T s k n [] × Beside s m e S T

-- the dialog of a service at rest opens
begun_opens : (C : Config) (n s k : ℕ) (asked : Asked) (S now : Stage) (text : List ℕ) → Rests S s k → Begun C n s k asked S text now → now ≡ dialog_opened C n s k asked S
begun_opens C n s k asked S now text r (inl missed) = absurd (missed.0 r.calm.there)
begun_opens C n s k asked S now text r (inr (inl above)) = absurd (omega (arith, above.1, r.calm.greatest_is))
begun_opens C n s k asked S now text r (inr (inr opens)) =
    let speaks : Speaks (dialog_opened C n s k asked S) s k 0 [] = speaks_opened C n s k asked S r in
    waits C s opens.2 (dialog_opened C n s k asked S) now opens.3 speaks.calm.left_is speaks.calm.goes_on opens.4

goes_to : (o : Option (ℕ × ℕ)) (s k t j : ℕ) → o ≡ Some (s, k) → o ≡ Some (t, j) → (t ≡ s) × (j ≡ k)
goes_to o s k t j e f =
    let same : (t, j) ≡ (s, k) = same_Some (t, j) (s, k) (sym f ∙ e) in
    (ap (λ (x : ℕ × ℕ). x.0) same, ap (λ (x : ℕ × ℕ). x.1) same)

pub dialog_opens : (C : Config) (seed : List ℕ) (s k n : ℕ) (S now : Stage) (text : List ℕ) → Rests S s k → IsAsked S s k n → Does C seed (line.Dialog n) S text now → Talks s k 0 0 0 S now
dialog_opens C seed s k n S now text r a does =
    let same : does.0 ≡ a.asked = same_Some does.0 a.asked (sym does.3 ∙ a.found) in
    let to : (does.1 ≡ s) × (does.2 ≡ k) = goes_to does.0.goes s k does.1 does.2 (ap (λ (x : Asked). x.goes) same ∙ a.goes_is) does.4 in
    let there : Begun C n s k does.0 (marked n S) text now
    = subst (λ (j : ℕ). Begun C n s j does.0 (marked n S) text now) to.1 (subst (λ (t : ℕ). Begun C n t does.2 does.0 (marked n S) text now) to.0 does.5) in
    let rests : Rests (marked n S) s k = rests_marked s k n S r in
    let is : now ≡ dialog_opened C n s k does.0 (marked n S) = begun_opens C n s k does.0 (marked n S) now text rests there in
    subst (λ (T : Stage). Talks s k 0 0 0 S T) (sym is) (
      speaks_opened C n s k does.0 (marked n S) rests,
      beside_then s 0 0 0 0 S (marked n S) (dialog_opened C n s k does.0 (marked n S)) (beside_marked s n S) (beside_opened C n s k does.0 (marked n S)),
    )
