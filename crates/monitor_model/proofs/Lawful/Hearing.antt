-- What a step of a run adds to what the incarnations heard, and to what is printed.
use Rattle.std.proofs.Common.{◌≡◌, ◌≢◌, ℕ, ◌<◌, Bool, true, false, cond, List, [], ◌∷◌, ◌++◌, map, reverse, refl, sym, ◌∙◌, length, ◌==◌, eq-eqb, ne_eqb, eqb-true, get_or-set_same, get_or-set_other, subst, append_assoc, append-nil}
use Rattle.std.specs.Prelude.{slice_set, slice_index_or, flat_map}
use Rattle.std.proofs.lemmas.Bool.{eqb-false}
use Rattle.std.proofs.lemmas.Grind.{flat_map-append}
use Rattle.std.proofs.lemmas.List.Folds.{flat_map-map}
use Rattle.std.proofs.lemmas.List.{reverse-append}
use Rattle.okws_plan.specs.declared.configuration.Config.{Config}
use Rattle.frame_codec.specs.Spelling.{server_spelling}
use Rattle.frame_codec.specs.declared.frame.ServerFrame.{ServerFrame}
use Rattle.monitor_model.specs.declared.record.Item.{Item}
use Rattle.monitor_model.specs.declared.record.Item.TheVariants.{Heard, Said}
use Rattle.monitor_model.specs.declared.verdict.Push.{Push}
use Rattle.monitor_model.specs.Cell.{heard}
use Rattle.monitor_model.specs.Course.{heard_text, opening, push_frame}
use Rattle.monitor_model.specs.Stage.{Stand, empty_stand, heard_line, answer_line}
use Rattle.monitor_model.specs.Told.{Told, ToldFrame, ToldAnswer, told_line, told_text, told_at, told_to}
use Rattle.monitor_model.proofs.Lawful.Records.{journal}

-- What incarnation k of cell t heard.
abbrev pub heard_by : Config → List ℕ → List Stand → ℕ → ℕ → List ℕ
heard_by C seed stands t k = heard C seed t k (journal (slice_index_or stands t empty_stand))

-- The lines that were printed tell what was heard more.
pub record Adds (C : Config) (seed : List ℕ) (was : List Stand) (text : List ℕ) (now : List Stand) : Type 0 where
  pub more : List Told
  pub text_is : text ≡ told_text C more
  pub heard_is : (t k : ℕ) → heard_by C seed now t k ≡ heard_by C seed was t k ++ told_to t k more

-- nothing, and one after another
pub adds_nothing : (C : Config) (seed : List ℕ) (stands : List Stand) → Adds C seed stands [] stands
adds_nothing C seed stands = record { more = []; text_is = refl; heard_is = λ t k. sym (append-nil (heard_by C seed stands t k)) }

pub adds_then : (C : Config) (seed : List ℕ) (was mid now : List Stand) (before after : List ℕ) → Adds C seed was before mid → Adds C seed mid after now → Adds C seed was (before ++ after) now
adds_then C seed was mid now before after a b = record {
  more = a.more ++ b.more;
  text_is = rw (a.text_is, b.text_is, flat_map-append (told_line C) a.more b.more) refl;
  heard_is = λ t k. rw (b.heard_is t k, a.heard_is t k, flat_map-append (told_at t k) a.more b.more) (append_assoc (heard_by C seed was t k) (told_to t k a.more) (told_to t k b.more));
}

-- one cell changes
pub stand_when : (P : ℕ → Stand → Type 0) (s t : ℕ) (stands : List Stand) (there : Stand) → s < length stands → P s there → (s ≢ t → P t (slice_index_or stands t empty_stand))
    → (b : Bool) → (s == t) ≡ b → P t (slice_index_or (slice_set stands s there) t empty_stand)
stand_when P s t stands there declared here rest true same =
    subst (λ (r : ℕ). P r (slice_index_or (slice_set stands s there) r empty_stand)) (eqb-true s t same) (rw (get_or-set_same stands s there empty_stand declared) here)
stand_when P s t stands there declared here rest false same =
    let apart : t ≢ s = (λ (is : t ≡ s). eqb-false s t same (sym is)) in
    rw (get_or-set_other stands s t there empty_stand apart) (rest (λ is. apart (sym is)))

pub adds_at : (C : Config) (seed : List ℕ) (s : ℕ) (stands : List Stand) (there : Stand) (text : List ℕ) (more : List Told) → s < length stands → text ≡ told_text C more
    → ((k : ℕ) → heard C seed s k (journal there) ≡ heard_by C seed stands s k ++ told_to s k more)
    → ((t k : ℕ) → s ≢ t → told_to t k more ≡ [])
    → Adds C seed stands text (slice_set stands s there)
adds_at C seed s stands there text more declared text_is here none = record {
  more = more;
  text_is = text_is;
  heard_is = λ t k.
      stand_when (λ (r : ℕ) (x : Stand). heard C seed r k (journal x) ≡ heard_by C seed stands r k ++ told_to r k more) s t stands there declared (here k)
      (λ apart. rw (none t k apart) (sym (append-nil (heard_by C seed stands t k)))) (s == t) refl;
}

-- no frame was heard
pub adds_quiet : (C : Config) (seed : List ℕ) (s : ℕ) (stands : List Stand) (there : Stand) → s < length stands → ((k : ℕ) → heard C seed s k (journal there) ≡ heard_by C seed stands s k)
    → Adds C seed stands [] (slice_set stands s there)
adds_quiet C seed s stands there declared same =
    adds_at C seed s stands there [] [] declared refl (λ k. same k ∙ sym (append-nil (heard_by C seed stands s k))) (λ t k apart. refl)

pub adds_answer : (C : Config) (seed : List ℕ) (s n : ℕ) (text : List ℕ) (stands : List Stand) (there : Stand) → s < length stands
    → ((k : ℕ) → heard C seed s k (journal there) ≡ heard_by C seed stands s k) → Adds C seed stands (answer_line n text) (slice_set stands s there)
adds_answer C seed s n text stands there declared same =
    adds_at C seed s stands there (answer_line n text) (ToldAnswer n text ∷ []) declared (sym (append-nil (answer_line n text)))
    (λ k. same k ∙ sym (append-nil (heard_by C seed stands s k))) (λ t k apart. refl)

pub adds_answer_alone : (C : Config) (seed : List ℕ) (n : ℕ) (text : List ℕ) (stands : List Stand) → Adds C seed stands (answer_line n text) stands
adds_answer_alone C seed n text stands = record {
  more = ToldAnswer n text ∷ [];
  text_is = sym (append-nil (answer_line n text));
  heard_is = λ t k. sym (append-nil (heard_by C seed stands t k));
}

-- frames of one incarnation
pub frames_told : (C : Config) (s k : ℕ) (frames : List ServerFrame) → flat_map (heard_line C s k) frames ≡ told_text C (map (ToldFrame s k) frames)
frames_told C s k frames = sym (flat_map-map (told_line C) (ToldFrame s k) frames)

frames_here : (s k j : ℕ) (frames : List ServerFrame) (b : Bool) → (k == j) ≡ b → told_to s j (map (ToldFrame s k) frames) ≡ cond b (flat_map server_spelling frames) []
frames_here s k j [] true same = refl
frames_here s k j [] false same = refl
frames_here s k j (frame ∷ more) true same = rw (frames_here s k j more true same, eq-eqb s s refl, same) refl
frames_here s k j (frame ∷ more) false same = rw (frames_here s k j more false same, eq-eqb s s refl, same) refl

frames_elsewhere : (s k t j : ℕ) (frames : List ServerFrame) → s ≢ t → told_to t j (map (ToldFrame s k) frames) ≡ []
frames_elsewhere s k t j [] apart = refl
frames_elsewhere s k t j (frame ∷ more) apart = rw (frames_elsewhere s k t j more apart, ne_eqb s t apart) refl

pub adds_frames : (C : Config) (seed : List ℕ) (s k : ℕ) (frames : List ServerFrame) (stands : List Stand) (there : Stand) → s < length stands
    → ((j : ℕ) → heard C seed s j (journal there) ≡ heard_by C seed stands s j ++ cond (k == j) (flat_map server_spelling frames) [])
    → Adds C seed stands (flat_map (heard_line C s k) frames) (slice_set stands s there)
adds_frames C seed s k frames stands there declared here =
    adds_at C seed s stands there (flat_map (heard_line C s k) frames) (map (ToldFrame s k) frames) declared (frames_told C s k frames)
    (λ j. rw (frames_here s k j frames (k == j) refl) (here j)) (λ t j apart. frames_elsewhere s k t j frames apart)

pub adds_frame : (C : Config) (seed : List ℕ) (s k : ℕ) (frame : ServerFrame) (stands : List Stand) (there : Stand) → s < length stands
    → ((j : ℕ) → heard C seed s j (journal there) ≡ heard_by C seed stands s j ++ cond (k == j) (server_spelling frame) [])
    → Adds C seed stands (heard_line C s k frame) (slice_set stands s there)
adds_frame C seed s k frame stands there declared here =
    rw (append-nil (heard_line C s k frame)) at
    (adds_frames C seed s k (frame ∷ []) stands there declared (λ j. rw (append-nil (server_spelling frame)) (here j)))

-- what a dialog's opening lets hear
pub heard_append : (xs ys : List Item) → heard_text (xs ++ ys) ≡ heard_text ys ++ heard_text xs
heard_append [] ys = sym (append-nil (heard_text ys))
heard_append (Heard frame ∷ xs) ys = rw (heard_append xs ys) (append_assoc (heard_text ys) (heard_text xs) (server_spelling frame))
heard_append (Said frame ∷ xs) ys = heard_append xs ys

heard_pushes : (pushes : List Push) → heard_text (reverse (map (λ (push : Push). Heard (push_frame push)) pushes)) ≡ flat_map server_spelling (map push_frame pushes)
heard_pushes [] = refl
heard_pushes (push ∷ more) =
    let items : List Item = map (λ (one : Push). Heard (push_frame one)) more in
    let turned : reverse (Heard (push_frame push) ∷ items) ≡ reverse items ++ Heard (push_frame push) ∷ [] = reverse-append (Heard (push_frame push) ∷ []) items in
    rw (turned, heard_append (reverse items) (Heard (push_frame push) ∷ []), heard_pushes more) refl

pub heard_opening : (pushes : List Push) (request : ServerFrame) → heard_text (opening pushes request) ≡ flat_map server_spelling (map push_frame pushes ++ request ∷ [])
heard_opening pushes request =
    rw (heard_pushes pushes, flat_map-append server_spelling (map push_frame pushes) (request ∷ []), append-nil (server_spelling request)) refl
