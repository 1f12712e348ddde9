-- What a step of a run answers.
use Rattle.std.proofs.Common.{◌≡◌, ◌≢◌, ℕ, ◌+◌, Bool, true, false, cond, List, [], ◌∷◌, ◌++◌, Option, Some, None, map, refl, ap, sym, ◌∙◌, arith, ◌==◌, eq-eqb, ne_eqb, eqb-true, append-nil, subst}
use Rattle.std.specs.Prelude.{slice_get, flat_map}
use Rattle.std.proofs.lemmas.Bool.{eqb-false}
use Rattle.std.proofs.lemmas.Grind.{flat_map-append}
use Rattle.okws_base.specs.Past.{is_just}
use Rattle.okws_plan.specs.declared.configuration.Config.{Config}
use Rattle.frame_codec.specs.declared.frame.ServerFrame.{ServerFrame}
use Rattle.monitor_model.specs.Stage.{Stage, Asked, heard_line, answer_line}
use Rattle.monitor_model.specs.Told.{Told, ToldFrame, ToldAnswer, told_line, told_text}
use Rattle.monitor_model.specs.Replied.{answers_to, asking, replies, replies_of, replies_where}
use Rattle.monitor_model.proofs.Lawful.Hearing.{frames_told}

-- A request's dialog was begun, and it goes to s.
abbrev pub IsBegunAt : Option Asked → ℕ → Type 0
IsBegunAt None s = ⊥
IsBegunAt (Some asked) s = (asked.has_begun ≡ true) × (k : ℕ) × (asked.goes ≡ Some (s, k))

-- Each open dialog is of a request that was begun, and goes there.
abbrev pub AreAsking : Stage → Type 0
AreAsking S = (s r : ℕ) → asking S s ≡ Some r → IsBegunAt (slice_get S.requests r) s

-- What a step prints answers what it answers.
pub record Replies (C : Config) (S : Stage) (text : List ℕ) (now : Stage) : Type 0 where
  pub more : List Told
  pub text_is : text ≡ told_text C more
  pub count : (n : ℕ) → replies S n + answers_to n more ≡ replies now n
  pub asks : AreAsking now

answers_append : (n : ℕ) (xs ys : List Told) → answers_to n (xs ++ ys) ≡ answers_to n xs + answers_to n ys
answers_append n [] ys = omega arith
answers_append n (x ∷ xs) ys = rw (answers_append n xs ys) (omega arith)

pub replies_then : (C : Config) (S mid now : Stage) (before after : List ℕ) → Replies C S before mid → Replies C mid after now → Replies C S (before ++ after) now
replies_then C S mid now before after a b = record {
  more = a.more ++ b.more;
  text_is = rw (a.text_is, b.text_is, flat_map-append (told_line C) a.more b.more) refl;
  count = λ n. rw (answers_append n a.more b.more) (let one : replies S n + answers_to n a.more ≡ replies mid n = a.count n in let two : replies mid n + answers_to n b.more ≡ replies now n = b.count n in omega arith);
  asks = b.asks;
}

-- no answer
same_where : (n : ℕ) (goes : Option (ℕ × ℕ)) (begun : Bool) (was now : ℕ → Option ℕ) → ((s : ℕ) → now s ≡ was s) → replies_where n goes begun now ≡ replies_where n goes begun was
same_where n None begun was now same = refl
same_where n (Some at) false was now same = refl
same_where n (Some at) true was now same = rw (same at.0) refl

pub same_of : (n : ℕ) (o : Option Asked) (was now : ℕ → Option ℕ) → ((s : ℕ) → now s ≡ was s) → replies_of n o now ≡ replies_of n o was
same_of n None was now same = refl
same_of n (Some asked) was now same = same_where n asked.goes asked.has_begun was now same

pub replies_quiet : (C : Config) (S now : Stage) (text : List ℕ) (more : List Told) → AreAsking S → now.requests ≡ S.requests → ((s : ℕ) → asking now s ≡ asking S s) → text ≡ told_text C more
    → ((n : ℕ) → answers_to n more ≡ 0) → Replies C S text now
replies_quiet C S now text more all requests same text_is none = record {
  more = more;
  text_is = text_is;
  count = λ n.
      let counted : replies now n ≡ replies S n = rw requests (same_of n (slice_get S.requests n) (asking S) (asking now) same) in
      rw (none n) (omega arith);
  asks = λ s r is. rw requests (all s r (sym (same s) ∙ is));
}

pub replies_nothing : (C : Config) (S now : Stage) → AreAsking S → now.requests ≡ S.requests → ((s : ℕ) → asking now s ≡ asking S s) → Replies C S [] now
replies_nothing C S now all requests same = replies_quiet C S now [] [] all requests same refl (λ n. refl)

pub no_answers : (s k n : ℕ) (frames : List ServerFrame) → answers_to n (map (ToldFrame s k) frames) ≡ 0
no_answers s k n [] = refl
no_answers s k n (frame ∷ more) = rw (no_answers s k n more) refl

pub replies_frames : (C : Config) (S now : Stage) (s k : ℕ) (frames : List ServerFrame) → AreAsking S → now.requests ≡ S.requests → ((t : ℕ) → asking now t ≡ asking S t)
    → Replies C S (flat_map (heard_line C s k) frames) now
replies_frames C S now s k frames all requests same =
    replies_quiet C S now (flat_map (heard_line C s k) frames) (map (ToldFrame s k) frames) all requests same (frames_told C s k frames) (λ n. no_answers s k n frames)

pub replies_frame : (C : Config) (S now : Stage) (s k : ℕ) (frame : ServerFrame) → AreAsking S → now.requests ≡ S.requests → ((t : ℕ) → asking now t ≡ asking S t)
    → Replies C S (heard_line C s k frame) now
replies_frame C S now s k frame all requests same = rw (append-nil (heard_line C s k frame)) at (replies_frames C S now s k (frame ∷ []) all requests same)

-- the open dialog of s ends
closed_where : (n s r : ℕ) (goes : Option (ℕ × ℕ)) (begun : Bool) (was now : ℕ → Option ℕ) → r ≢ n → was s ≡ Some r → now s ≡ None → ((t : ℕ) → s ≢ t → now t ≡ was t) → (at : ℕ) → (b : Bool) → (s == at) ≡ b
    → is_just n (now at) ≡ is_just n (was at)
closed_where n s r goes begun was now other open_is shut_is same at true is =
    subst (λ (t : ℕ). is_just n (now t) ≡ is_just n (was t)) (eqb-true s at is) (rw (open_is, shut_is, ne_eqb r n other) refl)
closed_where n s r goes begun was now other open_is shut_is same at false is = rw (same at (eqb-false s at is)) refl

closed_other : (n s r : ℕ) (goes : Option (ℕ × ℕ)) (begun : Bool) (was now : ℕ → Option ℕ) → r ≢ n → was s ≡ Some r → now s ≡ None → ((t : ℕ) → s ≢ t → now t ≡ was t)
    → replies_where n goes begun now ≡ replies_where n goes begun was
closed_other n s r None begun was now other open_is shut_is same = refl
closed_other n s r (Some at) false was now other open_is shut_is same = refl
closed_other n s r (Some at) true was now other open_is shut_is same = rw (closed_where n s r (Some at) true was now other open_is shut_is same at.0 (s == at.0) refl) refl

pub closed_of : (n s r : ℕ) (o : Option Asked) (was now : ℕ → Option ℕ) → r ≢ n → was s ≡ Some r → now s ≡ None → ((t : ℕ) → s ≢ t → now t ≡ was t) → replies_of n o now ≡ replies_of n o was
closed_of n s r None was now other open_is shut_is same = refl
closed_of n s r (Some asked) was now other open_is shut_is same = closed_other n s r asked.goes asked.has_begun was now other open_is shut_is same

open_before : (r s : ℕ) (o : Option Asked) (was : ℕ → Option ℕ) → IsBegunAt o s → was s ≡ Some r → replies_of r o was ≡ 0
open_before r s None was begun is = absurd begun
open_before r s (Some asked) was begun is = rw (begun.0, begun.2, is, eq-eqb r r refl) refl

shut_after : (r s : ℕ) (o : Option Asked) (now : ℕ → Option ℕ) → IsBegunAt o s → now s ≡ None → replies_of r o now ≡ 1
shut_after r s None now begun is = absurd begun
shut_after r s (Some asked) now begun is = rw (begun.0, begun.2, is) refl

closed_count : (n s r : ℕ) (o : Option Asked) (was now : ℕ → Option ℕ) → was s ≡ Some r → now s ≡ None → ((t : ℕ) → s ≢ t → now t ≡ was t) → (r ≡ n → IsBegunAt o s) → (b : Bool) → (r == n) ≡ b
    → replies_of n o was + (cond b 1 0 + 0) ≡ replies_of n o now
closed_count n s r o was now open_is shut_is same begun true is =
    let one : r ≡ n = eqb-true r n is in
    let before : replies_of n o was ≡ 0 = open_before n s o was (begun one) (open_is ∙ ap Some one) in
    let after : replies_of n o now ≡ 1 = shut_after n s o now (begun one) shut_is in
    rw (before, after) refl
closed_count n s r o was now open_is shut_is same begun false is = rw (closed_of n s r o was now (eqb-false r n is) open_is shut_is same) (omega arith)

none_some : (r : ℕ) (o : Option ℕ) → o ≡ None → o ≡ Some r → ⊥
none_some r o none some = cc

closed_asks : (S now : Stage) (s : ℕ) → AreAsking S → now.requests ≡ S.requests → asking now s ≡ None → ((t : ℕ) → s ≢ t → asking now t ≡ asking S t) → (t r : ℕ) → asking now t ≡ Some r → (b : Bool) → (s == t) ≡ b
    → IsBegunAt (slice_get now.requests r) t
closed_asks S now s all requests shut_is same t r is true here =
    absurd (none_some r (asking now s) shut_is (subst (λ (u : ℕ). asking now u ≡ Some r) (sym (eqb-true s t here)) is))
closed_asks S now s all requests shut_is same t r is false here = rw requests (all t r (sym (same t (eqb-false s t here)) ∙ is))

pub replies_closed : (C : Config) (S now : Stage) (s r : ℕ) (text : List ℕ) → AreAsking S → now.requests ≡ S.requests → asking S s ≡ Some r → asking now s ≡ None → ((t : ℕ) → s ≢ t → asking now t ≡ asking S t)
    → Replies C S (answer_line r text) now
replies_closed C S now s r text all requests open_is shut_is same = record {
  more = ToldAnswer r text ∷ [];
  text_is = sym (append-nil (answer_line r text));
  count = λ n.
      rw requests
      (closed_count n s r (slice_get S.requests n) (asking S) (asking now) open_is shut_is same (λ one. rw one at (all s r open_is)) (r == n) refl);
  asks = λ t q is. closed_asks S now s all requests shut_is same t q is (s == t) refl;
}
