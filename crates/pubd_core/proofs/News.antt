use Rattle.std.proofs.Common.{◌≡◌, ◌∙◌, ◌&&◌, ℕ, ◌+◌, ◌<◌, ◌≤◌, Bool, true, false, List, [], ◌∷◌, ◌++◌, Option, Some, refl, ap, arith, filter}
use Rattle.std.specs.Prelude.{nat_le, if◌then◌else◌}
use Rattle.okws_base.specs.Runs.{Each}
use Rattle.okws_plan.specs.Configuration.{reads}
use Rattle.okws_plan.specs.declared.configuration.Config.{Config}
use Rattle.monitor_model.specs.declared.verdict.Push.{Push}
use Rattle.pubd_core.specs.Readers.{heard_in, news_in, push_of, is_due, is_wanted, wanted}
use Rattle.pubd_core.specs.Tied.{AreBelow}
use Rattle.pubd_core.specs.declared.kept.Publication.{Publication}
use Rattle.pubd_core.specs.declared.readers.Reader.{Reader}
use Rattle.pubd_core.proofs.Heard.{wanted_by}

and_false : (b : Bool) → (b && false) ≡ false
and_false true = refl
and_false false = refl

and_true : (b : Bool) → (b && true) ≡ b
and_true true = refl
and_true false = refl

not_within : (m n : ℕ) → n < m → nat_le m n ≡ false
not_within m n h = grind (arith, h)

within : (m n : ℕ) → m ≤ n → nat_le m n ≡ true
within m n h = grind (arith, h)

-- nothing is due where all was heard
pub news_none : (C : Config) (s m : ℕ) (P : List Publication) → AreBelow m P → news_in C s m P ≡ []
news_none C s m [] below = refl
news_none C s m (p ∷ P) below = rw (not_within m p.place below.0, and_false (reads C s p.template)) (news_none C s m P below.1)

wanted_step : (b d : Bool) (C : Config) (s m : ℕ) (p : Publication) (W : List Publication) (N : List Push) → is_due C s m p ≡ d → (d ≡ true → b ≡ true) → news_in C s m W ≡ N
    → news_in C s m (if b then p ∷ W else W) ≡ (if d then push_of C p ∷ N else N)
wanted_step true true C s m p W N e may h = rw (e, h) refl
wanted_step true false C s m p W N e may h = rw e h
wanted_step false true C s m p W N e may h = let x = may refl in cc
wanted_step false false C s m p W N e may h = h

-- what is due to a reader is among what is wanted
pub news_wanted : (C : Config) (R : List Reader) (s k m : ℕ) (P : List Publication) → heard_in R s k ≡ Some m → news_in C s m (wanted C R P) ≡ news_in C s m P
news_wanted C R s k m [] heard = refl
news_wanted C R s k m (p ∷ P) heard =
    wanted_step (is_wanted C R p) (is_due C s m p) C s m p (wanted C R P) (news_in C s m P) refl (λ due. wanted_by C p R s k m heard due) (news_wanted C R s k m P heard)

append_step : (d b : Bool) (x y : Push) (N M : List Push) → M ≡ (if b then N ++ y ∷ [] else N) → (if d then x ∷ M else M) ≡ (if b then (if d then x ∷ N else N) ++ y ∷ [] else (if d then x ∷ N else N))
append_step true true x y N M h = rw h refl
append_step true false x y N M h = rw h refl
append_step false true x y N M h = h
append_step false false x y N M h = h

news_append : (C : Config) (s m : ℕ) (P : List Publication) (p : Publication) → news_in C s m (P ++ p ∷ []) ≡ (if is_due C s m p then news_in C s m P ++ push_of C p ∷ [] else news_in C s m P)
news_append C s m [] p = refl
news_append C s m (q ∷ P) p = append_step (is_due C s m q) (is_due C s m p) (push_of C q) (push_of C p) (news_in C s m P) _ (news_append C s m P p)

-- a publication more is due to each reader that reads its template
pub news_published : (C : Config) (R : List Reader) (s k m : ℕ) (P : List Publication) (p : Publication) → heard_in R s k ≡ Some m → m ≤ p.place
    → news_in C s m (wanted C R (P ++ p ∷ [])) ≡ (if reads C s p.template then news_in C s m P ++ push_of C p ∷ [] else news_in C s m P)
news_published C R s k m P p heard before =
    let due : is_due C s m p ≡ reads C s p.template = rw (within m p.place before) (and_true (reads C s p.template)) in
    news_wanted C R s k m (P ++ p ∷ []) heard ∙ rw (← due) (news_append C s m P p)

each_if : {A : Type 0} (Q : A → Type 0) (b : Bool) (x : A) (F : List A) → Q x → Each Q F → Each Q (if b then x ∷ F else F)
each_if Q true x F q h = (q, h)
each_if Q false x F q h = h

-- what holds of each holds of those that are kept
pub each_filter : {A : Type 0} (Q : A → Type 0) (f : A → Bool) (xs : List A) → Each Q xs → Each Q (filter f xs)
each_filter Q f [] h = h
each_filter Q f (x ∷ xs) h = each_if Q (f x) x (filter f xs) h.0 (each_filter Q f xs h.1)

kept_if : {A : Type 0} (f : A → Bool) (b : Bool) (x : A) (F : List A) → f x ≡ b → Each (λ (y : A). f y ≡ true) F → Each (λ (y : A). f y ≡ true) (if b then x ∷ F else F)
kept_if f true x F e h = (e, h)
kept_if f false x F e h = h

-- each of those that are kept passes
pub each_kept : {A : Type 0} (f : A → Bool) (xs : List A) → Each (λ (y : A). f y ≡ true) (filter f xs)
each_kept f [] = tt
each_kept f (x ∷ xs) = kept_if f (f x) x (filter f xs) refl (each_kept f xs)

-- and with one more, behind
pub below_more : (n place : ℕ) (P : List Publication) (p : Publication) → AreBelow n P → p.place ≡ n → AreBelow (n + 1) (P ++ p ∷ [])
below_more n place [] p h is = (omega (arith, is), tt)
below_more n place (q ∷ P) p h is = (let below = h.0 in omega (arith, below), below_more n place P p h.1 is)
