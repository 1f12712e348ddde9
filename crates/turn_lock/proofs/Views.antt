-- Lists of views, and what a view knows where others step.
use Rattle.std.proofs.Common.{◌≡◌, ◌≢◌, inl, inr, ℕ, zero, suc, ◌+◌, ◌<◌, ◌≤◌, eqb, cond, true, List, [], ◌∷◌, ◌++◌, length, set, refl, sym, ap, ◌∙◌, subst, ⊎_elim, arith, append_assoc, append-nil, eq-eqb, ne_eqb, Some, Option}
use mathlib.Core.Logic.{dite}
use mathlib.Core.Option as maybe
use native.Mathlib.Decide.{ℕ_discrete}
use lib.ListN.{get_elem?}
use Rattle.atomic_table.specs.Table.{rest}
use Rattle.atomic_table.proofs.Lists.{at_set, set_here, set_else}
use Rattle.turn_lock.specs.declared.rule.View.{View}
use Rattle.turn_lock.specs.declared.rule.Part.{Part}
use Rattle.turn_lock.specs.declared.rule.Stage.{Stage}
use Rattle.turn_lock.specs.declared.rule.Stage.TheVariants.{Idle, Waits, Holds}
use Rattle.turn_lock.specs.Tickets.{note_number, StartsWith, World, is_out, HasTicket, ticketed, with_ticket, IsNote, Owns, Fits, AllFit, Waiting, Holding, Stands}
use Rattle.okws_base.specs.Turns.{of, AllBy}

module _ {A : Type 0} where
  pub inside : (l : List A) (i : ℕ) (a : A) → get_elem? l i ≡ maybe.some a → i < length l
  inside [] i a e = absurd (maybe.some-ne-none a (sym e))
  inside (x ∷ xs) zero a e = omega arith
  inside (x ∷ xs) (suc i) a e = let h = inside xs i a e in omega arith

  pub same_there : (l : List A) (i : ℕ) (a b : A) → get_elem? l i ≡ maybe.some a → get_elem? l i ≡ maybe.some b → a ≡ b
  same_there l i a b e f = maybe.some-injective a b (sym e ∙ f)

  pub all_stay : (P : ℕ → A → Type 0) (l : List A) (i : ℕ) (a : A) → P i a → ((j : ℕ) (b : A) → j ≢ i → get_elem? l j ≡ maybe.some b → P j b)
      → (j : ℕ) (b : A) → get_elem? (set l i a) j ≡ maybe.some b → P j b
  all_stay P l i a mine others j b e = ⊎_elim (λ (t : (j ≡ i) × (a ≡ b)). subst (λ (x : ℕ × A). P x.0 x.1) (λ k. (sym t.0 k, t.1 k)) mine)
      (λ (t : (j ≢ i) × (get_elem? l j ≡ maybe.some b)). others j b t.0 t.1) (at_set l i j a b e)

module _ {E : Type 0} (by : E → ℕ) where
  pub of-append : (k : ℕ) (xs ys : List E) → of by k (xs ++ ys) ≡ of by k xs ++ of by k ys
  of-append k [] ys = refl
  of-append k (x ∷ xs) ys = dite (ℕ_discrete (by x) k)
      (λ e. let t = eq-eqb (by x) k e in rw t (ap (λ l. x ∷ l) (of-append k xs ys)))
      (λ ne. let t = ne_eqb (by x) k ne in rw t (of-append k xs ys))

  pub of-own : (k : ℕ) (xs : List E) → AllBy by k xs → of by k xs ≡ xs
  of-own k [] a = refl
  of-own k (x ∷ xs) a = let t = eq-eqb (by x) k a.0 in rw t (ap (λ l. x ∷ l) (of-own k xs a.1))

  pub of-other : (k j : ℕ) (xs : List E) → AllBy by k xs → j ≢ k → of by j xs ≡ []
  of-other k j [] a ne = refl
  of-other k j (x ∷ xs) a ne = let t = ne_eqb (by x) j (λ e. ne (sym e ∙ a.0)) in rw t (of-other k j xs a.1 ne)

module _ {E : Type 0} where
  pub had_stays : (views : List (View E)) (id at t : ℕ) (v w : View E) → get_elem? views id ≡ maybe.some v → (HasTicket t v.stage → HasTicket t w.stage)
      → (u : View E) × (get_elem? views at ≡ maybe.some u) × HasTicket t u.stage → (u : View E) × (get_elem? (set views id w) at ≡ maybe.some u) × HasTicket t u.stage
  had_stays views id at t v w here still h = dite (ℕ_discrete at id)
      (λ e. let same : h.0 ≡ v = same_there views id h.0 v (subst (λ k. get_elem? views k ≡ maybe.some h.0) e h.1) here in
      (w, subst (λ k. get_elem? (set views id w) k ≡ maybe.some w) (sym e) (set_here views id w (inside views id v here)), still (subst (λ (z : View E). HasTicket t z.stage) same h.2)))
      (λ ne. (h.0, set_else views id at w ne ∙ h.1, h.2))

module _ {E : Type 0} where
  pub count_set : (vs : List (View E)) (i : ℕ) (v w : View E) → get_elem? vs i ≡ maybe.some v → with_ticket (set vs i w) + ticketed v.stage ≡ with_ticket vs + ticketed w.stage
  count_set [] i v w e = absurd (maybe.some-ne-none v (sym e))
  count_set (x ∷ vs) zero v w e = let q = ap (λ (z : View E). ticketed z.stage) (maybe.some-injective x v e) in omega arith
  count_set (x ∷ vs) (suc i) v w e = let h = count_set vs i v w e in omega arith

  pub count_snoc : (vs : List (View E)) (w : View E) → with_ticket (vs ++ w ∷ []) ≡ with_ticket vs + ticketed w.stage
  count_snoc [] w = omega arith
  count_snoc (x ∷ vs) w = let h = count_snoc vs w in omega arith

-- t has the first number where it is k, else the second
abbrev pub pick : ℕ → ℕ → ℕ → ℕ → ℕ
pick t k a b = cond (eqb t k) a b

pub pick_here : (t k a b : ℕ) → t ≡ k → pick t k a b ≡ a
pick_here t k a b e = let q = eq-eqb t k e in rw q refl

pub pick_else : (t k a b : ℕ) → t ≢ k → pick t k a b ≡ b
pick_else t k a b ne = let q = ne_eqb t k ne in rw q refl

abbrev pub second_of : {X : Type 0} → Option X → List (ℕ × Option X) → Option X
second_of d [] = d
second_of d (x ∷ xs) = x.1

pub some_same : {X : Type 0} (x y : X) → Some x ≡ Some y → x ≡ y
some_same x y e = cc

abbrev pub laid : {X : Type 0} → X → List (ℕ × Option X)
laid x = (0, Some x) ∷ []

pub one_slot : {X : Type 0} (l : List (ℕ × Option X)) (x : Option X) → l ≡ (0, x) ∷ [] → l ≡ (0, x) ∷ rest l
one_slot l x e = e ∙ ap (λ z. (0, x) ∷ z) (sym (ap rest e))

pub same_slot : {X : Type 0} (x y : X) → laid x ≡ laid y → x ≡ y
same_slot x y e = some_same x y (ap (second_of (Some x)) e)

pub is_home : {X : Type 0} → (h : maybe.Option X) → (is_out h ≡ true → ⊥) → (x : X) × (h ≡ maybe.some x)
is_home maybe.none f = absurd (f refl)
is_home (maybe.some x) f = (x, refl)

module _ {E : Type 0} (by : E → ℕ) (n : ℕ) (log added : List E) (owner : ℕ → ℕ) (number : ℕ) (mine : AllBy by number added) where
  pub grown : (k : ℕ) → k ≢ number → of by k (log ++ added) ≡ of by k log
  grown k ne = of-append by k log added ∙ ap (λ l. of by k log ++ l) (of-other by number k added mine ne) ∙ append-nil (of by k log)

  pub starts_more : (seen : List E) → StartsWith log seen → StartsWith (log ++ added) seen
  starts_more seen s = (s.0 ++ added, ap (λ l. l ++ added) s.1 ∙ append_assoc seen s.0 added)

  pub fits_more : (j : ℕ) (p : Part E) → (p.number < n → p.number ≢ number) → Fits by n log owner j p → Fits by n (log ++ added) owner j p
  fits_more j p ne f = record {
    begins = starts_more p.seen f.begins;
    owned = ⊎_elim (λ (x : IsNote p). inl x) (λ (x : Owns by n log owner j p). inr record { below = x.below; owner_is = x.owner_is; all = grown p.number (ne x.below) ∙ x.all }) f.owned;
  }

  pub all_fit_more : (j at : ℕ) (ps : List (Part E)) → ((p : Part E) → Fits by n log owner j p → p.number < n → p.number ≢ at → p.number ≢ number) → AllFit by n log owner j at ps → AllFit by n (log ++ added) owner j at ps
  all_fit_more j at [] ne f = tt
  all_fit_more j at (p ∷ ps) ne f = (fits_more j p (λ h. ne p f.0 h (f.1 h)) f.0, f.1, all_fit_more j at ps ne f.2)

  -- a part of another seat has another number
  pub apart : n ≤ note_number → (id j : ℕ) (p : Part E) → owner number ≡ id → j ≢ id → Fits by n log owner j p → p.number < n → p.number ≢ number
  apart few id j p own ne f below e = ⊎_elim (λ (x : IsNote p). let q = x.is in omega arith)
      (λ (x : Owns by n log owner j p). ne (sym x.owner_is ∙ ap owner e ∙ own)) f.owned

module _ {X E : Type 0} (by : E → ℕ) (n : ℕ) (w w' : World X E) where
  pub stands_on : (j : ℕ) (p : Part E) (st : Stage) → ((t : ℕ) → t < w.tickets → w.turn t ≡ j → (t < w'.tickets) × (w'.turn t ≡ j))
      → ((t : ℕ) → w.turn t ≡ j → Waiting by n w t → Waiting by n w' t) → ((t : ℕ) → w.turn t ≡ j → t < w.tickets → Holding by n w t p.seen → Holding by n w' t p.seen) → Stands by n w j p st → Stands by n w' j p st
  stands_on j p Idle f g h s = tt
  stands_on j p (Waits t) f g h s = let q = f t s.0.drawn s.0.own_turn in (record { drawn = q.0; own_turn = q.1; numbered = s.0.numbered }, g t s.0.own_turn s.1)
  stands_on j p (Holds t) f g h s = let q = f t s.0.drawn s.0.own_turn in (record { drawn = q.0; own_turn = q.1; numbered = s.0.numbered }, h t s.0.own_turn s.0.drawn s.1)
