-- Seats that were just made.
use Rattle.std.proofs.Common.{◌≡◌, ◌≢◌, map, ℕ, suc, ◌+◌, List, [], ◌∷◌, ◌++◌, length, refl, sym, ap, ◌∙◌, subst, arith, Option}
use Rattle.atomic_table.specs.Seated.{TableId}
use Rattle.atomic_table.specs.declared.shared.Seat.{Seat}
use Rattle.turn_lock.specs.declared.rule.View.{View}
use Rattle.turn_lock.specs.declared.rule.Stage.TheVariants.{Idle}
use Rattle.turn_lock.specs.Tickets.{note_number, part_of, view_of, IsNew, AreNew}

module _ {Y X E : Type 0} (f : Y → Seat (Option X) (View E)) where
  pub new-push : (z : TableId) (tag k n : ℕ) (ys : List Y) (y : Y) → k + length ys ≡ n → AreNew z tag k (map f ys) → IsNew z tag n (f y) → AreNew z tag k (map f (ys ++ y ∷ []))
  new-push z tag k n [] y e a b = let q : n ≡ k = omega arith in (subst (λ i. IsNew z tag i (f y)) q b, tt)
  new-push z tag k n (x ∷ ys) y e a b = (a.0, new-push z tag (suc k) n ys y (omega arith) a.1 b)

module _ {X E : Type 0} where
  pub is_new : (z : TableId) (p : Seat (Option X) (View E)) (number spare tag : ℕ) → p.table_id ≡ z → p.me ≡ (view_of Idle (part_of number [] []) [] spare tag, []) → number ≢ note_number → IsNew z tag number p
  is_new z p number spare tag t e ne = (t, (ap (λ m. m.0.stage) e, (λ is. ne (sym (ap (λ m. m.0.part.number) e) ∙ is)), ap (λ m. m.1) e), ap (λ m. m.0.part) e, ap (λ m. m.0.olds) e, ap (λ m. m.0.tag) e)

pub empty_of : {A : Type 0} (l : List A) → length l ≡ 0 → l ≡ []
empty_of [] e = refl
empty_of (x ∷ xs) e = absurd (omega arith)
