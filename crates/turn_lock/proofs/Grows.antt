-- Laws for callers: what others enter, and what was seen up to the last own entry.
use Rattle.std.proofs.Common.{if◌then◌else◌, ◌≡◌, ℕ, zero, suc, Bool, List, [], ◌∷◌, ◌++◌, map, get_or, set, refl, sym, ap, ◌∙◌, subst, append_assoc, eq-eqb, ne_eqb}
use mathlib.Core.Logic.{dite}
use native.Mathlib.Decide.{ℕ_discrete}
use Rattle.okws_base.specs.Turns.{of, GrowsBy, up_to_own}
use Rattle.turn_lock.proofs.Views.{of-append}

module _ {E : Type 0} (by : E → ℕ) where
  cons_nil : {A : Type 0} (x : A) (xs : List A) → x ∷ xs ≡ [] → ⊥
  cons_nil x xs e = absurd (cc)

  pub own-foreign : (n : ℕ) (more J : List E) → of by n more ≡ [] → up_to_own by n (more ++ J) ≡ up_to_own by n J
  own-foreign n [] J none = refl
  own-foreign n (e ∷ more) J none = dite (ℕ_discrete (by e) n)
      (λ is. let t = eq-eqb (by e) n is in absurd (cons_nil e (of by n more) (subst (λ (b : Bool). (if b then e ∷ of by n more else of by n more) ≡ []) t none)))
      (λ not. let t = ne_eqb (by e) n not in rw t (own-foreign n more J (subst (λ (b : Bool). (if b then e ∷ of by n more else of by n more) ≡ []) t none)))

  pub own-entry : (n : ℕ) (e : E) (J : List E) → by e ≡ n → up_to_own by n (e ∷ J) ≡ e ∷ J
  own-entry n e J is = let t = eq-eqb (by e) n is in rw t refl

  pub own-since : (n : ℕ) (J : List E) → GrowsBy by n (up_to_own by n J) J
  own-since n [] = ([], refl, refl)
  own-since n (e ∷ J) = dite (ℕ_discrete (by e) n)
      (λ is. let t = eq-eqb (by e) n is in rw t ([], refl, refl))
      (λ not. let t = ne_eqb (by e) n not in let h = own-since n J in rw t (e ∷ h.0, rw t h.1, ap (λ l. e ∷ l) h.2))

  -- what others entered, one time after another, is what others entered
  pub grows_on : (n : ℕ) (I J K : List E) → GrowsBy by n I J → GrowsBy by n J K → GrowsBy by n I K
  grows_on n I J K g h = (
    h.0 ++ g.0,
    of-append by n h.0 g.0 ∙ (ap (λ l. l ++ of by n g.0) h.1 ∙ g.1),
    h.2 ∙ (ap (λ l. h.0 ++ l) g.2 ∙ sym (append_assoc h.0 g.0 I)),
  )

  -- where others entered, the number's own entries are as they were
  pub of-grows : (n : ℕ) (J K : List E) → GrowsBy by n J K → of by n K ≡ of by n J
  of-grows n J K g = ap (of by n) g.2 ∙ (of-append by n g.0 J ∙ ap (λ l. l ++ of by n J) g.1)

  -- where nobody entered
  pub grows-same : (n : ℕ) (J : List E) → GrowsBy by n J J
  grows-same n J = ([], refl, refl)

  -- what others entered since the last own entry
  pub own-on : (n : ℕ) (J K : List E) → GrowsBy by n J K → GrowsBy by n (up_to_own by n J) K
  own-on n J K g = grows_on n (up_to_own by n J) J K (own-since n J) g

  pub own-same : (n : ℕ) (J K : List E) → GrowsBy by n J K → up_to_own by n K ≡ up_to_own by n J
  own-same n J K g = ap (up_to_own by n) g.2 ∙ own-foreign n g.0 J g.1

  pub owns-at : (n p : ℕ) (ps : List (List E)) → get_or (map (up_to_own by n) ps) p [] ≡ up_to_own by n (get_or ps p [])
  owns-at n p [] = refl
  owns-at n zero (J ∷ ps) = refl
  owns-at n (suc p) (J ∷ ps) = owns-at n p ps

  pub owns-set : (n p : ℕ) (ps : List (List E)) (K : List E) → map (up_to_own by n) (set ps p K) ≡ set (map (up_to_own by n) ps) p (up_to_own by n K)
  owns-set n p [] K = refl
  owns-set n zero (J ∷ ps) K = refl
  owns-set n (suc p) (J ∷ ps) K = ap (λ l. up_to_own by n J ∷ l) (owns-set n p ps K)

  -- a row in which one past grew by others' entries is the same up to the last own entries
  pub owns-same : (n p : ℕ) (ps : List (List E)) (K : List E) → GrowsBy by n (get_or ps p []) K → map (up_to_own by n) (set ps p K) ≡ map (up_to_own by n) ps
  owns-same n p [] K g = refl
  owns-same n zero (J ∷ ps) K g = ap (λ l. l ∷ map (up_to_own by n) ps) (own-same n J K g)
  owns-same n (suc p) (J ∷ ps) K g = ap (λ l. up_to_own by n J ∷ l) (owns-same n p ps K g)
