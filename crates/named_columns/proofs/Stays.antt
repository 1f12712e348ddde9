-- What others enter leaves what the launcher launched.
use Rattle.std.proofs.Common.{if◌then◌else◌, ◌≡◌, ◌∙◌, ℕ, Bool, List, [], ◌∷◌, ◌++◌, refl, ap, subst, eq-eqb, ne_eqb}
use mathlib.Core.Logic.{dite}
use native.Mathlib.Decide.{ℕ_discrete}
use Rattle.okws_base.specs.Past.{Grant, Installs, Revokes, Leaves, standing_by, standing_after, last_by, last_after}
use Rattle.okws_base.specs.Turns.{of, GrowsBy}
use Rattle.okws_base.specs.declared.journal.Entry.{Entry}
use Rattle.named_columns.specs.Launched.{by_entry, IsLaunch, LaunchedBy}
use Rattle.named_columns.specs.Turns.{Stays}

-- an entry of another number, and the rest of others' entries
pub record Foreign {E : Type 0} (n : ℕ) (e : Entry E) (more : List (Entry E)) : Type 0 where
  pub not_own : e.worker ≡ n → ⊥
  pub rest : of by_entry n more ≡ []

cons_nil : {A : Type 0} (x : A) (xs : List A) → x ∷ xs ≡ [] → ⊥
cons_nil x xs e = absurd (cc)

pub foreign : {E : Type 0} (n : ℕ) (e : Entry E) (more : List (Entry E)) → of by_entry n (e ∷ more) ≡ [] → Foreign n e more
foreign n e more none = dite (ℕ_discrete e.worker n)
    (λ is. let t = eq-eqb e.worker n is in absurd (cons_nil e (of by_entry n more) (subst (λ (b : Bool). (if b then e ∷ of by_entry n more else of by_entry n more) ≡ []) t none)))
    (λ not. let t = ne_eqb e.worker n not in record { not_own = not; rest = subst (λ (b : Bool). (if b then e ∷ of by_entry n more else of by_entry n more) ≡ []) t none })

leaves : (n w : ℕ) (g : Grant) → (w ≡ n → ⊥) → IsLaunch n w g → g ≡ Leaves
leaves n w (Installs s k) not is = absurd (not is)
leaves n w (Revokes s) not is = absurd (not is)
leaves n w Leaves not is = refl

module _ {E : Type 0} (grant : E → Grant) (n s : ℕ) where
  last_more : (more J : List (Entry E)) → of by_entry n more ≡ [] → LaunchedBy grant n (more ++ J) → last_by grant (more ++ J) s ≡ last_by grant J s
  last_more [] J none h = refl
  last_more (e ∷ more) J none h =
      let f : Foreign n e more = foreign n e more none in
      ap (λ (g : Grant). last_after g s (last_by grant (more ++ J) s)) (leaves n e.worker (grant e.event) f.not_own h.0) ∙ last_more more J f.rest h.1

  standing_more : (more J : List (Entry E)) → of by_entry n more ≡ [] → LaunchedBy grant n (more ++ J) → standing_by grant (more ++ J) s ≡ standing_by grant J s
  standing_more [] J none h = refl
  standing_more (e ∷ more) J none h =
      let f : Foreign n e more = foreign n e more none in
      ap (λ (g : Grant). standing_after g s (standing_by grant (more ++ J) s)) (leaves n e.worker (grant e.event) f.not_own h.0) ∙ standing_more more J f.rest h.1

  -- the greatest incarnation that was installed
  pub last_stays : (J K : List (Entry E)) → GrowsBy by_entry n J K → LaunchedBy grant n K → last_by grant K s ≡ last_by grant J s
  last_stays J K g h = ap (λ (L : List (Entry E)). last_by grant L s) g.2 ∙ last_more g.0 J g.1 (subst (LaunchedBy grant n) g.2 h)

  -- the incarnation that stands
  pub standing_stays : (J K : List (Entry E)) → GrowsBy by_entry n J K → LaunchedBy grant n K → standing_by grant K s ≡ standing_by grant J s
  standing_stays J K g h = ap (λ (L : List (Entry E)). standing_by grant L s) g.2 ∙ standing_more g.0 J g.1 (subst (LaunchedBy grant n) g.2 h)

-- what others entered leaves what stands and what was installed last
pub stays : {E : Type 0} (grant : E → Grant) (n m : ℕ) (J K : List (Entry E)) → GrowsBy by_entry m J K → m ≡ n → LaunchedBy grant n K → Stays grant J K
stays grant n m J K g is h = let f : GrowsBy by_entry n J K = subst (λ k. GrowsBy by_entry k J K) is g in record { standing = λ s. standing_stays grant n s J K f h; last = λ s. last_stays grant n s J K f h }

-- where nobody entered, they stay
pub stays_same : {E : Type 0} (grant : E → Grant) (J : List (Entry E)) → Stays grant J J
stays_same grant J = record { standing = λ s. refl; last = λ s. refl }
