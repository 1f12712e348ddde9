-- What others enter leaves a worker's dialogs, and what it has seen up to its own last entry.
use Rattle.std.proofs.Common.{◌≡◌, ◌≢◌, ℕ, ◌==◌, Bool, true, false, cond, List, [], ◌∷◌, ◌++◌, refl, ap, ◌∙◌, eq-eqb, ne_eqb}
use Rattle.std.proofs.lemmas.Bool.{eqb-false}
use Rattle.okws_base.specs.Past.{AllForeign, Grows}
use Rattle.okws_base.specs.Turns.{GrowsBy, of, up_to_own}
use Rattle.okws_base.specs.declared.journal.Entry.{Entry}
use Rattle.monitor_model.specs.declared.record.CellEvent.{CellEvent}
use Rattle.monitor_model.specs.declared.record.CellEvent.TheVariants as cell
use Rattle.monitor_model.specs.declared.record.Dialog.{Dialog}
use Rattle.monitor_model.specs.Cell.{dialogs_of, incarnation}
use Rattle.worker_lives.proofs.Found.{joined}

-- ---- words of entries that none is one's own

none_first : {E : Type 0} (by : E → ℕ) (n : ℕ) (e : E) (more : List E) → of by n (e ∷ more) ≡ [] → (by e ≢ n) × (of by n more ≡ [])
none_first {E} by n e more none = at (by e == n) refl none
  where
    at : (b : Bool) → (by e == n) ≡ b → cond b (e ∷ of by n more) (of by n more) ≡ [] → (by e ≢ n) × (of by n more ≡ [])
    at true is none = let bad : e ∷ of by n more ≡ [] = none in let never : ⊥ = cc in absurd never
    at false is none = (eqb-false (by e) n is, none)

pub foreign_of : {E : Type 0} (w : ℕ) (more : List (Entry E)) → of (λ (e : Entry E). e.worker) w more ≡ [] → AllForeign w more
foreign_of w [] none = tt
foreign_of {E} w (e ∷ more) none =
    let both : (e.worker ≢ w) × (of (λ (x : Entry E). x.worker) w more ≡ []) = none_first (λ (x : Entry E). x.worker) w e more none in
    (both.0, foreign_of w more both.1)

-- ---- a worker's dialogs

dialogs_beside : (by : CellEvent → ℕ) (w : ℕ) (J : List CellEvent) → ((d : Dialog) → by (cell.Dialog d) ≡ d.worker) → (more : List CellEvent) → of by w more ≡ [] → dialogs_of w (more ++ J) ≡ dialogs_of w J
dialogs_beside by w J names [] none = refl
dialogs_beside by w J names (cell.Boot k ∷ more) none = dialogs_beside by w J names more (none_first by w (cell.Boot k) more none).1
dialogs_beside by w J names (cell.Retired ∷ more) none = dialogs_beside by w J names more (none_first by w cell.Retired more none).1
dialogs_beside by w J names (cell.Missed v wanted is ∷ more) none = dialogs_beside by w J names more (none_first by w (cell.Missed v wanted is) more none).1
dialogs_beside by w J names (cell.Dialog d ∷ more) none =
    let both : (by (cell.Dialog d) ≢ w) × (of by w more ≡ []) = none_first by w (cell.Dialog d) more none in
    rw (ne_eqb d.worker w (λ (is : d.worker ≡ w). both.0 (names d ∙ is))) (dialogs_beside by w J names more both.1)
dialogs_beside by w J names (cell.Speaking v items ∷ more) none = dialogs_beside by w J names more (none_first by w (cell.Speaking v items) more none).1

pub others_leave_dialogs : (by : CellEvent → ℕ) (w : ℕ) (old new : List CellEvent) → ((d : Dialog) → by (cell.Dialog d) ≡ d.worker) → GrowsBy by w old new → dialogs_of w new ≡ dialogs_of w old
others_leave_dialogs by w old new names grows = ap (dialogs_of w) grows.2 ∙ dialogs_beside by w old names grows.0 grows.1

-- one dialog more
pub one_more_dialog : (w : ℕ) (d : Dialog) (J : List CellEvent) → d.worker ≡ w → dialogs_of w (cell.Dialog d ∷ J) ≡ (incarnation J, d) ∷ dialogs_of w J
one_more_dialog w d J own = rw (eq-eqb d.worker w own) refl

-- ---- what was seen up to the own last entry

own_beside : {E : Type 0} (w : ℕ) (J : List (Entry E)) (more : List (Entry E)) → of (λ (e : Entry E). e.worker) w more ≡ []
    → up_to_own (λ (e : Entry E). e.worker) w (more ++ J) ≡ up_to_own (λ (e : Entry E). e.worker) w J
own_beside w J [] none = refl
own_beside {E} w J (e ∷ more) none =
    let both : (e.worker ≢ w) × (of (λ (x : Entry E). x.worker) w more ≡ []) = none_first (λ (x : Entry E). x.worker) w e more none in
    rw (ne_eqb e.worker w both.0) (own_beside w J more both.1)

pub others_leave_own : {E : Type 0} (w : ℕ) (old new : List (Entry E)) → GrowsBy (λ (e : Entry E). e.worker) w old new
    → up_to_own (λ (e : Entry E). e.worker) w new ≡ up_to_own (λ (e : Entry E). e.worker) w old
others_leave_own {E} w old new grows = ap (up_to_own (λ (e : Entry E). e.worker) w) grows.2 ∙ own_beside w old grows.0 grows.1

-- the journal goes on from there by others' entries
pub grows_from_own : {E : Type 0} (w : ℕ) (J : List (Entry E)) → Grows w (up_to_own (λ (e : Entry E). e.worker) w J) J
grows_from_own w [] = ([], tt, refl)
grows_from_own {E} w (e ∷ J) = at (grows_from_own w J) (e.worker == w) refl
  where
    at : Grows w (up_to_own (λ (x : Entry E). x.worker) w J) J → (b : Bool) → (e.worker == w) ≡ b → Grows w (cond b (e ∷ J) (up_to_own (λ (x : Entry E). x.worker) w J)) (e ∷ J)
    at rest true is = ([], tt, refl)
    at rest false is = (e ∷ rest.0, (eqb-false e.worker w is, rest.1), ap (λ (more : List (Entry E)). e ∷ more) rest.2)

foreign_both : {E : Type 0} (w : ℕ) (xs ys : List (Entry E)) → AllForeign w xs → AllForeign w ys → AllForeign w (xs ++ ys)
foreign_both w [] ys f g = g
foreign_both w (x ∷ xs) ys f g = (f.0, foreign_both w xs ys f.1 g)

pub grows_then : {E : Type 0} (w : ℕ) (I J K : List (Entry E)) → Grows w I J → Grows w J K → Grows w I K
grows_then {E} w I J K i j = (j.0 ++ i.0, foreign_both w j.0 i.0 j.1 i.1, j.2 ∙ ap (λ (rest : List (Entry E)). j.0 ++ rest) i.2 ∙ joined j.0 i.0 I)
