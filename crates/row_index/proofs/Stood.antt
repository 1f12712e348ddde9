-- Rows and the places where they stand.
use Rattle.std.proofs.Common.{◌≡◌, ◌∙◌, ℕ, true, false, List, [], ◌∷◌, ap, refl, Some}
use Rattle.std.specs.List.{AllByRecursion}
use Rattle.std.specs.List.Sorted.{IsStrictlySortedBy}
use Rattle.std.specs.Cmp.{nat_cmp_total, tied_itself}
use Rattle.std.specs.Ordering.{is_eq, nat_cmp, ordering_reverse}
use Rattle.std.specs.Map.{keys_of}
use Rattle.std.specs.declared.cmp.Ordering.TheVariants.{Less}
use Rattle.std.proofs.lemmas.Map.Keys.{sorted_head, sorted_tail}
use Rattle.okws_base.specs.Runs.{Each}
use Rattle.okws_base.specs.declared.value.Value.{Value}
use Rattle.row_index.specs.Places.{row_at}

pub row_first : (e : ℕ × List Value) (es : List (ℕ × List Value)) (p : ℕ) → is_eq (nat_cmp p e.0) ≡ true → row_at (e ∷ es) p ≡ Some e.1
row_first e es p is = rw is refl

pub row_later : (e : ℕ × List Value) (es : List (ℕ × List Value)) (p : ℕ) → is_eq (nat_cmp p e.0) ≡ false → row_at (e ∷ es) p ≡ row_at es p
row_later e es p is = rw is refl

later : (k p : ℕ) → nat_cmp k p ≡ Less → is_eq (nat_cmp p k) ≡ false
later k p h = ap is_eq (nat_cmp_total.antisymm p k ∙ ap ordering_reverse h)

each_behind : (e : ℕ × List Value) (es fs : List (ℕ × List Value)) → AllByRecursion (λ (y : ℕ). nat_cmp e.0 y ≡ Less) (keys_of fs) → Each (λ (x : ℕ × List Value). row_at es x.0 ≡ Some x.1) fs → Each (λ (x : ℕ × List Value). row_at (e ∷ es) x.0 ≡ Some x.1) fs
each_behind e es [] above all = tt
each_behind e es (x ∷ fs) above all = (row_later e es x.0 (later e.0 x.0 above.0) ∙ all.0, each_behind e es fs above.1 all.1)

-- Each row stands at its place.
pub each_here : (es : List (ℕ × List Value)) → IsStrictlySortedBy nat_cmp (keys_of es) → Each (λ (e : ℕ × List Value). row_at es e.0 ≡ Some e.1) es
each_here [] up = tt
each_here (e ∷ es) up =
    (row_first e es e.0 (ap is_eq (tied_itself nat_cmp_total e.0)), each_behind e es es (sorted_head nat_cmp e.0 (keys_of es) up) (each_here es (sorted_tail nat_cmp e.0 (keys_of es) up)))
