-- Names are found where they stand.
use Rattle.std.proofs.Common.{◌≡◌, ℕ, zero, suc, ◌+◌, ◌<◌, Bool, true, false, not, List, [], ◌∷◌, length, Some, refl, ap, ◌∙◌, arith, nat_eq, ◌||◌, add-zero}
use Rattle.std.specs.List.{list_any, list_all}
use Rattle.std.proofs.lemmas.Bool.{and_parts, and_from, not-true, eq-eqb}
use Rattle.okws_base.specs.Value.{same_bytes}
use Rattle.okws_plan.specs.Configuration.{named_from}
use Rattle.play_script.specs.Spelling.{name_at, is_distinct}

-- bytes are the same as themselves
pub same_self : (bytes : List ℕ) → same_bytes bytes bytes ≡ true
same_self [] = refl
same_self (b ∷ more) = and_from (nat_eq b b) (same_bytes more more) (eq-eqb b b refl) (same_self more)

pub or_parts : (x y : Bool) → (x || y) ≡ false → (x ≡ false) × (y ≡ false)
or_parts true y h = absurd (cc)
or_parts false y h = (refl, h)

-- where none passes, none does at a place
pub none_at : (p : List ℕ → Bool) (names : List (List ℕ)) (i : ℕ) → list_any p names ≡ false → i < length names → p (name_at names i) ≡ false
none_at p [] i h below = absurd (omega arith)
none_at p (name ∷ more) zero h below = (or_parts (p name) (list_any p more) h).0
none_at p (name ∷ more) (suc i) h below = none_at p more i ((or_parts (p name) (list_any p more) h).1) (omega arith)

-- where all pass, each does
pub each_at : (p : List ℕ → Bool) (names : List (List ℕ)) (i : ℕ) → list_all p names ≡ true → i < length names → p (name_at names i) ≡ true
each_at p [] i h below = absurd (omega arith)
each_at p (name ∷ more) zero h below = (and_parts (p name) (list_all p more) h).0
each_at p (name ∷ more) (suc i) h below = each_at p more i ((and_parts (p name) (list_all p more) h).1) (omega arith)

pub found_at : (first i : ℕ) (names : List (List ℕ)) → i < length names → is_distinct names ≡ true → named_from first names (name_at names i) ≡ Some (first + i)
found_at first i [] below h = absurd (omega arith)
found_at first zero (name ∷ more) below h = rw (same_self name, add-zero first) refl
found_at first (suc i) (name ∷ more) below h =
    let apart = and_parts (not (list_any (same_bytes name) more)) (is_distinct more) h in
    let differs : same_bytes name (name_at more i) ≡ false = none_at (same_bytes name) more i (not-true (list_any (same_bytes name) more) apart.0) (omega arith) in
    let there = found_at (first + 1) i more (omega arith) apart.1 in
    let sum : first + 1 + i ≡ first + suc i = omega arith in
    rw differs (there ∙ ap Some sum)
