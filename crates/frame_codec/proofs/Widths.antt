-- Rows that have one width.
use Rattle.std.proofs.Common.{◌≡◌, ℕ, List, [], ◌∷◌, length, true, false, refl, Bool}
use Rattle.std.specs.Prelude.{◌==◌, ◌&&◌}
use Rattle.std.specs.List.{list_all}
use Rattle.std.proofs.Common.{eq-eqb}
use Rattle.std.proofs.lemmas.Bool.{eqb-true}
use Rattle.okws_base.specs.Runs.{Each}

and_true : (a b : Bool) → (a && b) ≡ true → (a ≡ true) × (b ≡ true)
and_true true b e = (refl, e)
and_true false b e = absurd cc

true_and : (a b : Bool) → a ≡ true → b ≡ true → (a && b) ≡ true
true_and a b p q = cc

-- as all are so wide
pub widths_hold : {A : Type 0} (P : List A → Type 0) (columns : ℕ) (rows : List (List A)) → list_all (λ (row : List A). length row == columns) rows ≡ true → Each P rows → Each (λ (row : List A). (length row ≡ columns) × P row) rows
widths_hold P columns [] wide all = tt
widths_hold P columns (row ∷ rows) wide all =
    let both = and_true (length row == columns) (list_all (λ row. length row == columns) rows) wide in
    ((eqb-true (length row) columns both.0, all.0), widths_hold P columns rows both.1 all.1)

-- and only where they are
pub widths_were : {A : Type 0} (P : List A → Type 0) (columns : ℕ) (rows : List (List A)) → Each (λ (row : List A). (length row ≡ columns) × P row) rows → list_all (λ (row : List A). length row == columns) rows ≡ true
widths_were P columns [] all = refl
widths_were P columns (row ∷ rows) all =
    true_and (length row == columns) (list_all (λ row. length row == columns) rows) (eq-eqb (length row) columns all.0.0) (widths_were P columns rows all.1)
