-- Lists that have an item.
use Rattle.std.proofs.Common.{◌≡◌, ◌∙◌, ℕ, zero, suc, Bool, true, false, List, [], ◌∷◌, length, get_or, take, refl, ap, sym, ◌+◌, ◌<◌}
use Rattle.std.specs.Prelude.{◌||◌}
use Rattle.std.specs.List.{list_any}
use Rattle.std.proofs.lemmas.List.Folds.{list_any_more}

-- A list that has an item among its first i has it.
pub any_in_front : {X : Type 0} (p : X → Bool) (xs : List X) (i : ℕ) → list_any p (take i xs) ≡ true → list_any p xs ≡ true
any_in_front p [] zero h = h
any_in_front p [] (suc i) h = h
any_in_front p (x ∷ xs) zero h = let never : ⊥ = cc in absurd never
any_in_front p (x ∷ xs) (suc i) h = by (p x) (any_in_front p xs i) h
  where
    by : (b : Bool) → (list_any p (take i xs) ≡ true → list_any p xs ≡ true) → (b || list_any p (take i xs)) ≡ true → (b || list_any p xs) ≡ true
    by true rest e = refl
    by false rest e = rest e

-- One item more.
pub any_with_next : {X : Type 0} (p : X → Bool) (xs : List X) (i : ℕ) (x : X) → i < length xs → x ≡ get_or xs i x → list_any p (take (i + 1) xs) ≡ (list_any p (take i xs) || p x)
any_with_next p xs i x h at = list_any_more p xs i x h ∙ ap (λ (b : Bool). list_any p (take i xs) || b) (ap p (sym at))
