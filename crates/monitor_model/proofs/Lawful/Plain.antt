-- Facts on plain lists.
use Rattle.std.proofs.Common.{◌≡◌, ℕ, zero, suc, ◌<◌, Bool, true, List, [], ◌∷◌, ◌++◌, map, get_or, replicate, reverse, refl, sym, Option, Some, None}
use Rattle.std.specs.Prelude.{slice_get, nat_lt}
use Rattle.std.specs.List.{list_all}
use Rattle.std.proofs.lemmas.Bool.{and_from, ltb-true}
use Rattle.std.proofs.lemmas.List.{reverse-append}
use Rattle.okws_base.specs.Runs.{Each}

-- what a map gives at a place, also past the end
pub map_at : {A B : Type 0} (f : A → B) (xs : List A) (i : ℕ) (d : A) (e : B) → f d ≡ e → get_or (map f xs) i e ≡ f (get_or xs i d)
map_at f [] i d e same = sym same
map_at f (x ∷ xs) zero d e same = refl
map_at f (x ∷ xs) (suc i) d e same = map_at f xs i d e same

-- a list of the default is the default everywhere
pub replicate_at : {A : Type 0} (n i : ℕ) (d : A) → get_or (replicate n d) i d ≡ d
replicate_at zero i d = refl
replicate_at (suc n) zero d = refl
replicate_at (suc n) (suc i) d = replicate_at n i d

-- what passes at every place passes all along
pub all_from : {A : Type 0} (test : A → Bool) (d : A) (xs : List A) → ((i : ℕ) → test (get_or xs i d) ≡ true) → list_all test xs ≡ true
all_from test d [] each = refl
all_from test d (x ∷ xs) each = and_from (test x) (list_all test xs) (each zero) (all_from test d xs (λ i. each (suc i)))

pub each_more : {A : Type 0} (P Q : A → Type 0) (xs : List A) → ((a : A) → P a → Q a) → Each P xs → Each Q xs
each_more P Q [] step all = tt
each_more P Q (x ∷ xs) step all = (step x all.0, each_more P Q xs step all.1)

pub each_push : {A : Type 0} (P : A → Type 0) (xs : List A) (a : A) → Each P xs → P a → Each P (xs ++ a ∷ [])
each_push P [] a all here = (here, tt)
each_push P (x ∷ xs) a all here = (all.0, each_push P xs a all.1 here)

pub each_reverse : {A : Type 0} (P : A → Type 0) (xs : List A) → Each P xs → Each P (reverse xs)
each_reverse P [] all = tt
each_reverse P (x ∷ xs) all =
    let turned : reverse (x ∷ xs) ≡ reverse xs ++ x ∷ [] = reverse-append (x ∷ []) xs in
    rw turned (each_push P (reverse xs) x (each_reverse P xs all.1) all.0)

-- nothing is no value
pub none_some : {A : Type 0} (x : A) (o : Option A) → o ≡ None → o ≡ Some x → ⊥
none_some x o none some = cc

some_some : {A : Type 0} (P : A → Type 0) (x y : A) → Some x ≡ Some y → P x → P y
some_some P x y e here = let same : x ≡ y = cc in rw same at here

pub each_get : {A : Type 0} (P : A → Type 0) (xs : List A) (n : ℕ) (a : A) → Each P xs → slice_get xs n ≡ Some a → P a
each_get P [] n a all found = absurd (none_some a None refl found)
each_get P (x ∷ xs) zero a all found = some_some P x a found all.0
each_get P (x ∷ xs) (suc n) a all found = each_get P xs n a all.1 found

pub is_true_below : (a b : ℕ) → nat_lt a b ≡ true → a < b
is_true_below a b test = ltb-true a b test
