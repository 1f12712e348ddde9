-- Lists that are compared pair by pair, and the first of a list that passes a test.
use Rattle.std.proofs.Common.{◌≡◌, ◌≢◌, suc, Bool, true, false, cond, ◌&&◌, ◌||◌, List, [], ◌∷◌, length, Option, Some, None, is_some, find, refl, sym, ap, subst, ◌∙◌}
use Rattle.std.specs.List.{list_all, list_any}
use Rattle.std.specs.Cmp.Lexicographic.{pointwise}
use Rattle.std.proofs.lemmas.Bool.{false≢true, and_parts, and_from, and_right}
use Rattle.config_diff.specs.Sameness.{same_option}

-- Lists that differ in length are not the same at each place.
pub unequal_lengths : {A : Type 0} (f : A → A → Bool) (xs ys : List A) → length xs ≢ length ys → pointwise f xs ys ≡ false
unequal_lengths f [] [] h = absurd (h refl)
unequal_lengths f [] (y ∷ ys) h = refl
unequal_lengths f (x ∷ xs) [] h = refl
unequal_lengths f (x ∷ xs) (y ∷ ys) h = and_right (f x y) (pointwise f xs ys) (unequal_lengths f xs ys (λ e. h (ap suc e)))

-- where a test finds only what is equal, lists that it finds the same are equal
pub list_same : {A : Type 0} (f : A → A → Bool) → ((a b : A) → f a b ≡ true → a ≡ b) → (xs ys : List A) → pointwise f xs ys ≡ true → xs ≡ ys
list_same f one [] [] h = refl
list_same f one [] (y ∷ ys) h = absurd (false≢true h)
list_same f one (x ∷ xs) [] h = absurd (false≢true h)
list_same f one (x ∷ xs) (y ∷ ys) h = let both = and_parts (f x y) (pointwise f xs ys) h in λ i. one x y both.0 i ∷ list_same f one xs ys both.1 i

pub list_itself : {A : Type 0} (f : A → A → Bool) → ((a : A) → f a a ≡ true) → (xs : List A) → pointwise f xs xs ≡ true
list_itself f one [] = refl
list_itself f one (x ∷ xs) = and_from (f x x) (pointwise f xs xs) (one x) (list_itself f one xs)

pub lists_are : {A : Type 0} (f : A → A → Bool) → ((a : A) → f a a ≡ true) → (xs ys : List A) → xs ≡ ys → pointwise f xs ys ≡ true
lists_are f one xs ys e = subst (λ l. pointwise f xs l ≡ true) e (list_itself f one xs)

pub option_same : {A : Type 0} (f : A → A → Bool) → ((a b : A) → f a b ≡ true → a ≡ b) → (a b : Option A) → same_option f a b ≡ true → a ≡ b
option_same f one None None h = refl
option_same f one None (Some b) h = absurd (false≢true h)
option_same f one (Some a) None h = absurd (false≢true h)
option_same f one (Some a) (Some b) h = ap Some (one a b h)

pub option_itself : {A : Type 0} (f : A → A → Bool) → ((a : A) → f a a ≡ true) → (a : Option A) → same_option f a a ≡ true
option_itself f one None = refl
option_itself f one (Some a) = one a

pub options_are : {A : Type 0} (f : A → A → Bool) → ((a : A) → f a a ≡ true) → (a b : Option A) → a ≡ b → same_option f a b ≡ true
options_are f one a b e = subst (λ o. same_option f a o ≡ true) e (option_itself f one a)

-- what holds of each item of a list holds of the first that passes a test, and this passes it
found_then : {A : Type 0} (test P : A → Bool) (x y : A) (xs : List A) (passed : Bool)
    → ((list_all P xs ≡ true) → find test xs ≡ Some y → (P y ≡ true) × (test y ≡ true))
    → test x ≡ passed → (P x && list_all P xs) ≡ true → cond passed (Some x) (find test xs) ≡ Some y → (P y ≡ true) × (test y ≡ true)
found_then test P x y xs true more is all h = let both : Some x ≡ Some y = h in let here : x ≡ y = cc in (subst (λ z. P z ≡ true) here (and_parts (P x) (list_all P xs) all).0, subst (λ z. test z ≡ true) here is)
found_then test P x y xs false more is all h = more (and_parts (P x) (list_all P xs) all).1 h

pub all_found : {A : Type 0} (test P : A → Bool) (y : A) (xs : List A) → list_all P xs ≡ true → find test xs ≡ Some y → (P y ≡ true) × (test y ≡ true)
all_found test P y [] all h = absurd (let no : None ≡ Some y = h in cc)
all_found test P y (x ∷ xs) all h = found_then test P x y xs (test x) (λ rest found. all_found test P y xs rest found) refl all h

pub all_of : {A : Type 0} (P : A → Bool) → ((x : A) → P x ≡ true) → (xs : List A) → list_all P xs ≡ true
all_of P one [] = refl
all_of P one (x ∷ xs) = and_from (P x) (list_all P xs) (one x) (all_of P one xs)

pub all_alike : {A : Type 0} (P Q : A → Bool) → ((x : A) → P x ≡ Q x) → (xs : List A) → list_all P xs ≡ list_all Q xs
all_alike P Q one [] = refl
all_alike P Q one (x ∷ xs) = λ i. one x i && all_alike P Q one xs i

any_then : (b rest : Bool) {A : Type 0} (x : A) (found : Option A) → rest ≡ is_some found → (b || rest) ≡ is_some (cond b (Some x) found)
any_then true rest x found h = refl
any_then false rest x found h = h

-- an item passes a test where one is found that does
pub any_is_found : {A : Type 0} (test : A → Bool) (xs : List A) → list_any test xs ≡ is_some (find test xs)
any_is_found test [] = refl
any_is_found test (x ∷ xs) = any_then (test x) (list_any test xs) x (find test xs) (any_is_found test xs)

-- Two lists under one key. `at` is what a list has under the key of an item; where two lists have the same there for the items of both, they have the same under each key.
module _ {A K : Type 0} (f : A → A → Bool) (same : (a b : A) → f a b ≡ true → a ≡ b) (key : A → K) (test : K → A → Bool) (is_key : (k : K) (a : A) → test k a ≡ true → key a ≡ k) where
  abbrev pub agree : List A → List A → List A → Bool
  agree items xs ys = list_all (λ (x : A). same_option f (find (test (key x)) xs) (find (test (key x)) ys)) items

  at_item : (xs ys items : List A) (k : K) (x : A) → agree items xs ys ≡ true → find (test k) items ≡ Some x → find (test k) xs ≡ find (test k) ys
  at_item xs ys items k x all h =
      let found = all_found (test k) (λ (y : A). same_option f (find (test (key y)) xs) (find (test (key y)) ys)) x items all h in
      subst (λ (j : K). find (test j) xs ≡ find (test j) ys) (is_key k x found.1) (option_same f same _ _ found.0)

  at_either : (xs ys : List A) (k : K) (one two : Option A) → agree xs xs ys ≡ true → agree ys xs ys ≡ true → find (test k) xs ≡ one → find (test k) ys ≡ two → find (test k) xs ≡ find (test k) ys
  at_either xs ys k (Some x) two a b h l = at_item xs ys xs k x a h
  at_either xs ys k None (Some y) a b h l = at_item xs ys ys k y b l
  at_either xs ys k None None a b h l = h ∙ sym l

  pub one_under_key : (xs ys : List A) (k : K) → agree xs xs ys ≡ true → agree ys xs ys ≡ true → find (test k) xs ≡ find (test k) ys
  one_under_key xs ys k a b = at_either xs ys k (find (test k) xs) (find (test k) ys) a b refl refl
