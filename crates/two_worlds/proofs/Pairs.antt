-- Pairs of the items of two lists.
use Rattle.std.proofs.Common.{◌≡◌, Bool, true, false, ◌&&◌, cond, List, [], ◌∷◌, ◌++◌, map, flat_map, refl, sym, ap, ◌∙◌}
use Rattle.std.specs.List.{AllZip, filter}
use Rattle.std.proofs.lemmas.Bool.{true≢false}
use Rattle.two_worlds.proofs.Zips as zips

-- each item with each
abbrev pub pairs : {A B C : Type 0} → (A → B → C) → List A → List B → List C
pairs both X Y = flat_map (λ a. map (both a) Y) X

pub zip_flat_map : {A B C D : Type 0} (R : A → B → Type 0) (Q : C → D → Type 0) (f : A → List C) (g : B → List D) → ((a : A) (b : B) → R a b → AllZip Q (f a) (g b)) → (xs : List A) (ys : List B) → AllZip R xs ys
    → AllZip Q (flat_map f xs) (flat_map g ys)
zip_flat_map R Q f g each [] [] h = tt
zip_flat_map R Q f g each [] (y ∷ ys) h = absurd h
zip_flat_map R Q f g each (x ∷ xs) [] h = absurd h
zip_flat_map R Q f g each (x ∷ xs) (y ∷ ys) h = zips.zip_append Q (f x) (g y) (flat_map f xs) (flat_map g ys) (each x y h.0) (zip_flat_map R Q f g each xs ys h.1)

row_of_pairs : {A B C : Type 0} (both : A → B → C) (p : C → Bool) (t : B → Bool) (a : A) → ((b : B) → p (both a b) ≡ true → t b ≡ true) → (Y : List B) → filter p (map (both a) Y) ≡ filter p (map (both a) (filter t Y))
row_of_pairs both p t a inside [] = refl
row_of_pairs {A} {B} {C} both p t a inside (b ∷ Y) = by (p (both a b)) refl (t b) refl (row_of_pairs both p t a inside Y)
  where
    by : (m : Bool) → p (both a b) ≡ m → (n : Bool) → t b ≡ n → filter p (map (both a) Y) ≡ filter p (map (both a) (filter t Y))
        → cond m (both a b ∷ filter p (map (both a) Y)) (filter p (map (both a) Y)) ≡ filter p (map (both a) (cond n (b ∷ filter t Y) (filter t Y)))
    by true is true shown more = rw is (ap (λ (l : List C). both a b ∷ l) more)
    by true is false shown more = absurd (true≢false (sym (inside b is) ∙ shown))
    by false is true shown more = rw is more
    by false is false shown more = more

no_pairs : {A B C : Type 0} (both : A → B → C) (p : C → Bool) (a : A) → ((b : B) → p (both a b) ≡ false) → (Y : List B) → filter p (map (both a) Y) ≡ []
no_pairs both p a none [] = refl
no_pairs both p a none (b ∷ Y) = rw (none b) (no_pairs both p a none Y)

-- what passes is made of shown items
pub pairs_within : {A B C : Type 0} (both : A → B → C) (p : C → Bool) (s : A → Bool) (t : B → Bool) → ((a : A) (b : B) → p (both a b) ≡ true → s a ≡ true) → ((a : A) (b : B) → p (both a b) ≡ true → t b ≡ true) → (X : List A) (Y : List B)
    → filter p (pairs both X Y) ≡ filter p (pairs both (filter s X) (filter t Y))
pairs_within both p s t left right [] Y = refl
pairs_within {A} {B} {C} both p s t left right (a ∷ X) Y =
    zips.filter_append p (map (both a) Y) (pairs both X Y) ∙ by (s a) refl (row_of_pairs both p t a (right a) Y) (pairs_within both p s t left right X Y)
  where
    unshown : s a ≡ false → (b : B) (m : Bool) → p (both a b) ≡ m → m ≡ false
    unshown h b true e = absurd (true≢false (sym (left a b e) ∙ h))
    unshown h b false e = refl

    by : (m : Bool) → s a ≡ m → filter p (map (both a) Y) ≡ filter p (map (both a) (filter t Y)) → filter p (pairs both X Y) ≡ filter p (pairs both (filter s X) (filter t Y))
        → filter p (map (both a) Y) ++ filter p (pairs both X Y) ≡ filter p (pairs both (cond m (a ∷ filter s X) (filter s X)) (filter t Y))
    by true is row more = (λ i. row i ++ more i) ∙ sym (zips.filter_append p (map (both a) (filter t Y)) (pairs both (filter s X) (filter t Y)))
    by false is row more = rw (no_pairs both p a (λ b. unshown is b (p (both a b)) refl) Y) more

-- what two tests pass
filter_both : {A : Type 0} (p q : A → Bool) (xs : List A) → filter q (filter p xs) ≡ filter (λ (x : A). p x && q x) xs
filter_both p q [] = refl
filter_both {A} p q (x ∷ xs) = by (p x) (filter_both p q xs)
  where
    kept : (b : Bool) → filter q (filter p xs) ≡ filter (λ (y : A). p y && q y) xs → cond b (x ∷ filter q (filter p xs)) (filter q (filter p xs)) ≡ cond b (x ∷ filter (λ (y : A). p y && q y) xs) (filter (λ (y : A). p y && q y) xs)
    kept true more = ap (λ (l : List A). x ∷ l) more
    kept false more = more

    by : (a : Bool) → filter q (filter p xs) ≡ filter (λ (y : A). p y && q y) xs → filter q (cond a (x ∷ filter p xs) (filter p xs)) ≡ cond (a && q x) (x ∷ filter (λ (y : A). p y && q y) xs) (filter (λ (y : A). p y && q y) xs)
    by true more = kept (q x) more
    by false more = more

-- what is filtered row by row, and then as a whole
pub joined_filtered : {A C : Type 0} (p q : C → Bool) (f : A → List C) (X : List A) → filter q (flat_map (λ (a : A). filter p (f a)) X) ≡ filter (λ (c : C). p c && q c) (flat_map f X)
joined_filtered p q f [] = refl
joined_filtered {A} {C} p q f (a ∷ X) =
    zips.filter_append q (filter p (f a)) (flat_map (λ (b : A). filter p (f b)) X)
    ∙ (λ i. filter_both p q (f a) i ++ joined_filtered p q f X i)
    ∙ sym (zips.filter_append (λ (c : C). p c && q c) (f a) (flat_map f X))
