-- Lists that grow at their ends, and lists of which one item is changed.
use Rattle.std.proofs.Common.{◌≡◌, ℕ, suc, zero, ◌+◌, ◌<◌, ◌≤◌, Bool, true, false, not, ◌||◌, cond, List, [], ◌∷◌, ◌++◌, length, map, nat_lt, Option, Some, None, refl, ap, ◌∙◌, arith, length-append, length-set}
use Rattle.std.specs.Prelude.{slice_get, option_map, is_some, is_none, position, unwrap_or}
use Rattle.std.specs.List.{list_all, list_any, position_or_len}
use Rattle.std.proofs.lemmas.Bool.{and_parts, and_from, not-true, not-false, ltb-true, ltb-false, lt-ltb}
use Rattle.std.proofs.lemmas.List.Folds.{list_all-append, list_any-append}
use Rattle.okws_plan.specs.Sound.{are_distinct}
use Rattle.config_reader.specs.After.{changed_at, put_if}

pub or_false : (x y : Bool) → (x || y) ≡ false → (x ≡ false) × (y ≡ false)
or_false true y h = absurd (cc)
or_false false y h = (refl, h)

-- there is room for one more
pub room : (n m : ℕ) → not (nat_lt n m) ≡ false → n < m
room n m h = ltb-true n m (not-false (nat_lt n m) h)

pub length_push : {A : Type 0} (xs : List A) (y : A) (m : ℕ) → length xs < m → length (xs ++ y ∷ []) ≤ m
length_push xs y m h = omega (arith, length-append xs (y ∷ []))

pub list_all_push : {A : Type 0} (p : A → Bool) (xs : List A) (y : A) → list_all p xs ≡ true → p y ≡ true → list_all p (xs ++ y ∷ []) ≡ true
list_all_push p xs y h e = rw (list_all-append p xs (y ∷ []), h, e) refl

pub list_all_weaker : {A : Type 0} (p q : A → Bool) (xs : List A) → ((x : A) → p x ≡ true → q x ≡ true) → list_all p xs ≡ true → list_all q xs ≡ true
list_all_weaker p q [] f h = refl
list_all_weaker p q (x ∷ xs) f h =
    let parts = and_parts (p x) (list_all p xs) h in
    and_from (q x) (list_all q xs) (f x parts.0) (list_all_weaker p q xs f parts.1)

pub any_map : {A B : Type 0} (p : B → Bool) (f : A → B) (xs : List A) → list_any p (map f xs) ≡ list_any (λ (x : A). p (f x)) xs
any_map p f [] = refl
any_map {A} p f (x ∷ xs) = ap (λ (b : Bool). p (f x) || b) (any_map p f xs)

pub distinct_push : {A : Type 0} (same : A → A → Bool) (xs : List A) (y : A) → are_distinct same xs ≡ true → list_any (λ (x : A). same x y) xs ≡ false → are_distinct same (xs ++ y ∷ []) ≡ true
distinct_push same [] y h none = refl
distinct_push {A} same (x ∷ xs) y h none =
    let parts = and_parts (not (list_any (same x) xs)) (are_distinct same xs) h in
    let first = or_false (same x y) (list_any (λ (o : A). same o y) xs) none in
    let apart : list_any (same x) xs ≡ false = not-true (list_any (same x) xs) parts.0 in
    let more : are_distinct same (xs ++ y ∷ []) ≡ true = distinct_push same xs y parts.1 first.1 in
    let here : list_any (same x) (xs ++ y ∷ []) ≡ false = rw (list_any-append (same x) xs (y ∷ []), apart, first.0) refl in
    rw (here, more) refl

none_at : {A : Type 0} (t : Bool) (p : A → Bool) (x : A) (xs : List A) → p x ≡ t → (length xs ≤ position_or_len p xs → list_any p xs ≡ false) → length (x ∷ xs) ≤ position_or_len p (x ∷ xs) → list_any p (x ∷ xs) ≡ false
none_at true p x xs e ih h =
    let z : position_or_len p (x ∷ xs) ≡ 0 = rw e refl in
    absurd (omega arith)
none_at false p x xs e ih h =
    let k : position_or_len p (x ∷ xs) ≡ 1 + position_or_len p xs = rw e refl in
    rw e (ih (omega arith))

none_passes : {A : Type 0} (p : A → Bool) (xs : List A) → length xs ≤ position_or_len p xs → list_any p xs ≡ false
none_passes p [] h = refl
none_passes p (x ∷ xs) h = none_at (p x) p x xs refl (none_passes p xs) h

not_found_at : (t : Bool) (n m : ℕ) → nat_lt n m ≡ t → is_some (cond t (Some n) None) ≡ false → m ≤ n
not_found_at true n m e h = absurd (cc)
not_found_at false n m e h = ltb-false n m e

-- what no place was found for is not there
pub not_found : {A : Type 0} (p : A → Bool) (xs : List A) → is_some (position p xs) ≡ false → list_any p xs ≡ false
not_found p xs h = none_passes p xs (not_found_at (nat_lt (position_or_len p xs) (length xs)) (position_or_len p xs) (length xs) refl h)

found_at : (t : Bool) (n m : ℕ) → nat_lt n m ≡ t → is_none (cond t (Some n) None) ≡ false → nat_lt (unwrap_or (cond t (Some n) None) 0) m ≡ true
found_at true n m e h = e
found_at false n m e h = absurd (cc)

-- what a place was found for stands below the end
pub found_below : {A : Type 0} (p : A → Bool) (xs : List A) → is_none (position p xs) ≡ false → nat_lt (unwrap_or (position p xs) 0) (length xs) ≡ true
found_below p xs h = found_at (nat_lt (position_or_len p xs) (length xs)) (position_or_len p xs) (length xs) refl h

put_next : {A : Type 0} (x : A) (xs : List A) (i : ℕ) (o : Option A) → put_if (x ∷ xs) (suc i) o ≡ x ∷ put_if xs i o
put_next x xs i None = refl
put_next x xs i (Some a) = refl

-- what a change leaves as it was is the same of the changed list
map_put : {A B : Type 0} (f : A → B) (change : A → A) (xs : List A) (i : ℕ) → ((a : A) → f (change a) ≡ f a) → map f (put_if xs i (option_map change (slice_get xs i))) ≡ map f xs
map_put f change [] i same = refl
map_put {A} {B} f change (x ∷ xs) zero same = ap (λ (b : B). b ∷ map f xs) (same x)
map_put {A} {B} f change (x ∷ xs) (suc i) same =
    ap (map f) (put_next x xs i (option_map change (slice_get xs i))) ∙ ap (λ (bs : List B). f x ∷ bs) (map_put f change xs i same)

pub map_changed : {A B : Type 0} (f : A → B) (change : A → A) (o : Option ℕ) (xs : List A) → ((a : A) → f (change a) ≡ f a) → map f (changed_at o change xs) ≡ map f xs
map_changed f change None xs same = refl
map_changed f change (Some i) xs same = map_put f change xs i same

length_put : {A : Type 0} (xs : List A) (i : ℕ) (o : Option A) → length (put_if xs i o) ≡ length xs
length_put xs i None = refl
length_put xs i (Some a) = length-set xs i a

pub length_changed : {A : Type 0} (change : A → A) (o : Option ℕ) (xs : List A) → length (changed_at o change xs) ≡ length xs
length_changed change None xs = refl
length_changed change (Some i) xs = length_put xs i (option_map change (slice_get xs i))

all_put : {A : Type 0} (p : A → Bool) (change : A → A) (xs : List A) (i : ℕ) → list_all p xs ≡ true → ((a : A) → slice_get xs i ≡ Some a → p a ≡ true → p (change a) ≡ true) → list_all p (put_if xs i (option_map change (slice_get xs i))) ≡ true
all_put p change [] i h f = refl
all_put p change (x ∷ xs) zero h f =
    let parts = and_parts (p x) (list_all p xs) h in
    and_from (p (change x)) (list_all p xs) (f x refl parts.0) parts.1
all_put p change (x ∷ xs) (suc i) h f =
    let parts = and_parts (p x) (list_all p xs) h in
    ap (list_all p) (put_next x xs i (option_map change (slice_get xs i))) ∙ and_from (p x) (list_all p (put_if xs i (option_map change (slice_get xs i)))) parts.0 (all_put p change xs i parts.1 f)

pub all_changed : {A : Type 0} (p : A → Bool) (change : A → A) (o : Option ℕ) (xs : List A) → list_all p xs ≡ true → ((i : ℕ) (a : A) → o ≡ Some i → slice_get xs i ≡ Some a → p a ≡ true → p (change a) ≡ true) → list_all p (changed_at o change xs) ≡ true
all_changed p change None xs h f = h
all_changed p change (Some i) xs h f = all_put p change xs i h (λ a e q. f i a refl e q)

-- what holds of an item holds of it after a change that keeps it
get_put : {A : Type 0} (P : Option A → Bool) (change : A → A) (xs : List A) (i k : ℕ) → ((a : A) → P (Some a) ≡ true → P (Some (change a)) ≡ true) → P (slice_get xs k) ≡ true → P (slice_get (put_if xs i (option_map change (slice_get xs i))) k) ≡ true
get_put P change [] i k f h = h
get_put P change (x ∷ xs) zero zero f h = f x h
get_put P change (x ∷ xs) zero (suc k) f h = h
get_put {A} P change (x ∷ xs) (suc i) zero f h = ap (λ (ys : List A). P (slice_get ys 0)) (put_next x xs i (option_map change (slice_get xs i))) ∙ h
get_put {A} P change (x ∷ xs) (suc i) (suc k) f h = ap (λ (ys : List A). P (slice_get ys (suc k))) (put_next x xs i (option_map change (slice_get xs i))) ∙ get_put P change xs i k f h

pub get_changed : {A : Type 0} (P : Option A → Bool) (change : A → A) (o : Option ℕ) (xs : List A) (k : ℕ) → ((a : A) → P (Some a) ≡ true → P (Some (change a)) ≡ true) → P (slice_get xs k) ≡ true → P (slice_get (changed_at o change xs) k) ≡ true
get_changed P change None xs k f h = h
get_changed P change (Some i) xs k f h = get_put P change xs i k f h

-- what is seen of an item and a change leaves as it was is the same of the changed list
seen_put : {A B : Type 0} (f : Option A → B) (change : A → A) (xs : List A) (i k : ℕ) → ((a : A) → f (Some (change a)) ≡ f (Some a)) → f (slice_get (put_if xs i (option_map change (slice_get xs i))) k) ≡ f (slice_get xs k)
seen_put f change [] i k same = refl
seen_put f change (x ∷ xs) zero zero same = same x
seen_put f change (x ∷ xs) zero (suc k) same = refl
seen_put {A} f change (x ∷ xs) (suc i) zero same = ap (λ (ys : List A). f (slice_get ys 0)) (put_next x xs i (option_map change (slice_get xs i)))
seen_put {A} f change (x ∷ xs) (suc i) (suc k) same = ap (λ (ys : List A). f (slice_get ys (suc k))) (put_next x xs i (option_map change (slice_get xs i))) ∙ seen_put f change xs i k same

pub seen_changed : {A B : Type 0} (f : Option A → B) (change : A → A) (o : Option ℕ) (xs : List A) (k : ℕ) → ((a : A) → f (Some (change a)) ≡ f (Some a)) → f (slice_get (changed_at o change xs) k) ≡ f (slice_get xs k)
seen_changed f change None xs k same = refl
seen_changed f change (Some i) xs k same = seen_put f change xs i k same

-- what holds of an item that is there holds of it in a longer list
pub get_push : {A : Type 0} (P : Option A → Bool) (xs ys : List A) (k : ℕ) → P None ≡ false → P (slice_get xs k) ≡ true → P (slice_get (xs ++ ys) k) ≡ true
get_push P [] ys k none h = absurd (cc)
get_push P (x ∷ xs) ys zero none h = h
get_push P (x ∷ xs) ys (suc k) none h = get_push P xs ys k none h

pub lt_push : {A : Type 0} (xs : List A) (y : A) (n : ℕ) → nat_lt n (length xs) ≡ true → nat_lt n (length (xs ++ y ∷ [])) ≡ true
lt_push xs y n h = lt-ltb n (length (xs ++ y ∷ [])) (omega (arith, length-append xs (y ∷ []), ltb-true n (length xs) h))
