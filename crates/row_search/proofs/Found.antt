-- What is found by slots is what passes a test of rows.
use Rattle.std.proofs.Common.{◌≡◌, ◌∙◌, ℕ, ◌+◌, ◌<◌, Bool, true, false, cond, List, [], ◌∷◌, ◌++◌, length, get_or, take, refl, ap, sym, subst, suc, Some, None}
use Rattle.std.specs.Prelude.{filter, map, ◌||◌, ◌&&◌, ◌==◌, is_some}
use Rattle.std.specs.List.{list_any, list_all, find, AllByRecursion}
use Rattle.std.specs.List.Sorted.{IsStrictlySortedBy}
use Rattle.std.specs.Cmp.{nat_cmp_total, eq_by_cmp_equiv, unsigned_Decides}
use Rattle.std.specs.Ordering.{is_eq, nat_cmp}
use Rattle.std.specs.Map.{lookup, keys_of}
use Rattle.std.specs.BTreeMap.{is_at}
use Rattle.std.specs.BTreeSet.{BTreeSet, contains}
use Rattle.std.specs.declared.cmp.Ordering.{Ordering}
use Rattle.std.specs.declared.cmp.Ordering.TheVariants.{Less, Equal, Greater}
use Rattle.std.specs.declared.option.Option.{Option}
use Rattle.std.proofs.lemmas.List.Elements.{filter_more}
use Rattle.std.proofs.lemmas.List.{append-nil}
use Rattle.okws_base.specs.Runs.{Each}
use Rattle.std.proofs.lemmas.Map.Keys.{IsDistinct-from_sorted}
use Rattle.std.proofs.lemmas.Map.Entries.{lookup-filter-values, option_filter}
use Rattle.std.proofs.lemmas.Map.Lookups.{btree_set_from_contains, exact_unsigned}
use Rattle.okws_base.specs.declared.value.Value.{Value}
use Rattle.okws_plan.specs.Meaning.{at_column, operand, meets, meets_all}
use Rattle.okws_plan.specs.Comparing.{passes}
use Rattle.okws_plan.specs.declared.statement.Condition.{Condition}
use Rattle.okws_plan.specs.declared.statement.Comparison.{Comparison}
use Rattle.okws_plan.specs.declared.statement.Comparison.TheVariants as comparison
use Rattle.okws_base.specs.Value.{value_cmp}
use Rattle.row_index.specs.Places.{row_at}
use Rattle.row_index.proofs.Stood.{each_here}
use Rattle.row_index.specs.Slots.{places_in}
use Rattle.row_index.specs.Index.{is_indexed, cell, is_value, IsIndex}
use Rattle.row_search.specs.Places.{places_where, rows_of, passes_at, is_equality, leading, tests, tests_by}
use Rattle.row_index.specs.declared.slots.Slots.{Slots}

-- ---- order

above_filtered : {X K : Type 0} (C : K → K → Ordering) (f : X → K) (p : X → Bool) (k : K) (xs : List X) → AllByRecursion (λ y. C k y ≡ Less) (map f xs) → AllByRecursion (λ y. C k y ≡ Less) (map f (filter p xs))
above_filtered C f p k [] all = tt
above_filtered C f p k (x ∷ xs) all = by (p x) refl (above_filtered C f p k xs all.1)
  where
    by : (b : Bool) → p x ≡ b → AllByRecursion (λ y. C k y ≡ Less) (map f (filter p xs)) → AllByRecursion (λ y. C k y ≡ Less) (map f (filter p (x ∷ xs)))
    by true is rest = rw is (all.0, rest)
    by false is rest = rw is rest

-- What is kept of a list in order is in order.
pub sorted_filtered : {X K : Type 0} (C : K → K → Ordering) (f : X → K) (p : X → Bool) (xs : List X) → IsStrictlySortedBy C (map f xs) → IsStrictlySortedBy C (map f (filter p xs))
unfolding IsStrictlySortedBy
sorted_filtered C f p [] up = tt
sorted_filtered C f p (x ∷ xs) up = by (p x) refl (sorted_filtered C f p xs up.1)
  where
    by : (b : Bool) → p x ≡ b → IsStrictlySortedBy C (map f (filter p xs)) → IsStrictlySortedBy C (map f (filter p (x ∷ xs)))
    by true is rest = rw is (above_filtered C f p (f x) xs up.0, rest)
    by false is rest = rw is rest

-- ---- which places

any_some : {K X : Type 0} (test : K → Bool) (es : List (K × X)) → list_any test (keys_of es) ≡ is_some (lookup test es)
any_some test [] = refl
any_some test (e ∷ es) = by (test e.0) refl (any_some test es)
  where
    by : (b : Bool) → test e.0 ≡ b → list_any test (keys_of es) ≡ is_some (lookup test es) → list_any test (keys_of (e ∷ es)) ≡ is_some (lookup test (e ∷ es))
    by true is rest = rw is refl
    by false is rest = rw is rest

some_passes : (test : List Value → Bool) (o : Option (List Value)) → is_some (option_filter test o) ≡ passes_at test o
some_passes test None = refl
some_passes test (Some row) = by (test row) refl
  where
    by : (b : Bool) → test row ≡ b → is_some (option_filter test (Some row)) ≡ test row
    by true is = rw is refl
    by false is = rw is refl

-- A place is among those that pass a test where its row passes it.
pub any_where : (test : List Value → Bool) (es : List (ℕ × List Value)) (p : ℕ) → IsStrictlySortedBy nat_cmp (keys_of es) → list_any (is_at (nat_cmp p)) (places_where test es) ≡ passes_at test (lookup (is_at (nat_cmp p)) es)
any_where test es p up =
    any_some (is_at (nat_cmp p)) (filter (λ (e : ℕ × List Value). test e.1) es)
    ∙ ap is_some (lookup-filter-values (eq_by_cmp_equiv nat_cmp_total) test p es (IsDistinct-from_sorted nat_cmp (keys_of es) up))
    ∙ some_passes test (lookup (is_at (nat_cmp p)) es)

same_test : (c : ℕ) (v : Value) (o : Option (List Value)) → is_value v (cell c o) ≡ passes_at (λ (row : List Value). is_value v (Some (at_column row c))) o
same_test c v None = refl
same_test c v (Some row) = refl

-- The places in the slots of a value are those of the rows that have it.
pub listed : (columns : List ℕ) (rows : List (ℕ × List Value)) (slots : Slots) (c : ℕ) (v : Value) → IsIndex columns rows slots → IsStrictlySortedBy nat_cmp (keys_of rows) → IsStrictlySortedBy nat_cmp (places_in c v slots) → is_indexed columns c ≡ true
    → places_in c v slots ≡ places_where (λ (row : List Value). is_value v (Some (at_column row c))) rows
listed columns rows slots c v index up rise has =
    let own : List Value → Bool = λ (row : List Value). is_value v (Some (at_column row c)) in
    let left : BTreeSet ℕ = record { keys = places_in c v slots } in
    let right : BTreeSet ℕ = record { keys = places_where own rows } in
    let same : (p : ℕ) → contains nat_cmp left p ≡ contains nat_cmp right p = λ (p : ℕ).
    index.exact (record { group = record { column = c; value = v }; place = p })
    ∙ ap (λ (b : Bool). b && is_value v (cell c (row_at rows p))) has
    ∙ same_test c v (row_at rows p)
    ∙ sym (any_where own rows p up) in
    btree_set_from_contains nat_cmp_total left right
    rise
    (sorted_filtered nat_cmp (λ (e : ℕ × List Value). e.0) (λ (e : ℕ × List Value). own e.1) rows up)
    same
    exact_unsigned

-- Of the places that pass one test those whose rows pass a narrower one are the places that pass this.
pub narrowed : (g : ℕ → Bool) (holds meets : List Value → Bool) (es : List (ℕ × List Value)) → Each (λ (e : ℕ × List Value). g e.0 ≡ meets e.1) es → ((row : List Value) → meets row ≡ true → holds row ≡ true) → filter g (places_where holds es) ≡ places_where meets es
narrowed g holds meets [] all only = refl
narrowed g holds meets (e ∷ es) all only = by (meets e.1) (holds e.1) refl refl (narrowed g holds meets es all.1 only)
  where
    by : (m h : Bool) → meets e.1 ≡ m → holds e.1 ≡ h → filter g (places_where holds es) ≡ places_where meets es → filter g (places_where holds (e ∷ es)) ≡ places_where meets (e ∷ es)
    by true true is at rest = rw (is, at, all.0, is) (ap (λ (more : List ℕ). e.0 ∷ more) rest)
    by true false is at rest = let never : ⊥ = (let on : holds e.1 ≡ true = only e.1 is in cc) in absurd never
    by false true is at rest = rw (is, at, all.0, is) rest
    by false false is at rest = rw (is, at) rest

-- ---- by a condition

find_passes : {X : Type 0} (p : X → Bool) (xs : List X) (x : X) → find p xs ≡ Some x → p x ≡ true
find_passes p [] x h = let never : ⊥ = cc in absurd never
find_passes p (y ∷ ys) x h = by (p y) refl h (find_passes p ys x)
  where
    by : (b : Bool) → p y ≡ b → find p (y ∷ ys) ≡ Some x → (find p ys ≡ Some x → p x ≡ true) → p x ≡ true
    by true is e more = let first : find p (y ∷ ys) ≡ Some y = rw is refl in let same : y ≡ x = cc in subst (λ (z : _). p z ≡ true) same is
    by false is e more = let rest : find p (y ∷ ys) ≡ find p ys = rw is refl in more (sym rest ∙ e)

find_met : {X : Type 0} (p q : X → Bool) (xs : List X) (x : X) → find p xs ≡ Some x → list_all q xs ≡ true → q x ≡ true
find_met p q [] x h all = let never : ⊥ = cc in absurd never
find_met p q (y ∷ ys) x h all = by (p y) (q y) refl refl h all (find_met p q ys x)
  where
    by : (b m : Bool) → p y ≡ b → q y ≡ m → find p (y ∷ ys) ≡ Some x → (q y && list_all q ys) ≡ true → (find p ys ≡ Some x → list_all q ys ≡ true → q x ≡ true) → q x ≡ true
    by true true is at e met more = let first : find p (y ∷ ys) ≡ Some y = rw is refl in let same : y ≡ x = cc in subst (λ (z : _). q z ≡ true) same at
    by false true is at e met more =
        let rest : find p (y ∷ ys) ≡ find p ys = rw is refl in
        let others : (q y && list_all q ys) ≡ list_all q ys = rw at refl in
        more (sym rest ∙ e) (sym others ∙ met)
    by b false is at e met more = let none : (q y && list_all q ys) ≡ false = rw at refl in let never : ⊥ = cc in absurd never

equality_passes : (k : Comparison) (o : Ordering) → is_equality k ≡ true → passes k o ≡ is_eq o
equality_passes comparison.Equal Less h = refl
equality_passes comparison.Equal Equal h = refl
equality_passes comparison.Equal Greater h = refl
equality_passes comparison.Differs o h = let never : ⊥ = cc in absurd never
equality_passes comparison.Below o h = let never : ⊥ = cc in absurd never
equality_passes comparison.AtMost o h = let never : ⊥ = cc in absurd never
equality_passes comparison.Above o h = let never : ⊥ = cc in absurd never
equality_passes comparison.AtLeast o h = let never : ⊥ = cc in absurd never

both_left : (a b : Bool) → (a && b) ≡ true → a ≡ true
both_left true b h = refl
both_left false b h = h

pub both_right : (a b : Bool) → (a && b) ≡ true → b ≡ true
both_right true b h = h
both_right false b h = let never : ⊥ = cc in absurd never

pub and_true : (b : Bool) → (b && true) ≡ b
and_true true = refl
and_true false = refl

-- What the leading condition compares with stands in each row that meets it, and in no other.
pub leading_holds : (columns : List ℕ) (args : List Value) (conditions : List Condition) (c : Condition) (row : List Value) → leading columns conditions ≡ Some c → meets args c row ≡ is_value (operand args c.operand) (Some (at_column row c.column))
leading_holds columns args conditions c row h =
    equality_passes c.comparison (value_cmp (at_column row c.column) (operand args c.operand))
    (both_left (is_equality c.comparison) (is_indexed columns c.column) (find_passes (λ (d : Condition). is_equality d.comparison && is_indexed columns d.column) conditions c h))

-- Tests that agree keep the same items.
pub filter_alike : {X : Type 0} (p q : X → Bool) (xs : List X) → ((x : X) → p x ≡ q x) → filter p xs ≡ filter q xs
filter_alike p q [] same = refl
filter_alike p q (x ∷ xs) same = by (q x) refl (filter_alike p q xs same)
  where
    by : (b : Bool) → q x ≡ b → filter p xs ≡ filter q xs → filter p (x ∷ xs) ≡ filter q (x ∷ xs)
    by true is rest = rw (same x, is) (ap (λ (more : List _). x ∷ more) rest)
    by false is rest = rw (same x, is) rest

-- The rows of the entries that pass a test.
pub rows_where : (test : List Value → Bool) (es : List (ℕ × List Value)) → rows_of (filter (λ (e : ℕ × List Value). test e.1) es) ≡ filter test (rows_of es)
rows_where test [] = refl
rows_where test (e ∷ es) = by (test e.1) refl (rows_where test es)
  where
    by : (b : Bool) → test e.1 ≡ b → rows_of (filter (λ (e : ℕ × List Value). test e.1) es) ≡ filter test (rows_of es) → rows_of (filter (λ (e : ℕ × List Value). test e.1) (e ∷ es)) ≡ filter test (rows_of (e ∷ es))
    by true is rest = rw is (ap (λ (more : List (List Value)). e.1 ∷ more) rest)
    by false is rest = rw is rest

-- As many places as rows pass a test.
pub count_where : (test : List Value → Bool) (es : List (ℕ × List Value)) → length (places_where test es) ≡ length (filter test (rows_of es))
count_where test [] = refl
count_where test (e ∷ es) = by (test e.1) refl (count_where test es)
  where
    by : (b : Bool) → test e.1 ≡ b → length (places_where test es) ≡ length (filter test (rows_of es)) → length (places_where test (e ∷ es)) ≡ length (filter test (rows_of (e ∷ es)))
    by true is rest = rw is (ap suc rest)
    by false is rest = rw is rest

-- All rows are there.
pub count_all : (es : List (ℕ × List Value)) → length (rows_of es) ≡ length es
count_all [] = refl
count_all (e ∷ es) = ap suc (count_all es)

each_passes : (f : ℕ → Option (List Value)) (test : List Value → Bool) (es : List (ℕ × List Value)) → Each (λ (e : ℕ × List Value). f e.0 ≡ Some e.1) es → Each (λ (e : ℕ × List Value). passes_at test (f e.0) ≡ test e.1) es
each_passes f test [] all = tt
each_passes f test (e ∷ es) all = (ap (passes_at test) all.0, each_passes f test es all.1)

-- The candidates are the places of the rows that meet the leading condition.
pub candidates_are : (columns : List ℕ) (rows : List (ℕ × List Value)) (slots : Slots) (args : List Value) (conditions : List Condition) (c : Condition) → IsIndex columns rows slots → IsStrictlySortedBy nat_cmp (keys_of rows) → IsStrictlySortedBy nat_cmp (places_in c.column (operand args c.operand) slots) → leading columns conditions ≡ Some c
    → places_in c.column (operand args c.operand) slots ≡ places_where (λ (row : List Value). is_value (operand args c.operand) (Some (at_column row c.column))) rows
candidates_are columns rows slots args conditions c index up rise h =
    listed columns rows slots c.column (operand args c.operand) index up rise
    (both_right (is_equality c.comparison) (is_indexed columns c.column) (find_passes (λ (d : Condition). is_equality d.comparison && is_indexed columns d.column) conditions c h))

-- A row that meets all conditions has what the leading one compares with.
pub met_leading : (columns : List ℕ) (args : List Value) (conditions : List Condition) (c : Condition) → leading columns conditions ≡ Some c → (row : List Value) → meets_all args conditions row ≡ true → is_value (operand args c.operand) (Some (at_column row c.column)) ≡ true
met_leading columns args conditions c h row met =
    sym (leading_holds columns args conditions c row h) ∙ find_met (λ (d : Condition). is_equality d.comparison && is_indexed columns d.column) (λ (d : Condition). meets args d row) conditions c h met

-- Where there is but one condition, the leading one is this.
pub sole_leading : (columns : List ℕ) (d c : Condition) → leading columns (d ∷ []) ≡ Some c → d ≡ c
sole_leading columns d c h = by (is_equality d.comparison && is_indexed columns d.column) refl h
  where
    by : (b : Bool) → (is_equality d.comparison && is_indexed columns d.column) ≡ b → leading columns (d ∷ []) ≡ Some c → d ≡ c
    by true is led = let first : leading columns (d ∷ []) ≡ Some d = rw is refl in cc
    by false is led = let none : leading columns (d ∷ []) ≡ None = rw is refl in let never : ⊥ = cc in absurd never

-- Those of the candidates that meet all conditions are the places of all rows that do.
pub found_by : (columns : List ℕ) (rows : List (ℕ × List Value)) (slots : Slots) (args : List Value) (conditions : List Condition) (c : Condition) → IsIndex columns rows slots → IsStrictlySortedBy nat_cmp (keys_of rows) → IsStrictlySortedBy nat_cmp (places_in c.column (operand args c.operand) slots) → leading columns conditions ≡ Some c
    → filter (λ (p : ℕ). passes_at (meets_all args conditions) (row_at rows p)) (places_in c.column (operand args c.operand) slots) ≡ places_where (meets_all args conditions) rows
found_by columns rows slots args conditions c index up rise h =
    ap (filter (λ (p : ℕ). passes_at (meets_all args conditions) (row_at rows p))) (candidates_are columns rows slots args conditions c index up rise h)
    ∙ narrowed (λ (p : ℕ). passes_at (meets_all args conditions) (row_at rows p)) (λ (row : List Value). is_value (operand args c.operand) (Some (at_column row c.column))) (meets_all args conditions) rows
    (each_passes (row_at rows) (meets_all args conditions) rows (each_here rows up))
    (met_leading columns args conditions c h)

-- There are as many candidates as rows are tested.
pub counted_by : (columns : List ℕ) (rows : List (ℕ × List Value)) (slots : Slots) (args : List Value) (conditions : List Condition) (c : Condition) → IsIndex columns rows slots → IsStrictlySortedBy nat_cmp (keys_of rows) → IsStrictlySortedBy nat_cmp (places_in c.column (operand args c.operand) slots) → leading columns conditions ≡ Some c
    → length (places_in c.column (operand args c.operand) slots) ≡ tests columns args conditions (rows_of rows)
counted_by columns rows slots args conditions c index up rise h =
    ap length (candidates_are columns rows slots args conditions c index up rise h)
    ∙ count_where (λ (row : List Value). is_value (operand args c.operand) (Some (at_column row c.column))) rows
    ∙ ap length (filter_alike (λ (row : List Value). is_value (operand args c.operand) (Some (at_column row c.column))) (λ (row : List Value). meets_all args (c ∷ []) row) (rows_of rows)
    (λ row. sym (leading_holds columns args conditions c row h) ∙ sym (and_true (meets args c row))))
    ∙ ap (λ (o : Option Condition). tests_by o args (rows_of rows)) (sym h)

find_any : {X : Type 0} (p : X → Bool) (xs : List X) (x : X) → find p xs ≡ Some x → list_any p xs ≡ true
find_any p [] x h = let never : ⊥ = cc in absurd never
find_any p (y ∷ ys) x h = by (p y) refl h (find_any p ys x)
  where
    by : (b : Bool) → p y ≡ b → find p (y ∷ ys) ≡ Some x → (find p ys ≡ Some x → list_any p ys ≡ true) → list_any p (y ∷ ys) ≡ true
    by true is e more = rw is refl
    by false is e more = let rest : find p (y ∷ ys) ≡ find p ys = rw is refl in rw is (more (sym rest ∙ e))

-- A column that is found among those that have an index is one of them.
pub own_is : (columns : List ℕ) (c o : ℕ) → find (λ (d : ℕ). d == c) columns ≡ Some o → o ≡ c
own_is columns c o h = (unsigned_Decides o c).0 (find_passes (λ (d : ℕ). d == c) columns o h)

pub own_found : (columns : List ℕ) (c o : ℕ) → find (λ (d : ℕ). d == c) columns ≡ Some o → is_indexed columns o ≡ true
own_found columns c o h = subst (λ (n : ℕ). is_indexed columns n ≡ true) (sym (own_is columns c o h)) (find_any (λ (d : ℕ). d == c) columns o h)

pub any_alike : {X : Type 0} (p q : X → Bool) (xs : List X) → ((x : X) → p x ≡ q x) → list_any p xs ≡ list_any q xs
any_alike p q [] same = refl
any_alike p q (x ∷ xs) same = ap (λ (b : Bool). b || list_any p xs) (same x) ∙ ap (λ (b : Bool). q x || b) (any_alike p q xs same)
