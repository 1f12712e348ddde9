-- How joined rows are found, row by row of the first table.
use Rattle.std.proofs.Common.{◌≡◌, ◌∙◌, ℕ, ◌-◌, ◌≤◌, ◌<◌, Bool, true, false, not, ◌&&◌, cond, List, [], ◌∷◌, ◌++◌, map, flat_map, refl, sym, ap}
use Rattle.std.specs.Prelude.{filter, nat_lt, if◌then◌else◌}
use Rattle.std.specs.Ordering.{is_eq}
use Rattle.std.specs.declared.cmp.Ordering.{Ordering}
use Rattle.std.specs.declared.cmp.Ordering.TheVariants as order
use Rattle.std.specs.Cmp.{signed_Decides}
use Rattle.std.proofs.lemmas.Bool.{true≢false, false≢true, and_parts, not-true, ltb-true, ltb-false}
use lib.Pointwise.{bytes_decides}
use Rattle.okws_base.specs.Value.{value_eq, value_cmp}
use Rattle.okws_base.specs.declared.value.Value.{Value}
use Rattle.okws_base.specs.declared.value.Value.TheVariants as value
use Rattle.okws_plan.specs.Comparing.{passes}
use Rattle.okws_plan.specs.Meaning.{at_column, meets, meets_all, hits, laid, is_joined, joined_to, joined_rows}
use Rattle.okws_plan.specs.Rules.{are_apart}
use Rattle.okws_plan.specs.declared.statement.Comparison.TheVariants as comparison
use Rattle.okws_plan.specs.declared.statement.Condition.{Condition}
use Rattle.okws_plan.specs.declared.statement.Join.{Join}
use Rattle.okws_plan.specs.declared.statement.Selection.{Selection}
use Rattle.okws_plan.proofs.Laid.{laid_first, laid_second}
use Rattle.row_search.specs.Hits.{lent}
use Rattle.index_keeper.specs.Joining.{own_conditions, equal_to, joined_hits}
use Rattle.row_search.specs.declared.finding.Hit.{Hit}
use Rattle.row_search.proofs.Entries.{value_eq_is}
use Rattle.row_search.proofs.Found.{filter_alike}

same : (a b : Value) → value_eq a b ≡ true → a ≡ b
same (value.Int a) (value.Int b) h = ap value.Int ((signed_Decides a b).0 h)
same (value.Int a) (value.Text b) h = absurd (false≢true h)
same (value.Int a) (value.Bytes b) h = absurd (false≢true h)
same (value.Text a) (value.Int b) h = absurd (false≢true h)
same (value.Text a) (value.Text b) h = ap value.Text ((bytes_decides a b).0 h)
same (value.Text a) (value.Bytes b) h = absurd (false≢true h)
same (value.Bytes a) (value.Int b) h = absurd (false≢true h)
same (value.Bytes a) (value.Text b) h = absurd (false≢true h)
same (value.Bytes a) (value.Bytes b) h = ap value.Bytes ((bytes_decides a b).0 h)

itself : (a : Value) → value_eq a a ≡ true
itself (value.Int a) = (signed_Decides a a).1 refl
itself (value.Text a) = (bytes_decides a a).1 refl
itself (value.Bytes a) = (bytes_decides a a).1 refl

turned : (a b : Value) → value_eq a b ≡ value_eq b a
turned a b = by (value_eq a b) (value_eq b a) refl refl
  where
    by : (x y : Bool) → value_eq a b ≡ x → value_eq b a ≡ y → x ≡ y
    by true true e f = refl
    by false false e f = refl
    by true false e f = absurd (true≢false (sym (itself a) ∙ ap (λ (v : Value). value_eq v a) (same a b e) ∙ f))
    by false true e f = absurd (true≢false (sym (itself b) ∙ ap (λ (v : Value). value_eq v b) (same b a f) ∙ e))

passes_equal : (o : Ordering) → passes comparison.Equal o ≡ is_eq o
passes_equal order.Less = refl
passes_equal order.Equal = refl
passes_equal order.Greater = refl

-- The row of a pair is equal to the first one where it meets the condition.
pub joined_where : (args : List Value) (n : ℕ) (join : Join) (a b : List Value) → are_apart n join.left join.right ≡ true → meets_all args (equal_to n join a ∷ []) b ≡ is_joined join (laid n a b)
joined_where args n join a b apart = by (nat_lt join.left n) refl apart
  where
    left : Value
    left = at_column (laid n a b) join.left

    right : Value
    right = at_column (laid n a b) join.right

    compared : (x y : Value) → (passes comparison.Equal (value_cmp x y) && true) ≡ value_eq x y
    compared x y = ap (λ (t : Bool). t && true) (passes_equal (value_cmp x y) ∙ value_eq_is x y) ∙ whole (value_eq x y)
      where
        whole : (t : Bool) → (t && true) ≡ t
        whole true = refl
        whole false = refl

    by : (s : Bool) → nat_lt join.left n ≡ s → cond s (not (nat_lt join.right n)) (nat_lt join.right n) ≡ true
        → (passes comparison.Equal (value_cmp (at_column b (cond s join.right join.left - n)) (at_column a (cond s join.left join.right))) && true) ≡ value_eq left right
    by true is other =
        let low : join.left < n = ltb-true join.left n is in
        let high : n ≤ join.right = ltb-false join.right n (not-true (nat_lt join.right n) other) in
        compared (at_column b (join.right - n)) (at_column a join.left) ∙ turned (at_column b (join.right - n)) (at_column a join.left)
        ∙ sym (ap (λ (v : Value). value_eq v right) (laid_first n a b join.left low) ∙ ap (value_eq (at_column a join.left)) (laid_second n a b join.right high))
    by false is other =
        let high : n ≤ join.left = ltb-false join.left n is in
        let low : join.right < n = ltb-true join.right n other in
        compared (at_column b (join.left - n)) (at_column a join.right)
        ∙ sym (ap (λ (v : Value). value_eq v right) (laid_second n a b join.left high) ∙ ap (value_eq (at_column b (join.left - n))) (laid_first n a b join.right low))

filter_mapped : {A B : Type 0} (f : A → B) (p : B → Bool) (xs : List A) → filter p (map f xs) ≡ map f (filter (λ (x : A). p (f x)) xs)
filter_mapped f p [] = refl
filter_mapped {A} {B} f p (x ∷ xs) = by (p (f x)) (filter_mapped f p xs)
  where
    by : (s : Bool) → filter p (map f xs) ≡ map f (filter (λ (x : A). p (f x)) xs) → cond s (f x ∷ filter p (map f xs)) (filter p (map f xs)) ≡ map f (cond s (x ∷ filter (λ (x : A). p (f x)) xs) (filter (λ (x : A). p (f x)) xs))
    by true more = ap (λ (l : List B). f x ∷ l) more
    by false more = more

-- The pairs of a row are it before each row that meets the condition.
pub pairs_found : (args : List Value) (n : ℕ) (join : Join) (a : List Value) (second : List (List Value)) → are_apart n join.left join.right ≡ true → map (laid n a) (hits args (equal_to n join a ∷ []) second) ≡ joined_to n join second a
pairs_found args n join a second apart =
    ap (map (laid n a)) (filter_alike (meets_all args (equal_to n join a ∷ [])) (λ (b : List Value). is_joined join (laid n a b)) second (λ b. joined_where args n join a b apart))
    ∙ sym (filter_mapped (laid n a) (is_joined join) second)

-- Hits lend their rows.
pub laid_lent : (n : ℕ) (a : List Value) (hs : List Hit) → map (λ (h : Hit). laid n a h.row.now) hs ≡ map (laid n a) (lent hs)
laid_lent n a [] = refl
laid_lent n a (h ∷ hs) = ap (λ (more : List (List Value)). laid n a h.row.now ∷ more) (laid_lent n a hs)

pub each_lent : (f : List Value → List (List Value)) (hs : List Hit) → flat_map (λ (h : Hit). f h.row.now) hs ≡ flat_map f (lent hs)
each_lent f [] = refl
each_lent f (h ∷ hs) = ap (λ (more : List (List Value)). f h.row.now ++ more) (each_lent f hs)

-- A pair meets all conditions only where its first row meets its own.
own_met : (args : List Value) (n : ℕ) (conditions : List Condition) (a b : List Value) → meets_all args conditions (laid n a b) ≡ true → meets_all args (own_conditions n conditions) a ≡ true
own_met args n [] a b h = refl
own_met args n (c ∷ more) a b h =
    let parts = and_parts (meets args c (laid n a b)) (meets_all args more (laid n a b)) h in
    by (nat_lt c.column n) refl parts.0 (own_met args n more a b parts.1)
  where
    by : (s : Bool) → nat_lt c.column n ≡ s → meets args c (laid n a b) ≡ true → meets_all args (own_conditions n more) a ≡ true → meets_all args (cond s (c ∷ own_conditions n more) (own_conditions n more)) a ≡ true
    by true is met rest =
        let here : meets args c a ≡ true = rw (← laid_first n a b c.column (ltb-true c.column n is)) met in
        rw here rest
    by false is met rest = rest

none_met : (args : List Value) (n : ℕ) (conditions : List Condition) (join : Join) (a : List Value) → meets_all args (own_conditions n conditions) a ≡ false → (second : List (List Value)) → hits args conditions (joined_to n join second a) ≡ []
none_met args n conditions join a h [] = refl
none_met args n conditions join a h (b ∷ second) = by (is_joined join (laid n a b)) (none_met args n conditions join a h second)
  where
    missed : (s : Bool) → meets_all args conditions (laid n a b) ≡ s → s ≡ false
    missed true e = absurd (true≢false (sym (own_met args n conditions a b e) ∙ h))
    missed false e = refl

    by : (s : Bool) → hits args conditions (joined_to n join second a) ≡ [] → hits args conditions (cond s (laid n a b ∷ joined_to n join second a) (joined_to n join second a)) ≡ []
    by true more = rw (missed (meets_all args conditions (laid n a b)) refl) more
    by false more = more

filter_append : {A : Type 0} (q : A → Bool) (xs ys : List A) → filter q (xs ++ ys) ≡ filter q xs ++ filter q ys
filter_append q [] ys = refl
filter_append {A} q (x ∷ xs) ys = by (q x) (filter_append q xs ys)
  where
    by : (b : Bool) → filter q (xs ++ ys) ≡ filter q xs ++ filter q ys → cond b (x ∷ filter q (xs ++ ys)) (filter q (xs ++ ys)) ≡ cond b (x ∷ filter q xs) (filter q xs) ++ filter q ys
    by true more = ap (λ (l : List A). x ∷ l) more
    by false more = more

-- The hits of joined rows are those of each first row that meets its own conditions, one after the other.
pub row_by_row : (args : List Value) (n : ℕ) (join : Join) (s : Selection) (first second : List (List Value))
    → flat_map (λ (a : List Value). hits args s.conditions (joined_to n join second a)) (hits args (own_conditions n s.conditions) first) ≡ joined_hits args n join s first second
row_by_row args n join s [] second = refl
row_by_row args n join s (a ∷ first) second =
    by (meets_all args (own_conditions n s.conditions) a) refl (row_by_row args n join s first second) ∙ sym (filter_append (meets_all args s.conditions) (joined_to n join second a) (joined_rows n join first second))
  where
    each : List Value → List (List Value)
    each = λ x. hits args s.conditions (joined_to n join second x)

    by : (m : Bool) → meets_all args (own_conditions n s.conditions) a ≡ m → flat_map each (hits args (own_conditions n s.conditions) first) ≡ joined_hits args n join s first second
        → flat_map each (cond m (a ∷ hits args (own_conditions n s.conditions) first) (hits args (own_conditions n s.conditions) first)) ≡ each a ++ joined_hits args n join s first second
    by true is more = ap (λ (l : List (List Value)). each a ++ l) more
    by false is more = more ∙ ap (λ (l : List (List Value)). l ++ joined_hits args n join s first second) (sym (none_met args n s.conditions join a is second))
