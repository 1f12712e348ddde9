-- The values that rows have in a column, each of which is put into a set.
use Rattle.std.proofs.Common.{◌≡◌, ◌∙◌, ℕ, zero, suc, ◌+◌, ◌<◌, ◌&&◌, ◌||◌, Bool, true, false, cond, List, [], ◌∷◌, ◌++◌, get_or, length, take, refl, sym, ap, subst, arith, Some, None}
use Rattle.std.specs.Prelude.{not}
use Rattle.std.specs.BTreeMap.{is_at}
use Rattle.std.specs.BTreeSet.{BTreeSet, contains}
use Rattle.std.specs.List.{list_any}
use Rattle.std.specs.Ordering.{is_eq, ordering_then}
use Rattle.std.specs.declared.cmp.Ordering.{Ordering}
use Rattle.std.specs.declared.cmp.Ordering.TheVariants.{Less, Equal, Greater}
use Rattle.std.proofs.lemmas.Bool.{and_from, and_parts, false≢true, or_from, or_parts}
use Rattle.std.proofs.lemmas.List.{take_more}
use Rattle.std.proofs.lemmas.List.Folds.{list_any-append, list_any_at}
use Rattle.okws_base.specs.declared.value.Value.{Value}
use Rattle.okws_base.specs.Value.{value_cmp, value_eq}
use Rattle.okws_plan.specs.Meaning.{at_column}
use Rattle.okws_plan.specs.Sound.{are_distinct, same_key_at}
use Rattle.row_index.specs.Groups.{group_cmp}
use Rattle.row_index.specs.declared.slot.Group.{Group}
use Rattle.row_search.proofs.Entries.{value_eq_is}
use Rattle.store_keeper.specs.Keys.{group_at}

-- Exactly the values that these rows have in the column are in the set.
abbrev pub HoldsValues : BTreeSet Group → ℕ → List (List Value) → Type 0
HoldsValues seen k rows = (v : Value) → contains group_cmp seen (group_at v) ≡ list_any (λ (row : List Value). value_eq (at_column row k) v) rows

is_eq_then : (o : Ordering) → is_eq (ordering_then o Equal) ≡ is_eq o
is_eq_then Less = refl
is_eq_then Equal = refl
is_eq_then Greater = refl

same_group : (a b : Value) → is_eq (group_cmp (group_at a) (group_at b)) ≡ value_eq a b
same_group a b = is_eq_then (value_cmp a b) ∙ value_eq_is a b

either : (b c : Bool) → cond b true c ≡ (c || (b || false))
either true true = refl
either true false = refl
either false true = refl
either false false = refl

-- a value more
pub holds_next : (old new : BTreeSet Group) (k : ℕ) (rows : List (List Value)) (at : ℕ) (row : List Value) (g : Group) → at < length rows → row ≡ get_or rows at row → g ≡ group_at (at_column row k)
    → ((q : Group) → contains group_cmp new q ≡ cond (is_at (group_cmp g) q) true (contains group_cmp old q)) → HoldsValues old k (take at rows) → HoldsValues new k (take (at + 1) rows)
holds_next old new k rows at row g below is key updates holds = λ v.
    let has : List Value → Bool = λ (r : List Value). value_eq (at_column r k) v in
    let mine : is_at (group_cmp g) (group_at v) ≡ has row = ap (λ (x : Group). is_eq (group_cmp x (group_at v))) key ∙ same_group (at_column row k) v in
    updates (group_at v)
    ∙ ap (λ (b : Bool). cond b true (contains group_cmp old (group_at v))) mine
    ∙ ap (λ (b : Bool). cond (has row) true b) (holds v)
    ∙ either (has row) (list_any has (take at rows))
    ∙ sym (list_any-append has (take at rows) (row ∷ []))
    ∙ ap (λ (r : List Value). list_any has (take at rows ++ r ∷ [])) is
    ∙ ap (list_any has) (sym (take_more rows at row below))

-- whether the next value is there
pub holds_here : (seen : BTreeSet Group) (k : ℕ) (rows : List (List Value)) (row : List Value) (g : Group) (is_new : Bool) → g ≡ group_at (at_column row k) → is_new ≡ not (contains group_cmp seen g) → HoldsValues seen k rows
    → is_new ≡ not (list_any (λ (other : List Value). same_key_at (Some k) other row) rows)
holds_here seen k rows row g is_new key new holds = new ∙ ap (λ (x : Group). not (contains group_cmp seen x)) key ∙ ap not (holds (at_column row k))

apart_push : (same : List Value → List Value → Bool) (rows : List (List Value)) (row : List Value) → are_distinct same rows ≡ true → list_any (λ (other : List Value). same other row) rows ≡ false → are_distinct same (rows ++ row ∷ []) ≡ true
apart_push same [] row h free = refl
apart_push same (x ∷ rows) row h free =
    let both = and_parts (not (list_any (λ (later : List Value). same x later) rows)) (are_distinct same rows) h in
    let parts = or_parts (same x row) (list_any (λ (other : List Value). same other row) rows) free in
    let none : list_any (λ (later : List Value). same x later) (rows ++ row ∷ []) ≡ false =
    list_any-append (λ (later : List Value). same x later) rows (row ∷ []) ∙ or_from (list_any (λ (later : List Value). same x later) rows) (same x row || false) (not_true _ both.0) (or_from (same x row) false parts.0 refl) in
    and_from (not (list_any (λ (later : List Value). same x later) (rows ++ row ∷ []))) (are_distinct same (rows ++ row ∷ [])) (ap not none) (apart_push same rows row both.1 parts.1)
  where
    not_true : (b : Bool) → not b ≡ true → b ≡ false
    not_true true e = absurd (false≢true e)
    not_true false e = refl

-- the rows are apart with one more, whose value is in none of them
pub apart_next : (same : List Value → List Value → Bool) (rows : List (List Value)) (at : ℕ) (row : List Value) (is_new : Bool) → at < length rows → row ≡ get_or rows at row → is_new ≡ not (list_any (λ (other : List Value). same other row) (take at rows)) → is_new ≡ true
    → are_distinct same (take at rows) ≡ true → are_distinct same (take (at + 1) rows) ≡ true
apart_next same rows at row is_new below is new came h =
    subst (λ (xs : List (List Value)). are_distinct same xs ≡ true) (ap (λ (r : List Value). take at rows ++ r ∷ []) is ∙ sym (take_more rows at row below))
    (apart_push same (take at rows) row h (free (list_any (λ (other : List Value). same other row) (take at rows)) (sym new ∙ came)))
  where
    free : (b : Bool) → not b ≡ true → b ≡ false
    free true e = absurd (false≢true e)
    free false e = refl

and_false : (b : Bool) → (b && false) ≡ false
and_false true = refl
and_false false = refl

-- they aren't where its value is in one of those above it
pub apart_not : (same : List Value → List Value → Bool) (rows : List (List Value)) (at : ℕ) (row : List Value) → at < length rows → row ≡ get_or rows at row → list_any (λ (other : List Value). same other row) (take at rows) ≡ true → are_distinct same rows ≡ false
apart_not same [] at row below is taken = absurd (omega (arith, below))
apart_not same (x ∷ rows) zero row below is taken = absurd (false≢true taken)
apart_not same (x ∷ rows) (suc at) row below is taken = by (same x row) refl taken (λ any. apart_not same rows at row (omega (arith, below)) is any)
  where
    by : (b : Bool) → same x row ≡ b → (b || list_any (λ (other : List Value). same other row) (take at rows)) ≡ true → (list_any (λ (other : List Value). same other row) (take at rows) ≡ true → are_distinct same rows ≡ false) → are_distinct same (x ∷ rows) ≡ false
    by true one any rest =
        let found : list_any (λ (later : List Value). same x later) rows ≡ true = list_any_at (λ (later : List Value). same x later) rows at row (omega (arith, below)) (subst (λ (r : List Value). same x r ≡ true) is one) in
        ap (λ (b : Bool). not b && are_distinct same rows) found
    by false one any rest =
        ap (λ (b : Bool). not (list_any (λ (later : List Value). same x later) rows) && b) (rest any) ∙ and_false (not (list_any (λ (later : List Value). same x later) rows))

pub apart_here : (same : List Value → List Value → Bool) (rows : List (List Value)) (at : ℕ) (row : List Value) (is_new : Bool) → at < length rows → row ≡ get_or rows at row → is_new ≡ not (list_any (λ (other : List Value). same other row) (take at rows)) → is_new ≡ false
    → are_distinct same rows ≡ false
apart_here same rows at row is_new below is new stayed = apart_not same rows at row below is (taken (list_any (λ (other : List Value). same other row) (take at rows)) (sym new ∙ stayed))
  where
    taken : (b : Bool) → not b ≡ false → b ≡ true
    taken true e = refl
    taken false e = absurd (false≢true (sym e))

none_any : (x : List Value) (rows : List (List Value)) → list_any (λ (later : List Value). same_key_at None x later) rows ≡ false
none_any x [] = refl
none_any x (r ∷ rows) = none_any x rows

-- without a KEY column all are apart
pub none_apart : (rows : List (List Value)) → are_distinct (same_key_at None) rows ≡ true
none_apart [] = refl
none_apart (x ∷ rows) = and_from (not (list_any (λ (later : List Value). same_key_at None x later) rows)) (are_distinct (same_key_at None) rows) (ap not (none_any x rows)) (none_apart rows)
