-- What is found when all stands are gone through.
use Rattle.std.proofs.Common.{◌≡◌, ◌∙◌, ℕ, zero, suc, ◌+◌, ◌<◌, ◌≤◌, Bool, true, false, List, [], ◌∷◌, ◌++◌, length, get_or, take, refl, ap, sym, Some, None, Result, Ok, Err, OnOk, IfOk, arith}
use Rattle.std.specs.Prelude.{◌||◌, filter, ◌&&◌}
use Rattle.std.specs.List.{list_any}
use Rattle.std.specs.List.Sorted.{IsStrictlySortedBy}
use Rattle.std.specs.Ordering.{nat_cmp}
use Rattle.std.specs.declared.option.Option.{Option}
use Rattle.okws_base.specs.declared.value.Value.{Value}
use Rattle.row_index.specs.Stands.{entry_of, standing, Placed}
use Rattle.row_index.specs.declared.placed.Stand.{Stand}
use Rattle.row_index.proofs.Stands.{stands_first, empty_first}
use Rattle.row_index.specs.Index.{is_indexed}
use Rattle.row_search.specs.Places.{rows_of, passes_at, IsSound}
use Rattle.row_index.specs.Slots.{holds}
use Rattle.row_index.specs.declared.slot.Slot.{Slot}
use Rattle.row_index.specs.declared.slots.Slots.{Slots}
use Rattle.row_search.proofs.Entries.{filter_map_some, filter_map_none}

-- One stand more, with a row and without.
pub one_more : (stands : List Stand) (i : ℕ) (d : Stand) (row : List Value) → i < length stands → (get_or stands i d).row ≡ Some row → standing (take (i + 1) stands) ≡ standing (take i stands) ++ ((get_or stands i d).place, row) ∷ []
one_more stands i d row low is = filter_map_some entry_of stands i d ((get_or stands i d).place, row) low (entry (get_or stands i d) is)
  where
    entry : (s : Stand) → s.row ≡ Some row → entry_of s ≡ Some (s.place, row)
    entry s h = rw h refl

pub none_more : (stands : List Stand) (i : ℕ) (d : Stand) → i < length stands → (get_or stands i d).row ≡ None → standing (take (i + 1) stands) ≡ standing (take i stands)
none_more stands i d low is = filter_map_none entry_of stands i d low (entry (get_or stands i d) is)
  where
    entry : (s : Stand) → s.row ≡ None → entry_of s ≡ None
    entry s h = rw h refl

one_longer : (es : List (ℕ × List Value)) (e : ℕ × List Value) → length (es ++ e ∷ []) ≡ length es + 1
one_longer [] e = refl
one_longer (f ∷ es) e = omega (arith, one_longer es e)

-- And how many stand then.
pub one_counted : (stands : List Stand) (i : ℕ) (d : Stand) (row : List Value) → i < length stands → (get_or stands i d).row ≡ Some row → length (standing (take (i + 1) stands)) ≡ length (standing (take i stands)) + 1
one_counted stands i d row low is = ap length (one_more stands i d row low is) ∙ one_longer (standing (take i stands)) ((get_or stands i d).place, row)

-- One entry more that passes a test, and one that doesn't.
pub passing_more : (test : List Value → Bool) (es : List (ℕ × List Value)) (e : ℕ × List Value) → test e.1 ≡ true → filter (λ (e : ℕ × List Value). test e.1) (es ++ e ∷ []) ≡ filter (λ (e : ℕ × List Value). test e.1) es ++ e ∷ []
passing_more test [] e is = rw is refl
passing_more test (f ∷ es) e is = by (test f.1) refl (passing_more test es e is)
  where
    by : (b : Bool) → test f.1 ≡ b → filter (λ (e : ℕ × List Value). test e.1) (es ++ e ∷ []) ≡ filter (λ (e : ℕ × List Value). test e.1) es ++ e ∷ []
        → filter (λ (e : ℕ × List Value). test e.1) ((f ∷ es) ++ e ∷ []) ≡ filter (λ (e : ℕ × List Value). test e.1) (f ∷ es) ++ e ∷ []
    by true at rest = rw at (ap (λ (more : List (ℕ × List Value)). f ∷ more) rest)
    by false at rest = rw at rest

pub missing_more : (test : List Value → Bool) (es : List (ℕ × List Value)) (e : ℕ × List Value) → test e.1 ≡ false → filter (λ (e : ℕ × List Value). test e.1) (es ++ e ∷ []) ≡ filter (λ (e : ℕ × List Value). test e.1) es
missing_more test [] e is = rw is refl
missing_more test (f ∷ es) e is = by (test f.1) refl (missing_more test es e is)
  where
    by : (b : Bool) → test f.1 ≡ b → filter (λ (e : ℕ × List Value). test e.1) (es ++ e ∷ []) ≡ filter (λ (e : ℕ × List Value). test e.1) es
        → filter (λ (e : ℕ × List Value). test e.1) ((f ∷ es) ++ e ∷ []) ≡ filter (λ (e : ℕ × List Value). test e.1) (f ∷ es)
    by true at rest = rw at (ap (λ (more : List (ℕ × List Value)). f ∷ more) rest)
    by false at rest = rw at rest

-- No more rows stand in front than stand.
pub front_stands : (stands : List Stand) (i : ℕ) → length (standing (take i stands)) ≤ length (standing stands)
front_stands [] zero = omega arith
front_stands [] (suc i) = omega arith
front_stands (s ∷ stands) zero = omega arith
front_stands (s ∷ stands) (suc i) = by s.row refl (front_stands stands i)
  where
    by : (o : Option (List Value)) → s.row ≡ o → length (standing (take i stands)) ≤ length (standing stands) → length (standing (s ∷ take i stands)) ≤ length (standing (s ∷ stands))
    by None is rest = rw (empty_first s (take i stands) is, empty_first s stands is) rest
    by (Some row) is rest = rw (stands_first s (take i stands) row is, stands_first s stands row is) (omega (arith, rest))

-- A row passes a test where the row of some stand does.
pub any_standing : (test : List Value → Bool) (stands : List Stand) → list_any (λ (s : Stand). passes_at test s.row) stands ≡ list_any test (rows_of (standing stands))
any_standing test [] = refl
any_standing test (s ∷ stands) = by s.row refl (any_standing test stands)
  where
    by : (o : Option (List Value)) → s.row ≡ o → list_any (λ (s : Stand). passes_at test s.row) stands ≡ list_any test (rows_of (standing stands)) → list_any (λ (s : Stand). passes_at test s.row) (s ∷ stands) ≡ list_any test (rows_of (standing (s ∷ stands)))
    by None is rest = rw is rest
    by (Some row) is rest = rw is (ap (λ (b : Bool). test row || b) rest)

-- What follows from what holds of an answer holds of it.
pub on_ok : {X E P Q : Type 0} (r : Result X E) → (P → Q) → OnOk r P → OnOk r Q
on_ok (Ok x) f h = f h
on_ok (Err e) f h = tt

-- And what follows from two things that hold of it.
pub if_ok_both : {X E R : Type 0} {P Q : X → Type 0} (r : Result X E) → ((x : X) → P x → R → Q x) → IfOk r P → OnOk r R → IfOk r Q
if_ok_both (Ok x) f h k = f x h k
if_ok_both (Err e) f h k = tt

nothing_at : (b : Bool) → (b && false) ≡ false
nothing_at true = refl
nothing_at false = refl

none_sorted : IsStrictlySortedBy nat_cmp []
unfolding IsStrictlySortedBy
none_sorted = tt

-- No rows, with no slots.
pub none_sound : (columns : List ℕ) (rows : Placed) (slots : Slots) → rows ≡ record { entries = []; next = 0 } → ((q : Slot) → holds slots q ≡ false) → IsSound columns rows.entries rows.next slots
none_sound columns rows slots is none = rw is (record {
  rising = none_sorted;
  index = record { exact = λ (q : Slot). none q ∙ sym (nothing_at (is_indexed columns q.group.column)) };
  free = λ (p : ℕ) h. refl;
})
