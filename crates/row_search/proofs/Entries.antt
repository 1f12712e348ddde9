-- Rows at their places, after changes and without.
use Rattle.std.proofs.Common.{◌≡◌, ◌∙◌, ℕ, suc, ◌+◌, ◌<◌, Bool, true, false, cond, List, [], ◌∷◌, ◌++◌, length, get_or, take, refl, ap, sym, subst, Some, None, arith}
use Rattle.std.specs.Prelude.{filter, map, ◌==◌, not, if◌then◌else◌, option_map}
use Rattle.std.specs.List.{list_any, filter_map, cons_option}
use Rattle.std.specs.List.Sorted.{IsStrictlySortedBy}
use Rattle.std.specs.Cmp.{nat_cmp_total, tied_itself, unsigned_tied, nat_eq_equiv, eq_by_cmp_equiv, unsigned_Decides, signed_Decides, ranked_equal, int_ranks}
use Rattle.std.specs.Bool.{one_answer}
use Rattle.std.specs.Ordering.{is_eq, nat_cmp, int_cmp, int_eq, ordering_reverse}
use Rattle.std.specs.Map.{keys_of}
use Rattle.std.specs.BTreeMap.{is_at}
use Rattle.std.specs.declared.cmp.Ordering.{Ordering}
use Rattle.std.specs.declared.cmp.Ordering.TheVariants.{Less, Equal, Greater}
use Rattle.std.specs.declared.option.Option.{Option}
use Rattle.std.proofs.lemmas.List.{take_more, append-nil}
use Rattle.std.proofs.lemmas.List.Elements.{filter_map-append}
use Rattle.std.proofs.lemmas.Map.{lookup-none}
use Rattle.std.proofs.lemmas.Map.Keys.{IsDistinct-from_sorted, sorted_tail}
use Rattle.std.proofs.lemmas.Map.Entries.{lookup-filter-values, option_filter, none_past_head, none_below_head}
use Rattle.std.proofs.lemmas.Map.Lookups.{exact_unsigned}
use Rattle.std.proofs.lemmas.Map.Text.{is_eq-slice_cmp}
use Rattle.okws_base.specs.Value.{value_cmp, value_eq}
use Rattle.okws_base.specs.declared.value.Value.{Value}
use Rattle.okws_base.specs.declared.value.Value.TheVariants.{Int, Text, Bytes}
use Rattle.row_index.specs.Places.{merged, row_at}
use Rattle.row_index.proofs.Stood.{row_first, row_later}
use Rattle.row_search.specs.Places.{places_where, rows_of}
use Rattle.row_index.specs.Changes.{changed, changes_to}
use Rattle.row_index.specs.declared.changing.Change.{Change}
use Rattle.row_search.proofs.Found.{sorted_filtered, rows_where}

pub filter_map_some : {X Y : Type 0} (h : X → Option Y) (xs : List X) (i : ℕ) (d : X) (y : Y) → i < length xs → h (get_or xs i d) ≡ Some y → filter_map h (take (i + 1) xs) ≡ filter_map h (take i xs) ++ y ∷ []
filter_map_some h xs i d y below is =
    ap (filter_map h) (take_more xs i d below)
    ∙ filter_map-append h (take i xs) (get_or xs i d ∷ [])
    ∙ ap (λ (o : Option _). filter_map h (take i xs) ++ cons_option o []) is

pub filter_map_none : {X Y : Type 0} (h : X → Option Y) (xs : List X) (i : ℕ) (d : X) → i < length xs → h (get_or xs i d) ≡ None → filter_map h (take (i + 1) xs) ≡ filter_map h (take i xs)
filter_map_none h xs i d below is =
    ap (filter_map h) (take_more xs i d below)
    ∙ filter_map-append h (take i xs) (get_or xs i d ∷ [])
    ∙ ap (λ (o : Option _). filter_map h (take i xs) ++ cons_option o []) is
    ∙ append-nil (filter_map h (take i xs))

-- A change for each entry that passes a test.
abbrev pub listed_changes : (List Value → Option (List Value)) → (List Value → Bool) → List (ℕ × List Value) → List Change
listed_changes make test es = changes_to make (filter (λ (e : ℕ × List Value). test e.1) es)

-- There are as many as rows that pass it.
pub count_listed : (make : List Value → Option (List Value)) (test : List Value → Bool) (es : List (ℕ × List Value)) → length (listed_changes make test es) ≡ length (filter test (rows_of es))
count_listed make test [] = refl
count_listed make test (e ∷ es) = by (test e.1) refl (count_listed make test es)
  where
    by : (b : Bool) → test e.1 ≡ b → length (listed_changes make test es) ≡ length (filter test (rows_of es)) → length (listed_changes make test (e ∷ es)) ≡ length (filter test (rows_of (e ∷ es)))
    by true is rest = rw is (ap suc rest)
    by false is rest = rw is rest

listed_places : (make : List Value → Option (List Value)) (test : List Value → Bool) (es : List (ℕ × List Value)) → map (λ (ch : Change). ch.place) (listed_changes make test es) ≡ places_where test es
listed_places make test [] = refl
listed_places make test (e ∷ es) = by (test e.1) refl (listed_places make test es)
  where
    by : (b : Bool) → test e.1 ≡ b → map (λ (ch : Change). ch.place) (listed_changes make test es) ≡ places_where test es → map (λ (ch : Change). ch.place) (listed_changes make test (e ∷ es)) ≡ places_where test (e ∷ es)
    by true is rest = rw is (ap (λ (more : List ℕ). e.0 ∷ more) rest)
    by false is rest = rw is rest

-- The places of these changes rise.
pub listed_rise : (make : List Value → Option (List Value)) (test : List Value → Bool) (es : List (ℕ × List Value)) → IsStrictlySortedBy nat_cmp (keys_of es) → IsStrictlySortedBy nat_cmp (map (λ (ch : Change). ch.place) (listed_changes make test es))
listed_rise make test es up =
    subst (IsStrictlySortedBy nat_cmp) (sym (listed_places make test es)) (sorted_filtered nat_cmp (λ (e : ℕ × List Value). e.0) (λ (e : ℕ × List Value). test e.1) es up)

-- What stands at a place after these changes, from the row that was there.
abbrev pub after_test : (List Value → Option (List Value)) → (List Value → Bool) → Option (List Value) → Option (List Value) → Option (List Value)
after_test make test None a = a
after_test make test (Some row) a = if test row then merged a (make row) else a

same_place : (p k : ℕ) → is_eq (nat_cmp p k) ≡ (k == p)
same_place p k = unsigned_tied p k ∙ nat_eq_equiv.symm p k

after_listed : (make : List Value → Option (List Value)) (test : List Value → Bool) (es : List (ℕ × List Value)) (a : Option (List Value)) (p : ℕ) → IsStrictlySortedBy nat_cmp (keys_of es) → changed (listed_changes make test es) a p ≡ after_test make test (row_at es p) a
after_listed make test [] a p up = refl
after_listed make test (e ∷ es) a p up = by (is_eq (nat_cmp p e.0)) (test e.1) refl refl (λ (o : Option (List Value)). after_listed make test es o p (sorted_tail nat_cmp e.0 (keys_of es) up))
  where
    by : (b t : Bool) → is_eq (nat_cmp p e.0) ≡ b → test e.1 ≡ t → ((o : Option (List Value)) → changed (listed_changes make test es) o p ≡ after_test make test (row_at es p) o)
        → changed (listed_changes make test (e ∷ es)) a p ≡ after_test make test (row_at (e ∷ es) p) a
    by true true is hit rest =
        let none : row_at es p ≡ None = lookup-none (is_at (nat_cmp p)) es (none_past_head (eq_by_cmp_equiv nat_cmp_total) p e es (IsDistinct-from_sorted nat_cmp (keys_of (e ∷ es)) up) is) in
        let here : (e.0 == p) ≡ true = sym (same_place p e.0) ∙ is in
        let front : changed (listed_changes make test (e ∷ es)) a p ≡ changed (listed_changes make test es) (if e.0 == p then merged a (make e.1) else a) p = rw hit refl in
        let stood : row_at (e ∷ es) p ≡ Some e.1 = rw is refl in
        front
        ∙ ap (λ (b : Bool). changed (listed_changes make test es) (if b then merged a (make e.1) else a) p) here
        ∙ rest (merged a (make e.1))
        ∙ ap (λ (o : Option (List Value)). after_test make test o (merged a (make e.1))) none
        ∙ sym (ap (λ (o : Option (List Value)). after_test make test o a) stood ∙ ap (λ (b : Bool). if b then merged a (make e.1) else a) hit)
    by true false is miss rest =
        let none : row_at es p ≡ None = lookup-none (is_at (nat_cmp p)) es (none_past_head (eq_by_cmp_equiv nat_cmp_total) p e es (IsDistinct-from_sorted nat_cmp (keys_of (e ∷ es)) up) is) in
        let front : changed (listed_changes make test (e ∷ es)) a p ≡ changed (listed_changes make test es) a p = rw miss refl in
        let stood : row_at (e ∷ es) p ≡ Some e.1 = rw is refl in
        front
        ∙ rest a
        ∙ ap (λ (o : Option (List Value)). after_test make test o a) none
        ∙ sym (ap (λ (o : Option (List Value)). after_test make test o a) stood ∙ ap (λ (b : Bool). if b then merged a (make e.1) else a) miss)
    by false true is hit rest =
        let here : (e.0 == p) ≡ false = sym (same_place p e.0) ∙ is in
        let front : changed (listed_changes make test (e ∷ es)) a p ≡ changed (listed_changes make test es) (if e.0 == p then merged a (make e.1) else a) p = rw hit refl in
        let stood : row_at (e ∷ es) p ≡ row_at es p = rw is refl in
        front
        ∙ ap (λ (b : Bool). changed (listed_changes make test es) (if b then merged a (make e.1) else a) p) here
        ∙ rest a
        ∙ sym (ap (λ (o : Option (List Value)). after_test make test o a) stood)
    by false false is miss rest =
        let front : changed (listed_changes make test (e ∷ es)) a p ≡ changed (listed_changes make test es) a p = rw miss refl in
        let stood : row_at (e ∷ es) p ≡ row_at es p = rw is refl in
        front ∙ rest a ∙ sym (ap (λ (o : Option (List Value)). after_test make test o a) stood)

-- None stands below the first place, nor at it once more.
none_below : (p : ℕ) (e : ℕ × List Value) (es : List (ℕ × List Value)) → IsStrictlySortedBy nat_cmp (keys_of (e ∷ es)) → nat_cmp p e.0 ≡ Less → row_at (e ∷ es) p ≡ None
none_below p e es up low = lookup-none (is_at (nat_cmp p)) (e ∷ es) (none_below_head nat_cmp_total p e es up low)

none_again : (p : ℕ) (e : ℕ × List Value) (es : List (ℕ × List Value)) → IsStrictlySortedBy nat_cmp (keys_of (e ∷ es)) → is_eq (nat_cmp p e.0) ≡ true → row_at es p ≡ None
none_again p e es up is = lookup-none (is_at (nat_cmp p)) es (none_past_head (eq_by_cmp_equiv nat_cmp_total) p e es (IsDistinct-from_sorted nat_cmp (keys_of (e ∷ es)) up) is)

some_row : (row other : List Value) → Some row ≡ Some other → row ≡ other
some_row row other h = cc

same_rest : (e f : ℕ × List Value) (es fs : List (ℕ × List Value)) → IsStrictlySortedBy nat_cmp (keys_of (e ∷ es)) → IsStrictlySortedBy nat_cmp (keys_of (f ∷ fs)) → e.0 ≡ f.0 → ((p : ℕ) → row_at (e ∷ es) p ≡ row_at (f ∷ fs) p) → (p : ℕ) → row_at es p ≡ row_at fs p
same_rest e f es fs up rise at same p = by (is_eq (nat_cmp p e.0)) refl
  where
    turn : is_eq (nat_cmp p e.0) ≡ is_eq (nat_cmp p f.0)
    turn = ap (λ (n : ℕ). is_eq (nat_cmp p n)) at

    by : (b : Bool) → is_eq (nat_cmp p e.0) ≡ b → row_at es p ≡ row_at fs p
    by true is = none_again p e es up is ∙ sym (none_again p f fs rise (sym turn ∙ is))
    by false is = sym (row_later e es p is) ∙ same p ∙ row_later f fs p (sym turn ∙ is)

-- Two tables whose places rise are one where the same row stands at each place.
same_entries : (es fs : List (ℕ × List Value)) → IsStrictlySortedBy nat_cmp (keys_of es) → IsStrictlySortedBy nat_cmp (keys_of fs) → ((p : ℕ) → row_at es p ≡ row_at fs p) → es ≡ fs
same_entries [] [] up rise same = refl
same_entries [] (f ∷ fs) up rise same =
    let there : None ≡ Some f.1 = same f.0 ∙ row_first f fs f.0 (ap is_eq (tied_itself nat_cmp_total f.0)) in
    let never : ⊥ = cc in absurd never
same_entries (e ∷ es) [] up rise same =
    let there : None ≡ Some e.1 = sym (same e.0) ∙ row_first e es e.0 (ap is_eq (tied_itself nat_cmp_total e.0)) in
    let never : ⊥ = cc in absurd never
same_entries (e ∷ es) (f ∷ fs) up rise same =
    by (nat_cmp e.0 f.0) refl (same_entries es fs (sorted_tail nat_cmp e.0 (keys_of es) up) (sorted_tail nat_cmp f.0 (keys_of fs) rise))
  where
    mine : row_at (e ∷ es) e.0 ≡ Some e.1
    mine = row_first e es e.0 (ap is_eq (tied_itself nat_cmp_total e.0))

    theirs : row_at (f ∷ fs) f.0 ≡ Some f.1
    theirs = row_first f fs f.0 (ap is_eq (tied_itself nat_cmp_total f.0))

    by : (o : Ordering) → nat_cmp e.0 f.0 ≡ o → (((p : ℕ) → row_at es p ≡ row_at fs p) → es ≡ fs) → e ∷ es ≡ f ∷ fs
    by Less is rest =
        let none : None ≡ Some e.1 = sym (none_below e.0 f fs rise is) ∙ sym (same e.0) ∙ mine in
        let never : ⊥ = cc in absurd never
    by Greater is rest =
        let turned : nat_cmp f.0 e.0 ≡ Less = nat_cmp_total.antisymm f.0 e.0 ∙ ap ordering_reverse is in
        let none : None ≡ Some f.1 = sym (none_below f.0 e es up turned) ∙ same f.0 ∙ theirs in
        let never : ⊥ = cc in absurd never
    by Equal is rest =
        let at : e.0 ≡ f.0 = exact_unsigned e.0 f.0 is in
        let row : e.1 ≡ f.1 = some_row e.1 f.1 (sym mine ∙ same e.0 ∙ ap (row_at (f ∷ fs)) at ∙ theirs) in
        ap (λ (k : ℕ). (k, e.1) ∷ es) at ∙ ap (λ (r : List Value). (f.0, r) ∷ es) row ∙ ap (λ (more : List (ℕ × List Value)). f ∷ more) (rest (same_rest e f es fs up rise at same))

removed_here : (test : List Value → Bool) (o : Option (List Value)) → after_test (λ _. None) test o o ≡ option_filter (λ (row : List Value). not (test row)) o
removed_here test None = refl
removed_here test (Some row) = by (test row) refl
  where
    by : (b : Bool) → test row ≡ b → (if test row then None else Some row) ≡ cond (not (test row)) (Some row) None
    by true is = rw is refl
    by false is = rw is refl

-- After the rows that pass a test were taken out, the others are left.
pub removed_rows : (test : List Value → Bool) (es now : List (ℕ × List Value)) → IsStrictlySortedBy nat_cmp (keys_of es) → IsStrictlySortedBy nat_cmp (keys_of now) → ((p : ℕ) → row_at now p ≡ changed (listed_changes (λ _. None) test es) (row_at es p) p) → rows_of now ≡ filter (λ (row : List Value). not (test row)) (rows_of es)
removed_rows test es now up rise left =
    let kept : List (ℕ × List Value) = filter (λ (e : ℕ × List Value). not (test e.1)) es in
    let same : now ≡ kept =
    same_entries now kept rise (sorted_filtered nat_cmp (λ (e : ℕ × List Value). e.0) (λ (e : ℕ × List Value). not (test e.1)) es up) (λ (p : ℕ).
    left p
    ∙ after_listed (λ _. None) test es (row_at es p) p up
    ∙ removed_here test (row_at es p)
    ∙ sym (lookup-filter-values (eq_by_cmp_equiv nat_cmp_total) (λ (row : List Value). not (test row)) p es (IsDistinct-from_sorted nat_cmp (keys_of es) up))) in
    ap rows_of same ∙ rows_where (λ (row : List Value). not (test row)) es

abbrev replaced_entries : (List Value → List Value) → List (ℕ × List Value) → List (ℕ × List Value)
replaced_entries g [] = []
replaced_entries g (e ∷ es) = (e.0, g e.1) ∷ replaced_entries g es

replaced_keys : (g : List Value → List Value) (es : List (ℕ × List Value)) → keys_of (replaced_entries g es) ≡ keys_of es
replaced_keys g [] = refl
replaced_keys g (e ∷ es) = ap (λ (more : List ℕ). e.0 ∷ more) (replaced_keys g es)

replaced_rows : (g : List Value → List Value) (es : List (ℕ × List Value)) → rows_of (replaced_entries g es) ≡ map g (rows_of es)
replaced_rows g [] = refl
replaced_rows g (e ∷ es) = ap (λ (more : List (List Value)). g e.1 ∷ more) (replaced_rows g es)

replaced_at : (g : List Value → List Value) (es : List (ℕ × List Value)) (p : ℕ) → row_at (replaced_entries g es) p ≡ option_map g (row_at es p)
replaced_at g [] p = refl
replaced_at g (e ∷ es) p = by (is_eq (nat_cmp p e.0)) refl (replaced_at g es p)
  where
    by : (b : Bool) → is_eq (nat_cmp p e.0) ≡ b → row_at (replaced_entries g es) p ≡ option_map g (row_at es p) → row_at (replaced_entries g (e ∷ es)) p ≡ option_map g (row_at (e ∷ es) p)
    by true is rest = rw is refl
    by false is rest = rw is rest

updated_here : (make : List Value → List Value) (test : List Value → Bool) (o : Option (List Value)) → after_test (λ (row : List Value). Some (make row)) test o o ≡ option_map (λ (row : List Value). if test row then make row else row) o
updated_here make test None = refl
updated_here make test (Some row) = by (test row) refl
  where
    by : (b : Bool) → test row ≡ b → (if test row then Some (make row) else Some row) ≡ Some (if test row then make row else row)
    by true is = rw is refl
    by false is = rw is refl

-- After the rows that pass a test were replaced, each stands where it stood.
pub updated_rows : (make : List Value → List Value) (test : List Value → Bool) (es now : List (ℕ × List Value)) → IsStrictlySortedBy nat_cmp (keys_of es) → IsStrictlySortedBy nat_cmp (keys_of now) → ((p : ℕ) → row_at now p ≡ changed (listed_changes (λ (row : List Value). Some (make row)) test es) (row_at es p) p) → rows_of now ≡ map (λ (row : List Value). if test row then make row else row) (rows_of es)
updated_rows make test es now up rise left =
    let g : List Value → List Value = λ (row : List Value). if test row then make row else row in
    let same : now ≡ replaced_entries g es =
    same_entries now (replaced_entries g es) rise (subst (IsStrictlySortedBy nat_cmp) (sym (replaced_keys g es)) up) (λ (p : ℕ).
    left p
    ∙ after_listed (λ (row : List Value). Some (make row)) test es (row_at es p) p up
    ∙ updated_here make test (row_at es p)
    ∙ sym (replaced_at g es p)) in
    ap rows_of same ∙ replaced_rows g es

some_there : (n : ℕ) → (suc n == 0) ≡ false
some_there n = by (suc n == 0) refl
  where
    by : (b : Bool) → (suc n == 0) ≡ b → (suc n == 0) ≡ false
    by true is = let none : suc n ≡ 0 = (unsigned_Decides (suc n) 0).0 is in absurd (omega arith)
    by false is = is

-- Some place passes a test where some row does.
pub any_rows : (test : List Value → Bool) (es : List (ℕ × List Value)) → not (length (places_where test es) == 0) ≡ list_any test (rows_of es)
any_rows test [] = refl
any_rows test (e ∷ es) = by (test e.1) refl (any_rows test es)
  where
    by : (b : Bool) → test e.1 ≡ b → not (length (places_where test es) == 0) ≡ list_any test (rows_of es) → not (length (places_where test (e ∷ es)) == 0) ≡ list_any test (rows_of (e ∷ es))
    by true is rest = rw is (ap not (some_there (length (places_where test es))))
    by false is rest = rw is rest

-- Two values are the same where neither is above the other.
pub value_eq_is : (a b : Value) → is_eq (value_cmp a b) ≡ value_eq a b
value_eq_is (Int a) (Int b) = one_answer (is_eq (int_cmp a b)) (int_eq a b) (ranked_equal a b (int_cmp a b) (int_ranks a b)) (signed_Decides a b)
value_eq_is (Int a) (Text b) = refl
value_eq_is (Int a) (Bytes b) = refl
value_eq_is (Text a) (Int b) = refl
value_eq_is (Text a) (Text b) = is_eq-slice_cmp a b
value_eq_is (Text a) (Bytes b) = refl
value_eq_is (Bytes a) (Int b) = refl
value_eq_is (Bytes a) (Text b) = refl
value_eq_is (Bytes a) (Bytes b) = is_eq-slice_cmp a b
