-- Stands with rising places: what stands at a place, and what does after a change.
use Rattle.std.proofs.Common.{◌≡◌, ◌∙◌, ℕ, zero, suc, ◌+◌, ◌<◌, ◌≤◌, Bool, true, false, cond, List, [], ◌∷◌, ◌++◌, length, get_or, set, refl, ap, sym, subst, Some, None, Result, Ok, Err, arith}
use Rattle.std.specs.Prelude.{filter, is_some, option_map, ◌==◌, if◌then◌else◌, nat_lt, IfSome, IfNone}
use Rattle.std.specs.List.{AllByRecursion, cons_option, HoldsAt}
use Rattle.std.specs.List.Sorted.{IsStrictlySortedBy, IsSearchInRange, IsBinarySearchResult, IsNonDecreasingBy}
use Rattle.std.specs.Cmp.{nat_cmp_total, tied_itself}
use Rattle.std.specs.Ordering.{is_eq, nat_cmp, ordering_index, ordering_reverse}
use Rattle.std.specs.Map.{keys_of}
use Rattle.std.specs.Result.{result_ok}
use Rattle.std.specs.declared.cmp.Ordering.{Ordering}
use Rattle.std.specs.declared.cmp.Ordering.TheVariants.{Less, Equal, Greater}
use Rattle.std.specs.declared.option.Option.{Option}
use Rattle.std.proofs.lemmas.Bool.Decides.{nat_tests}
use Rattle.std.proofs.lemmas.List.{map-append}
use Rattle.std.proofs.lemmas.List.Elements.{filter_map-append}
use Rattle.std.proofs.lemmas.Map.Keys.{sorted_head, sorted_tail}
use Rattle.std.proofs.lemmas.Map.Lookups.{exact_unsigned}
use Rattle.okws_base.specs.declared.value.Value.{Value}
use Rattle.row_index.specs.Places.{row_at, merged}
use Rattle.row_index.specs.Stands.{entry_of, standing, places_of, IsRising}
use Rattle.row_index.specs.declared.placed.Stand.{Stand}
use Rattle.row_index.proofs.Stood.{row_first, row_later}

-- ---- rising numbers

all_front : (P : ℕ → Type 0) (ns ms : List ℕ) → AllByRecursion P (ns ++ ms) → AllByRecursion P ns
all_front P [] ms all = tt
all_front P (n ∷ ns) ms all = (all.0, all_front P ns ms all.1)

all_last : (P : ℕ → Type 0) (ns : List ℕ) (m : ℕ) → AllByRecursion P (ns ++ m ∷ []) → P m
all_last P [] m all = all.0
all_last P (n ∷ ns) m all = all_last P ns m all.1

all_with : (P : ℕ → Type 0) (ns : List ℕ) (m : ℕ) → AllByRecursion P ns → P m → AllByRecursion P (ns ++ m ∷ [])
all_with P [] m all one = (one, tt)
all_with P (n ∷ ns) m all one = (all.0, all_with P ns m all.1 one)

sorted_front : (ns ms : List ℕ) → IsStrictlySortedBy nat_cmp (ns ++ ms) → IsStrictlySortedBy nat_cmp ns
unfolding IsStrictlySortedBy
sorted_front [] ms up = tt
sorted_front (n ∷ ns) ms up = (all_front (λ (y : ℕ). nat_cmp n y ≡ Less) ns ms up.0, sorted_front ns ms up.1)

-- What is behind all is above each.
below_last : (ns : List ℕ) (m : ℕ) → IsStrictlySortedBy nat_cmp (ns ++ m ∷ []) → AllByRecursion (λ (y : ℕ). nat_cmp y m ≡ Less) ns
unfolding IsStrictlySortedBy
below_last [] m up = tt
below_last (n ∷ ns) m up = (all_last (λ (y : ℕ). nat_cmp n y ≡ Less) ns m up.0, below_last ns m up.1)

-- One more behind the last.
sorted_more : (ns : List ℕ) (m k : ℕ) → nat_cmp m k ≡ Less → IsStrictlySortedBy nat_cmp (ns ++ m ∷ []) → IsStrictlySortedBy nat_cmp ((ns ++ m ∷ []) ++ k ∷ [])
unfolding IsStrictlySortedBy
sorted_more [] m k low up = ((low, tt), (tt, tt))
sorted_more (n ∷ ns) m k low up =
    (all_with (λ (y : ℕ). nat_cmp n y ≡ Less) (ns ++ m ∷ []) k up.0 (nat_cmp_total.trans n m k (all_last (λ (y : ℕ). nat_cmp n y ≡ Less) ns m up.0) low), sorted_more ns m k low up.1)

pub none_rise : IsRising [] 0
unfolding IsStrictlySortedBy
none_rise = (tt, tt)

-- ---- what stands

-- A stand with its row, before others.
pub stands_first : (s : Stand) (stands : List Stand) (row : List Value) → s.row ≡ Some row → standing (s ∷ stands) ≡ (s.place, row) ∷ standing stands
stands_first s stands row is = ap (λ (o : Option (List Value)). cons_option (option_map (λ (r : List Value). (s.place, r)) o) (standing stands)) is

pub empty_first : (s : Stand) (stands : List Stand) → s.row ≡ None → standing (s ∷ stands) ≡ standing stands
empty_first s stands is = ap (λ (o : Option (List Value)). cons_option (option_map (λ (r : List Value). (s.place, r)) o) (standing stands)) is

above_standing : (k : ℕ) (stands : List Stand) → AllByRecursion (λ (y : ℕ). nat_cmp k y ≡ Less) (places_of stands) → AllByRecursion (λ (y : ℕ). nat_cmp k y ≡ Less) (keys_of (standing stands))
above_standing k [] all = tt
above_standing k (s ∷ stands) all = by s.row refl (above_standing k stands all.1)
  where
    by : (o : Option (List Value)) → s.row ≡ o → AllByRecursion (λ (y : ℕ). nat_cmp k y ≡ Less) (keys_of (standing stands)) → AllByRecursion (λ (y : ℕ). nat_cmp k y ≡ Less) (keys_of (standing (s ∷ stands)))
    by None is rest = rw (empty_first s stands is) rest
    by (Some row) is rest = rw (stands_first s stands row is) (all.0, rest)

-- The places of the rows that stand rise.
standing_rises : (stands : List Stand) → IsStrictlySortedBy nat_cmp (places_of stands) → IsStrictlySortedBy nat_cmp (keys_of (standing stands))
unfolding IsStrictlySortedBy
standing_rises [] up = tt
standing_rises (s ∷ stands) up = by s.row refl (standing_rises stands up.1)
  where
    by : (o : Option (List Value)) → s.row ≡ o → IsStrictlySortedBy nat_cmp (keys_of (standing stands)) → IsStrictlySortedBy nat_cmp (keys_of (standing (s ∷ stands)))
    by None is rest = rw (empty_first s stands is) rest
    by (Some row) is rest = rw (stands_first s stands row is) (above_standing s.place stands up.0, rest)

-- At a place of no stand no row stands.
none_at : (p : ℕ) (stands : List Stand) → AllByRecursion (λ (y : ℕ). is_eq (nat_cmp p y) ≡ false) (places_of stands) → row_at (standing stands) p ≡ None
none_at p [] all = refl
none_at p (s ∷ stands) all = by s.row refl (none_at p stands all.1)
  where
    by : (o : Option (List Value)) → s.row ≡ o → row_at (standing stands) p ≡ None → row_at (standing (s ∷ stands)) p ≡ None
    by None is rest = rw (empty_first s stands is) rest
    by (Some row) is rest = rw (stands_first s stands row is) (row_later (s.place, row) (standing stands) p all.0 ∙ rest)

apart_below : (p : ℕ) (ns : List ℕ) → AllByRecursion (λ (y : ℕ). nat_cmp p y ≡ Less) ns → AllByRecursion (λ (y : ℕ). is_eq (nat_cmp p y) ≡ false) ns
apart_below p [] all = tt
apart_below p (n ∷ ns) all = (ap is_eq all.0, apart_below p ns all.1)

apart_above : (m p : ℕ) (ns : List ℕ) → m ≤ p → AllByRecursion (λ (y : ℕ). nat_cmp y m ≡ Less) ns → AllByRecursion (λ (y : ℕ). is_eq (nat_cmp p y) ≡ false) ns
apart_above m p [] high all = tt
apart_above m p (n ∷ ns) high all = (not_there n all.0, apart_above m p ns high all.1)
  where
    not_there : (n : ℕ) → nat_cmp n m ≡ Less → is_eq (nat_cmp p n) ≡ false
    not_there n low = grind arith

-- From the next place on no row stands.
pub free_above : (stands : List Stand) (next p : ℕ) → IsRising stands next → next ≤ p → row_at (standing stands) p ≡ None
free_above stands next p up high = none_at p stands (apart_above next p (places_of stands) high (below_last (places_of stands) next up))

-- The places of stands rise, and so do those of the rows that stand.
pub places_rise : (stands : List Stand) (next : ℕ) → IsRising stands next → IsStrictlySortedBy nat_cmp (places_of stands)
places_rise stands next up = sorted_front (places_of stands) (next ∷ []) up

pub rows_rise : (stands : List Stand) (next : ℕ) → IsRising stands next → IsStrictlySortedBy nat_cmp (keys_of (standing stands))
rows_rise stands next up = standing_rises stands (places_rise stands next up)

-- ---- a row behind the others

pub rises_more : (stands : List Stand) (next : ℕ) (row : Option (List Value)) → IsRising stands next → IsRising (stands ++ record { place = next; row = row } ∷ []) (next + 1)
rises_more stands next row up =
    subst (λ (ns : List ℕ). IsStrictlySortedBy nat_cmp (ns ++ (next + 1) ∷ []))
    (sym (map-append (λ (s : Stand). s.place) stands (record { place = next; row = row } ∷ [])))
    (sorted_more (places_of stands) next (next + 1) (grind arith) up)

pub stands_more : (stands : List Stand) (next : ℕ) (row : List Value) → standing (stands ++ record { place = next; row = Some row } ∷ []) ≡ standing stands ++ (next, row) ∷ []
stands_more stands next row = filter_map-append entry_of stands (record { place = next; row = Some row } ∷ [])

reversed : (o : Ordering) → is_eq (ordering_reverse o) ≡ is_eq o
reversed Less = refl
reversed Equal = refl
reversed Greater = refl

turned : (n p : ℕ) → is_eq (nat_cmp p n) ≡ is_eq (nat_cmp n p)
turned n p = ap is_eq (nat_cmp_total.antisymm p n) ∙ reversed (nat_cmp n p)

row_passed : (es : List (ℕ × List Value)) (n : ℕ) (row : List Value) (p : ℕ) → row_at es p ≡ None → is_eq (nat_cmp n p) ≡ true → row_at (es ++ (n, row) ∷ []) p ≡ Some row
row_passed [] n row p none is = row_first (n, row) [] p (turned n p ∙ is)
row_passed (e ∷ es) n row p none is = here (is_eq (nat_cmp p e.0)) refl (λ (more : row_at es p ≡ None). row_passed es n row p more is)
  where
    here : (b : Bool) → is_eq (nat_cmp p e.0) ≡ b → (row_at es p ≡ None → row_at (es ++ (n, row) ∷ []) p ≡ Some row) → row_at ((e ∷ es) ++ (n, row) ∷ []) p ≡ Some row
    here true at rest = let stands_here : row_at (e ∷ es) p ≡ Some e.1 = row_first e es p at in let never : ⊥ = cc in absurd never
    here false at rest = row_later e (es ++ (n, row) ∷ []) p at ∙ rest (sym (row_later e es p at) ∙ none)

row_kept : (es : List (ℕ × List Value)) (n : ℕ) (row : List Value) (p : ℕ) → is_eq (nat_cmp n p) ≡ false → row_at (es ++ (n, row) ∷ []) p ≡ row_at es p
row_kept [] n row p is = row_later (n, row) [] p (turned n p ∙ is)
row_kept (e ∷ es) n row p is = here (is_eq (nat_cmp p e.0)) refl (row_kept es n row p is)
  where
    here : (b : Bool) → is_eq (nat_cmp p e.0) ≡ b → row_at (es ++ (n, row) ∷ []) p ≡ row_at es p → row_at ((e ∷ es) ++ (n, row) ∷ []) p ≡ row_at (e ∷ es) p
    here true at rest = row_first e (es ++ (n, row) ∷ []) p at ∙ sym (row_first e es p at)
    here false at rest = row_later e (es ++ (n, row) ∷ []) p at ∙ rest ∙ sym (row_later e es p at)

row_more : (es : List (ℕ × List Value)) (n : ℕ) (row : List Value) (p : ℕ) → (is_eq (nat_cmp n p) ≡ true → row_at es p ≡ None) → row_at (es ++ (n, row) ∷ []) p ≡ cond (is_eq (nat_cmp n p)) (Some row) (row_at es p)
row_more es n row p free = by (is_eq (nat_cmp n p)) refl
  where
    by : (b : Bool) → is_eq (nat_cmp n p) ≡ b → row_at (es ++ (n, row) ∷ []) p ≡ cond (is_eq (nat_cmp n p)) (Some row) (row_at es p)
    by true is = rw is (row_passed es n row p (free is) is)
    by false is = rw is (row_kept es n row p is)

-- What stands at a place once a row was put behind the others.
pub pushed_at : (stands : List Stand) (next : ℕ) (row : List Value) (p : ℕ) → IsRising stands next → row_at (standing (stands ++ record { place = next; row = Some row } ∷ [])) p ≡ cond (is_eq (nat_cmp next p)) (Some row) (row_at (standing stands) p)
pushed_at stands next row p up =
    ap (λ (es : List (ℕ × List Value)). row_at es p) (stands_more stands next row)
    ∙ row_more (standing stands) next row p (λ h. free_above stands next p up (at_least h))
  where
    at_least : is_eq (nat_cmp next p) ≡ true → next ≤ p
    at_least h = grind arith

-- ---- at the stand of a place

all_at : (k : ℕ) (stands : List Stand) (i : ℕ) (d : Stand) → i < length stands → AllByRecursion (λ (y : ℕ). nat_cmp k y ≡ Less) (places_of stands) → nat_cmp k (get_or stands i d).place ≡ Less
all_at k [] i d low all = absurd (omega (arith, low))
all_at k (t ∷ stands) zero d low all = all.0
all_at k (t ∷ stands) (suc i) d low all = all_at k stands i d (omega (arith, low)) all.1

-- What stands at a place is the row of its stand.
pub stood : (stands : List Stand) (i p : ℕ) (d : Stand) → IsStrictlySortedBy nat_cmp (places_of stands) → i < length stands → (get_or stands i d).place ≡ p → row_at (standing stands) p ≡ (get_or stands i d).row
stood [] i p d up low at = absurd (omega (arith, low))
stood (s ∷ stands) zero p d up low at = by s.row refl
  where
    here : is_eq (nat_cmp p s.place) ≡ true
    here = ap (λ (q : ℕ). is_eq (nat_cmp p q)) at ∙ ap is_eq (tied_itself nat_cmp_total p)

    none : row_at (standing stands) p ≡ None
    none = none_at p stands (apart_below p (places_of stands) (subst (λ (q : ℕ). AllByRecursion (λ (y : ℕ). nat_cmp q y ≡ Less) (places_of stands)) at (sorted_head nat_cmp s.place (places_of stands) up)))

    by : (o : Option (List Value)) → s.row ≡ o → row_at (standing (s ∷ stands)) p ≡ s.row
    by None is = rw (empty_first s stands is) (none ∙ sym is)
    by (Some row) is = rw (stands_first s stands row is) (row_first (s.place, row) (standing stands) p here ∙ sym is)
stood (s ∷ stands) (suc i) p d up low at =
    by s.row refl (stood stands i p d (sorted_tail nat_cmp s.place (places_of stands) up) (omega (arith, low)) at)
  where
    before : nat_cmp s.place p ≡ Less
    before = subst (λ (q : ℕ). nat_cmp s.place q ≡ Less) at (all_at s.place stands i d (omega (arith, low)) (sorted_head nat_cmp s.place (places_of stands) up))

    apart : is_eq (nat_cmp p s.place) ≡ false
    apart = ap is_eq (nat_cmp_total.antisymm p s.place ∙ ap ordering_reverse before)

    by : (o : Option (List Value)) → s.row ≡ o → row_at (standing stands) p ≡ (get_or stands i d).row → row_at (standing (s ∷ stands)) p ≡ (get_or stands i d).row
    by None is rest = rw (empty_first s stands is) rest
    by (Some row) is rest = rw (stands_first s stands row is) (row_later (s.place, row) (standing stands) p apart ∙ rest)

-- The places stay where a stand is put in the place of one of the same.
places_kept : (stands : List Stand) (i : ℕ) (new d : Stand) → (get_or stands i d).place ≡ new.place → places_of (set stands i new) ≡ places_of stands
places_kept [] i new d at = refl
places_kept (s ∷ stands) zero new d at = ap (λ (q : ℕ). q ∷ places_of stands) (sym at)
places_kept (s ∷ stands) (suc i) new d at = ap (λ (ns : List ℕ). s.place ∷ ns) (places_kept stands i new d at)

pub rises_set : (stands : List Stand) (i next : ℕ) (new d : Stand) → (get_or stands i d).place ≡ new.place → IsRising stands next → IsRising (set stands i new) next
rises_set stands i next new d at up = subst (λ (ns : List ℕ). IsStrictlySortedBy nat_cmp (ns ++ next ∷ [])) (sym (places_kept stands i new d at)) up

one_elsewhere : (s : Stand) (stands : List Stand) (q : ℕ) → is_eq (nat_cmp q s.place) ≡ false → row_at (standing (s ∷ stands)) q ≡ row_at (standing stands) q
one_elsewhere s stands q off = by s.row refl
  where
    by : (o : Option (List Value)) → s.row ≡ o → row_at (standing (s ∷ stands)) q ≡ row_at (standing stands) q
    by None is = ap (λ (es : List (ℕ × List Value)). row_at es q) (empty_first s stands is)
    by (Some row) is = ap (λ (es : List (ℕ × List Value)). row_at es q) (stands_first s stands row is) ∙ row_later (s.place, row) (standing stands) q off

one_more : (s : Stand) (stands others : List Stand) (q : ℕ) → row_at (standing stands) q ≡ row_at (standing others) q → row_at (standing (s ∷ stands)) q ≡ row_at (standing (s ∷ others)) q
one_more s stands others q rest = by s.row refl
  where
    by : (o : Option (List Value)) → s.row ≡ o → row_at (standing (s ∷ stands)) q ≡ row_at (standing (s ∷ others)) q
    by None is = rw (empty_first s stands is, empty_first s others is) rest
    by (Some row) is = rw (stands_first s stands row is, stands_first s others row is) (here (is_eq (nat_cmp q s.place)) refl)
      where
        here : (b : Bool) → is_eq (nat_cmp q s.place) ≡ b → row_at ((s.place, row) ∷ standing stands) q ≡ row_at ((s.place, row) ∷ standing others) q
        here true on = row_first (s.place, row) (standing stands) q on ∙ sym (row_first (s.place, row) (standing others) q on)
        here false off = row_later (s.place, row) (standing stands) q off ∙ rest ∙ sym (row_later (s.place, row) (standing others) q off)

elsewhere : (stands : List Stand) (i p q : ℕ) (new d : Stand) → (get_or stands i d).place ≡ p → new.place ≡ p → is_eq (nat_cmp q p) ≡ false → row_at (standing (set stands i new)) q ≡ row_at (standing stands) q
elsewhere [] i p q new d at same apart = refl
elsewhere (s ∷ stands) zero p q new d at same apart =
    one_elsewhere new stands q (ap (λ (n : ℕ). is_eq (nat_cmp q n)) same ∙ apart) ∙ sym (one_elsewhere s stands q (ap (λ (n : ℕ). is_eq (nat_cmp q n)) at ∙ apart))
elsewhere (s ∷ stands) (suc i) p q new d at same apart = one_more s (set stands i new) stands q (elsewhere stands i p q new d at same apart)

set_there : (stands : List Stand) (i : ℕ) (s d : Stand) → i < length stands → get_or (set stands i s) i d ≡ s
set_there [] i s d low = absurd (omega (arith, low))
set_there (t ∷ stands) zero s d low = refl
set_there (t ∷ stands) (suc i) s d low = set_there stands i s d (omega (arith, low))

as_long : (stands : List Stand) (i : ℕ) (s : Stand) → length (set stands i s) ≡ length stands
as_long [] i s = refl
as_long (t ∷ stands) zero s = refl
as_long (t ∷ stands) (suc i) s = ap suc (as_long stands i s)

same_place : (p q : ℕ) → (p == q) ≡ true → p ≡ q
same_place p q h = grind arith

other_place : (p q : ℕ) → (p == q) ≡ false → is_eq (nat_cmp q p) ≡ false
other_place p q h = grind arith

-- What stands at a place once another row, or none, was put where one stood.
pub put_at : (stands : List Stand) (i p q : ℕ) (new : Stand) (row : Option (List Value)) (d : Stand) → IsStrictlySortedBy nat_cmp (places_of stands) → i < length stands → (get_or stands i d).place ≡ p → new.place ≡ p → new.row ≡ merged (get_or stands i d).row row
    → row_at (standing (set stands i new)) q ≡ (if p == q then merged (row_at (standing stands) q) row else row_at (standing stands) q)
put_at stands i p q new row d up low at same is = by (p == q) refl
  where
    now : row_at (standing (set stands i new)) p ≡ new.row
    now =
        stood (set stands i new) i p d
        (subst (IsStrictlySortedBy nat_cmp) (sym (places_kept stands i new d (at ∙ sym same))) up)
        (omega (arith, low, as_long stands i new))
        (ap (λ (s : Stand). s.place) (set_there stands i new d low) ∙ same)
        ∙ ap (λ (s : Stand). s.row) (set_there stands i new d low)

    was : merged (row_at (standing stands) p) row ≡ new.row
    was = ap (λ (o : Option (List Value)). merged o row) (stood stands i p d up low at) ∙ sym is

    by : (b : Bool) → (p == q) ≡ b → row_at (standing (set stands i new)) q ≡ (if p == q then merged (row_at (standing stands) q) row else row_at (standing stands) q)
    by true h =
        rw h (subst (λ (n : ℕ). row_at (standing (set stands i new)) n ≡ merged (row_at (standing stands) n) row) (same_place p q h) (now ∙ sym was))
    by false h = rw h (elsewhere stands i p q new d at same (other_place p q h))

changed_where : (f : List Value → List Value) (o : Option (List Value)) → merged o (option_map f o) ≡ option_map f o
changed_where f None = refl
changed_where f (Some row) = refl

-- What stands at a place once the row there was changed, if one stood.
pub set_at : (stands : List Stand) (i p q : ℕ) (new : Stand) (f : List Value → List Value) (d : Stand) → IsStrictlySortedBy nat_cmp (places_of stands) → i < length stands → (get_or stands i d).place ≡ p → new.place ≡ p → new.row ≡ option_map f (get_or stands i d).row
    → row_at (standing (set stands i new)) q ≡ (if p == q then option_map f (row_at (standing stands) q) else row_at (standing stands) q)
set_at stands i p q new f d up low at same is =
    let o : Option (List Value) = (get_or stands i d).row in
    put_at stands i p q new (option_map f o) d up low at same (is ∙ sym (changed_where f o)) ∙ by (p == q) refl
  where
    by : (b : Bool) → (p == q) ≡ b
        → (if p == q then merged (row_at (standing stands) q) (option_map f (get_or stands i d).row) else row_at (standing stands) q) ≡ (if p == q then option_map f (row_at (standing stands) q) else row_at (standing stands) q)
    by true h =
        let here : row_at (standing stands) q ≡ (get_or stands i d).row = ap (row_at (standing stands)) (sym (same_place p q h)) ∙ stood stands i p d up low at in
        rw h (ap (λ (o : Option (List Value)). merged (row_at (standing stands) q) (option_map f o)) (sym here) ∙ changed_where f (row_at (standing stands) q))
    by false h = rw h refl

-- At a place of no stand nothing is changed.
pub set_nobody : (at : ℕ → Option (List Value)) (p q : ℕ) (f : List Value → List Value) → at p ≡ None → at q ≡ (if p == q then option_map f (at q) else at q)
set_nobody at p q f none = by (p == q) refl
  where
    by : (b : Bool) → (p == q) ≡ b → at q ≡ (if p == q then option_map f (at q) else at q)
    by true h =
        let here : at q ≡ None = ap at (sym (same_place p q h)) ∙ none in
        rw h (here ∙ sym (ap (λ (o : Option (List Value)). option_map f o) here))
    by false h = rw h refl

-- ---- empty stands

-- The rows that stand are those of the stands that have one.
pub full_stand : (stands : List Stand) → standing (filter (λ (s : Stand). is_some s.row) stands) ≡ standing stands
full_stand [] = refl
full_stand (s ∷ stands) = by s.row refl (full_stand stands)
  where
    by : (o : Option (List Value)) → s.row ≡ o → standing (filter (λ (s : Stand). is_some s.row) stands) ≡ standing stands → standing (filter (λ (s : Stand). is_some s.row) (s ∷ stands)) ≡ standing (s ∷ stands)
    by None is rest =
        let kept : filter (λ (s : Stand). is_some s.row) (s ∷ stands) ≡ filter (λ (s : Stand). is_some s.row) stands = rw is refl in
        ap standing kept ∙ rest ∙ sym (empty_first s stands is)
    by (Some row) is rest =
        let kept : filter (λ (s : Stand). is_some s.row) (s ∷ stands) ≡ s ∷ filter (λ (s : Stand). is_some s.row) stands = rw is refl in
        ap standing kept ∙ ap (cons_option (entry_of s)) rest

all_filtered : (P : ℕ → Type 0) (test : Stand → Bool) (stands : List Stand) (next : ℕ) → AllByRecursion P (places_of stands ++ next ∷ []) → AllByRecursion P (places_of (filter test stands) ++ next ∷ [])
all_filtered P test [] next all = all
all_filtered P test (s ∷ stands) next all = by (test s) refl (all_filtered P test stands next all.1)
  where
    by : (b : Bool) → test s ≡ b → AllByRecursion P (places_of (filter test stands) ++ next ∷ []) → AllByRecursion P (places_of (filter test (s ∷ stands)) ++ next ∷ [])
    by true is rest = rw is (all.0, rest)
    by false is rest = rw is rest

-- The places of some of the stands rise.
pub rises_filtered : (test : Stand → Bool) (stands : List Stand) (next : ℕ) → IsRising stands next → IsRising (filter test stands) next
unfolding IsStrictlySortedBy
rises_filtered test [] next up = up
rises_filtered test (s ∷ stands) next up = by (test s) refl (rises_filtered test stands next up.1)
  where
    by : (b : Bool) → test s ≡ b → IsRising (filter test stands) next → IsRising (filter test (s ∷ stands)) next
    by true is rest = rw is (all_filtered (λ (y : ℕ). nat_cmp s.place y ≡ Less) test stands next up.0, rest)
    by false is rest = rw is rest

-- ---- a search for a place

-- Later stands have later places.
later_places : (stands : List Stand) (i j : ℕ) (d : Stand) → IsStrictlySortedBy nat_cmp (places_of stands) → i < j → j < length stands → nat_cmp (get_or stands i d).place (get_or stands j d).place ≡ Less
later_places [] i j d up order low = absurd (omega (arith, low))
later_places (s ∷ stands) i zero d up order low = absurd (omega (arith, order))
later_places (s ∷ stands) zero (suc j) d up order low = all_at s.place stands j d (omega (arith, low)) (sorted_head nat_cmp s.place (places_of stands) up)
later_places (s ∷ stands) (suc i) (suc j) d up order low = later_places stands i j d (sorted_tail nat_cmp s.place (places_of stands) up) (omega (arith, order)) (omega (arith, low))

answers_rise : (stands : List Stand) (p : ℕ) → IsStrictlySortedBy nat_cmp (places_of stands) → IsNonDecreasingBy (λ (s : Stand). ordering_index (nat_cmp s.place p)) stands
answers_rise stands p up i j d le low =
    let rise : (get_or stands i d).place ≤ (get_or stands j d).place = by (nat_lt i j) refl in
    grind (arith, nat_tests)
  where
    by : (b : Bool) → nat_lt i j ≡ b → (get_or stands i d).place ≤ (get_or stands j d).place
    by true is =
        let less : i < j = grind arith in
        let order : nat_cmp (get_or stands i d).place (get_or stands j d).place ≡ Less = later_places stands i j d up less low in
        grind arith
    by false is =
        let same : i ≡ j = (let high : j ≤ i = grind arith in omega (arith, le, high)) in
        subst (λ (k : ℕ). (get_or stands i d).place ≤ (get_or stands k d).place) same (grind arith)

apart_by : (p : ℕ) (stands : List Stand) → ((j : ℕ) (d : Stand) → j < length stands → is_eq (nat_cmp p (get_or stands j d).place) ≡ false) → AllByRecursion (λ (y : ℕ). is_eq (nat_cmp p y) ≡ false) (places_of stands)
apart_by p [] off = tt
apart_by p (s ∷ stands) off = (off 0 s (omega arith), apart_by p stands (λ (j : ℕ) d low. off (suc j) d (omega (arith, low))))

-- A binary search ends at the stand of the place, or no row stands there.
pub sought : (stands : List Stand) (p : ℕ) → IsStrictlySortedBy nat_cmp (places_of stands) → (r : Result ℕ ℕ) → IsSearchInRange r (length stands) → IsBinarySearchResult (λ (s : Stand). nat_cmp s.place p) stands r
    → IfSome (result_ok r) (λ (i : ℕ). (i < length stands) × HoldsAt (λ (s : Stand). s.place ≡ p) stands i) × IfNone (result_ok r) (row_at (standing stands) p ≡ None)
sought stands p up (Ok i) bound equal = ((bound, λ d. exact_unsigned (get_or stands i d).place p (equal d)), tt)
sought stands p up (Err i) bound parted = (tt, none_at p stands (apart_by p stands off))
  where
    off : (j : ℕ) (d : Stand) → j < length stands → is_eq (nat_cmp p (get_or stands j d).place) ≡ false
    off j d low = by (nat_lt j i) refl
      where
        by : (b : Bool) → nat_lt j i ≡ b → is_eq (nat_cmp p (get_or stands j d).place) ≡ false
        by true is =
            let below : nat_cmp (get_or stands j d).place p ≡ Less = (parted (answers_rise stands p up)).0 j d (omega arith) (grind arith) in
            ap is_eq (nat_cmp_total.antisymm p (get_or stands j d).place ∙ ap ordering_reverse below)
        by false is =
            let above : nat_cmp (get_or stands j d).place p ≡ Greater = (parted (answers_rise stands p up)).1 j d (grind arith) low in
            ap is_eq (nat_cmp_total.antisymm p (get_or stands j d).place ∙ ap ordering_reverse above)
