-- What the proofs on small runs share: a site with one proxy and one service, and three numbers.
use Rattle.std.proofs.Common.{◌≡◌, ℕ, zero, suc, ◌<◌, Bool, true, false, List, [], ◌∷◌, ◌++◌, ◌==◌, ◌||◌, refl, sym, arith, filter, filter_map, ne_eqb}
use Rattle.std.specs.List.{list_any}
use Rattle.okws_base.specs.Past.{events_of}
use Rattle.okws_base.specs.declared.journal.Entry.{Entry}
use Rattle.okws_plan.specs.declared.event.ProxyEvent.{ProxyEvent}
use Rattle.monitor_model.specs.declared.record.CellEvent.{CellEvent}
use Rattle.monitor_model.specs.declared.record.Own.{Own}
use Rattle.monitor_model.specs.Merged.{proxy_item, is_at_cell, cell_items}
use Rattle.monitor_model.specs.Seen.{proxy_past}
use Rattle.std.specs.Prelude.{slice_index_or}

-- a number behind 0 isn't 0
pub not_zero : (n : ℕ) → (0 == suc n) ≡ false
not_zero n = ne_eqb 0 (suc n) (λ (is : 0 ≡ suc n). omega (arith, is))

-- what holds of numbers 0, 1 and 2 holds of each below 3
pub below_three : (P : ℕ → Type 0) → P 0 → P 1 → P 2 → (w : ℕ) → w < 3 → P w
below_three P a b c zero below = a
below_three P a b c (suc zero) below = b
below_three P a b c (suc (suc zero)) below = c
below_three P a b c (suc (suc (suc w))) below = let never : ⊥ = omega (arith, below) in absurd never

-- the one proxy's entries are items, and there are no items of others
pub one_proxy : (J : List (Entry ProxyEvent)) (w : ℕ) (items : List Own) → events_of w J ≡ filter_map (proxy_item 0) items → ((p : ℕ) → filter_map (proxy_item (suc p)) items ≡ [])
    → (p : ℕ) → events_of w (proxy_past (J ∷ []) p) ≡ filter_map (proxy_item p) items
one_proxy J w items here others zero = here
one_proxy J w items here others (suc p) = sym (others p)

-- the one cell's events are items, and there are no items at others
pub one_cell : (J : List CellEvent) (launcher w : ℕ) (items : List Own) → cell_items launcher w 0 J ≡ filter (is_at_cell 0) items → ((s : ℕ) → filter (is_at_cell (suc s)) items ≡ [])
    → (s : ℕ) → cell_items launcher w s (slice_index_or (J ∷ []) s []) ≡ filter (is_at_cell s) items
one_cell J launcher w items here others zero = here
one_cell J launcher w items here others (suc s) = sym (others s)

-- what is among the last items is among all
pub any_after : {A : Type 0} (test : A → Bool) (xs ys : List A) → list_any test ys ≡ true → list_any test (xs ++ ys) ≡ true
any_after test [] ys is = is
any_after test (x ∷ xs) ys is = by (test x) (any_after test xs ys is)
  where
    by : (b : Bool) → list_any test (xs ++ ys) ≡ true → (b || list_any test (xs ++ ys)) ≡ true
    by true more = refl
    by false more = more
