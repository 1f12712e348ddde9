-- What the end of a run adds to the launcher's list.
use Rattle.std.proofs.Common.{◌≡◌, ◌≢◌, ◌∙◌, ⊎_elim, ℕ, zero, suc, ◌+◌, ◌<◌, ◌≤◌, Bool, true, false, List, [], ◌∷◌, ◌++◌, length, refl, sym, ap, subst, arith, eq-eqb, ne_eqb}
use Rattle.std.specs.Prelude.{◌==◌, if◌then◌else◌, count_by, IsTrue}
use Rattle.std.specs.List.{list_all}
use Rattle.std.proofs.lemmas.Bool.{cases_eq, and_parts, eqb-true, true≢false, false≢true}
use Rattle.monitor_model.specs.declared.record.CellEvent.{CellEvent}
use Rattle.monitor_model.specs.declared.record.Own.{Own}
use Rattle.monitor_model.specs.declared.record.Own.TheVariants as own
use Rattle.monitor_model.specs.Cell.{incarnation}
use Rattle.monitor_model.specs.Launches.{found_at, is_launch_at, is_retired, retires, retired_due, until_launch, with_retired}
use Rattle.monitor_model.specs.Merged.{cell_past}
use Rattle.monitor_model.specs.Placed.{EachFrom}
use Rattle.launch_crew.specs.Listed.{of_cells, EndsPieces}
use Rattle.launch_crew.proofs.Found.{counted_append, counted_not, counted_one}

-- of the cells of services below i those that had an incarnation were retired
pub record EndsBelow (i : ℕ) (cells : List (List CellEvent)) (old now : List Own) : Type 0 where
  pub ending : List Own
  pub own_is : now ≡ ending ++ old
  pub retireds : IsTrue (list_all is_retired ending)
  pub done : (s : ℕ) → s < i → count_by (retires s) ending ≡ retired_due (found_at (of_cells cells) s old)
  pub rest : (s : ℕ) → i ≤ s → count_by (retires s) ending ≡ 0

pub below_none : (s : ℕ) → s < 0 → ⊥
below_none s less = omega (arith, less)

pub ends_none : (cells : List (List CellEvent)) (old : List Own) → EndsBelow 0 cells old old
ends_none cells old = record { ending = []; own_is = refl; retireds = refl; done = λ s less. absurd (below_none s less); rest = λ s more. refl }

same_one : (s : ℕ) (item : Own) → is_retired item ≡ true → is_launch_at s item ≡ retires s item
same_one s (own.Okd e) h = absurd (false≢true h)
same_one s (own.Proxy p e) h = absurd (false≢true h)
same_one s (own.Pubd e) h = absurd (false≢true h)
same_one s (own.Oklogd e) h = absurd (false≢true h)
same_one s (own.Launcher e) h = absurd (false≢true h)
same_one s (own.Dialog t) h = absurd (false≢true h)
same_one s (own.Missed t wanted is) h = absurd (false≢true h)
same_one s own.NoMemory h = absurd (false≢true h)
same_one s (own.Boot t k) h = absurd (false≢true h)
same_one s (own.Retired t) h = refl

module _ {X : Type 0} (p q : X → Bool) where
  alike_by : (x : X) (xs : List X) (b : Bool) → q x ≡ b → p x ≡ q x → count_by p xs ≡ count_by q xs → count_by p (x ∷ xs) ≡ count_by q (x ∷ xs)
  alike_by x xs true is same before = counted_one p x xs (same ∙ is) ∙ (ap (λ n. 1 + n) before ∙ sym (counted_one q x xs is))
  alike_by x xs false is same before = counted_not p x xs (same ∙ is) ∙ (before ∙ sym (counted_not q x xs is))

pub all_retired : (s : ℕ) (items : List Own) → list_all is_retired items ≡ true → count_by (is_launch_at s) items ≡ count_by (retires s) items
all_retired s [] h = refl
all_retired s (item ∷ items) h =
    let parts = and_parts (is_retired item) (list_all is_retired items) h in
    alike_by (is_launch_at s) (retires s) item items (retires s item) refl (same_one s item parts.0) (all_retired s items parts.1)

due_some : (k : ℕ) → (k == 0) ≡ false → retired_due k ≡ 1
due_some zero h = absurd (true≢false h)
due_some (suc k) h = refl

below_or : (s i : ℕ) → s < i + 1 → s ≢ i → s < i
below_or s i less apart = omega (arith, less, apart)

at_or_above : (s i : ℕ) → i + 1 ≤ s → i ≤ s
at_or_above s i more = omega (arith, more)

not_that : (s i : ℕ) → i + 1 ≤ s → i ≡ s → ⊥
not_that s i more is = omega (arith, more, is)

same_least : (i : ℕ) → i ≤ i
same_least i = omega arith

nothing : (a b : ℕ) → a ≡ 0 → a + b ≡ b
nothing a b is = omega (arith, is)

module _ (i : ℕ) (cells now : List (List CellEvent)) (old before after : List Own) (others : (s : ℕ) → s ≢ i → cell_past (of_cells now) s ≡ cell_past (of_cells cells) s) (is : after ≡ with_retired (of_cells now) i before) (h : EndsBelow i cells old before) where
  same_found : (s : ℕ) → s ≢ i → found_at (of_cells now) s old ≡ found_at (of_cells cells) s old
  same_found s apart = ap (λ (J : List CellEvent). incarnation (until_launch (count_by (is_launch_at s) old) J)) (others s apart)

  here_found : found_at (of_cells now) i before ≡ found_at (of_cells now) i old
  here_found =
      let none : count_by (is_launch_at i) h.ending ≡ 0 = all_retired i h.ending h.retireds ∙ h.rest i (same_least i) in
      let count : count_by (is_launch_at i) before ≡ count_by (is_launch_at i) old =
      ap (count_by (is_launch_at i)) h.own_is ∙ (counted_append (is_launch_at i) h.ending old ∙ nothing (count_by (is_launch_at i) h.ending) (count_by (is_launch_at i) old) none) in
      ap (λ n. incarnation (until_launch n (cell_past (of_cells now) i))) count

  ends_by : (b : Bool) → (found_at (of_cells now) i old == 0) ≡ b → EndsBelow (i + 1) now old after
  ends_by true none =
      let zero_is = eqb-true (found_at (of_cells now) i old) 0 none in
      record {
        ending = h.ending;
        own_is = is ∙ (ap (λ b. if b then before else own.Retired i ∷ before) (eq-eqb (found_at (of_cells now) i before) 0 (here_found ∙ zero_is)) ∙ h.own_is);
        retireds = h.retireds;
        done = λ s less. ⊎_elim
            (λ (at : s ≡ i). subst (λ m. count_by (retires m) h.ending ≡ retired_due (found_at (of_cells now) m old)) (sym at) (h.rest i (same_least i) ∙ sym (ap retired_due zero_is)))
            (λ (apart : s ≢ i). h.done s (below_or s i less apart) ∙ sym (ap retired_due (same_found s apart)))
            (cases_eq s i);
        rest = λ s more. h.rest s (at_or_above s i more);
      }
  ends_by false some = record {
    ending = own.Retired i ∷ h.ending;
    own_is = is ∙ (ap (λ k. if k == 0 then before else own.Retired i ∷ before) here_found ∙ (ap (λ b. if b then before else own.Retired i ∷ before) some ∙ ap (λ (xs : List Own). own.Retired i ∷ xs) h.own_is));
    retireds = h.retireds;
    done = λ s less. ⊎_elim
        (λ (at : s ≡ i). subst (λ m. count_by (retires m) (own.Retired i ∷ h.ending) ≡ retired_due (found_at (of_cells now) m old)) (sym at)
        (counted_one (retires i) (own.Retired i) h.ending (eq-eqb i i refl) ∙ (ap (λ n. 1 + n) (h.rest i (same_least i)) ∙ sym (due_some (found_at (of_cells now) i old) some))))
        (λ (apart : s ≢ i). counted_not (retires s) (own.Retired i) h.ending (ne_eqb i s (λ e. apart (sym e))) ∙ (h.done s (below_or s i less apart) ∙ sym (ap retired_due (same_found s apart))))
        (cases_eq s i);
    rest = λ s more. counted_not (retires s) (own.Retired i) h.ending (ne_eqb i s (not_that s i more)) ∙ h.rest s (at_or_above s i more);
  }

  pub ends_next : EndsBelow (i + 1) now old after
  ends_next = ends_by (found_at (of_cells now) i old == 0) refl

-- ---- all of them

next_least : (n s : ℕ) → suc n ≤ s → n ≤ s
next_least n s least = omega (arith, least)

next_less : (n m s : ℕ) → s < suc n + m → s < n + suc m
next_less n m s less = omega (arith, less)

first_less : (n m : ℕ) → n < n + suc m
first_less n m = omega arith

pub each_from : {A : Type 0} (Q : ℕ → Type 0) (n : ℕ) (xs : List A) → ((s : ℕ) → n ≤ s → s < n + length xs → Q s) → EachFrom (λ s x. Q s) n xs
each_from Q n [] h = tt
each_from Q n (x ∷ xs) h = (h n (same_least n) (first_less n (length xs)), each_from Q (suc n) xs (λ s least less. h s (next_least n s least) (next_less n (length xs) s less)))

in_all : (s m i : ℕ) → s < 0 + m → m ≤ i → s < i
in_all s m i less least = omega (arith, less, least)

pub ends_all : (i : ℕ) (cells : List (List CellEvent)) (old now : List Own) → length cells ≤ i → EndsBelow i cells old now → EndsPieces cells old now
ends_all i cells old now least h = record {
  ending = h.ending;
  own_is = h.own_is;
  ends = record {
    retireds = h.retireds;
    each = each_from (λ s. count_by (retires s) h.ending ≡ retired_due (found_at (of_cells cells) s old)) 0 cells (λ s from less. h.done s (in_all s (length cells) i less least));
  };
}
