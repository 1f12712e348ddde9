-- What the launcher made of what it had seen of the cells is what it made by the record's cells.
use Rattle.std.proofs.Common.{◌≡◌, ◌≢◌, ◌∙◌, ⊎_elim, ℕ, zero, suc, ◌+◌, ◌<◌, ◌≤◌, Bool, true, false, List, [], ◌∷◌, ◌++◌, length, refl, sym, ap, subst, arith}
use Rattle.std.specs.Prelude.{◌||◌, None, count_by, filter, slice_index_or, IsTrue}
use Rattle.std.specs.List.{list_all, list_any}
use Rattle.std.proofs.lemmas.Bool.{and_parts, cases_eq, false≢true}
use Rattle.okws_base.specs.Turns.{Behind}
use Rattle.okws_outer.specs.Families.{Family}
use Rattle.okws_plan.specs.declared.configuration.Config.{Config}
use Rattle.monitor_model.specs.declared.record.CellEvent.{CellEvent}
use Rattle.monitor_model.specs.declared.record.Own.{Own}
use Rattle.monitor_model.specs.declared.record.Own.TheVariants as own
use Rattle.monitor_model.specs.declared.record.Record.{Record}
use Rattle.monitor_model.specs.declared.sent.Sent.{Sent}
use Rattle.monitor_model.specs.Cell.{CellLaw}
use Rattle.monitor_model.specs.Causes.{has_up}
use Rattle.monitor_model.specs.Launches.{IsEnding, all_pieces, attempts, found_at, is_launch_at, is_launch_event, is_retired, retires, retired_due}
use Rattle.monitor_model.specs.Merged.{cell_past, is_at_cell}
use Rattle.monitor_model.specs.Placed.{EachFrom}
use Rattle.site_cells.specs.Closing.{AllCellsGrow, CellsGrow}
use Rattle.site_cells.specs.Row.{CellsSeen, seen_at}
use Rattle.site_locks.specs.Sat.{Sat}
use Rattle.launch_crew.specs.Crews.{CrewIs, running_at}
use Rattle.launch_crew.specs.Listed.{EndsPieces, of_cells}
use Rattle.launch_crew.specs.Recorded.{AreOwn}
use Rattle.launch_crew.proofs.Ending.{all_retired, each_from}
use Rattle.launch_crew.proofs.Found.{Goes, Within, counted_append, found_none, found_same, launches_counted, pieces_stay}
use Rattle.okld_launch.specs.Heard.{ChildrenAreTold}
use Rattle.okld_launch.specs.Kin.{AreKin, is_boot}
use Rattle.okld_launch.specs.Pieces.{AreTold}
use Rattle.okld_launch.proofs.Boots.{BootsSame}
use Rattle.okld_launch.proofs.Heard.{boots_are, children_told}
use Rattle.site_run.proofs.Leaving.{cell_at, cells_pop}
use Rattle.site_run.specs.Journals.{AllCells}
use Rattle.site_run.specs.Pieced.{EndsWhole, LaunchesAreWhole}
use Rattle.site_run.specs.Tied.{LaunchesAreOwn}

-- what holds of a place holds there
each_at : {A : Type 0} (Q : ℕ → Type 0) (n : ℕ) (xs : List A) → EachFrom (λ s x. Q s) n xs → (m : ℕ) → m < length xs → Q (n + m)
each_at Q n [] h m less = absurd (none_less m less)
  where
    none_less : (m : ℕ) → m < 0 → ⊥
    none_less m less = omega (arith, less)
each_at Q n (x ∷ xs) h zero less = subst Q (same n) h.0
  where
    same : (n : ℕ) → n ≡ n + 0
    same n = omega arith
each_at Q n (x ∷ xs) h (suc m) less = subst Q (next n m) (each_at Q (suc n) xs h.1 m (before m (length xs) less))
  where
    next : (n m : ℕ) → suc n + m ≡ n + suc m
    next n m = omega arith

    before : (m k : ℕ) → suc m < suc k → m < k
    before m k less = omega (arith, less)

from_zero : (m : ℕ) → 0 + m ≡ m
from_zero m = omega arith

due_none : (k : ℕ) → k ≡ 0 → retired_due k ≡ 0
due_none k is = ap retired_due is

due_one : (k : ℕ) → k ≢ 0 → retired_due k ≡ 1
due_one zero apart = absurd (apart refl)
due_one (suc k) apart = refl

one_less : (a b c d : ℕ) → c ≡ b + a → b ≡ 1 → c ≤ d → a < d
one_less a b c d is one most = omega (arith, is, one, most)

-- how many Retireds are due to a cell by the record
module _ (R S : Record) (s : ℕ) (items ending : List Own) (goes : Behind (cell_past R s) (cell_past S s)) (within : count_by (is_launch_at s) (ending ++ items) ≤ count_by is_launch_event (cell_past R s)) (retireds : IsTrue (list_all is_retired ending)) where
  few : count_by (is_launch_at s) items ≤ count_by is_launch_event (cell_past R s)
  few = omega (arith, counted_append (is_launch_at s) ending items, within)

  due_stays : count_by (retires s) ending ≡ retired_due (found_at R s items) → count_by (retires s) ending ≡ retired_due (found_at S s items)
  due_stays is = ⊎_elim
      (λ (none : found_at R s items ≡ 0). is ∙ (due_none (found_at R s items) none ∙ sym (due_none (found_at S s items) (found_none R S s items goes few none))))
      (λ (some : found_at R s items ≢ 0).
      let one : count_by (is_launch_at s) ending ≡ 1 = all_retired s ending retireds ∙ (is ∙ due_one (found_at R s items) some) in
      let less = one_less (count_by (is_launch_at s) items) (count_by (is_launch_at s) ending) (count_by (is_launch_at s) (ending ++ items)) (count_by is_launch_event (cell_past R s)) (counted_append (is_launch_at s) ending items) one within in
      is ∙ ap retired_due (sym (found_same R S s items goes less)))
      (cases_eq (found_at R s items) 0)

at_all : (a b c d : ℕ) → a < 0 + b → b ≡ c → a < c
at_all a b c d less is = omega (arith, less, is)

module _ (C : Config) (seed : List ℕ) (R : Record) (cells : List (List CellEvent)) (goes : Goes (of_cells cells) R) (many : length R.cells ≡ length cells) where
  ending_stays : (items ending : List Own) → Within (of_cells cells) (ending ++ items) → IsEnding (of_cells cells) items ending → IsEnding R items ending
  ending_stays items ending within h = record {
    retireds = h.retireds;
    each = each_from (λ s. count_by (retires s) ending ≡ retired_due (found_at R s items)) 0 R.cells
        (λ s least less. due_stays (of_cells cells) R s items ending (goes s) (within s) h.retireds
        (subst (λ m. count_by (retires m) ending ≡ retired_due (found_at (of_cells cells) m items)) (from_zero s)
        (each_at (λ m. count_by (retires m) ending ≡ retired_due (found_at (of_cells cells) m items)) 0 cells h.each s (at_all s (length R.cells) (length cells) 0 less many))));
  }

  pub ends_whole : (up : ℕ → ℕ → Bool) → ((s k : ℕ) → has_up R s k ≡ up s k) → Within (of_cells cells) R.launches → EndsWhole C seed up R.launcher cells R.launches → LaunchesAreWhole C seed R
  ends_whole up same_ups within h =
      let w = h.whole in
      let e = h.ends in
      let all = subst (Within (of_cells cells)) e.own_is within in
      let front : Within (of_cells cells) h.before = λ t. at_front (count_by (is_launch_at t) e.ending) (count_by (is_launch_at t) h.before) _ _ (counted_append (is_launch_at t) e.ending h.before) (all t) in
      let same : all_pieces C seed R (attempts R.launcher) w.fates ≡ h.before =
      pieces_stay C seed (of_cells cells) R goes (attempts R.launcher) w.fates (subst (Within (of_cells cells)) w.list_is front) ∙ sym w.list_is in
      record {
        fates = w.fates;
        ending = e.ending;
        told = subst (λ (ups : ℕ → ℕ → Bool). AreTold ups R.launcher (attempts R.launcher) w.fates) (λ i. λ (s k : ℕ). sym (same_ups s k) i) w.told;
        list_is = e.own_is ∙ ap (λ (xs : List Own). e.ending ++ xs) (sym same);
        ends = subst (λ (xs : List Own). IsEnding R xs e.ending) (sym same) (ending_stays h.before e.ending all e.ends);
      }
    where
      at_front : (a b c d : ℕ) → c ≡ a + b → c ≤ d → b ≤ d
      at_front a b c d is most = omega (arith, is, most)

-- ---- of the record that is left

at_count : (a b : ℕ) → a ≡ b → a ≤ b
at_count a b is = omega (arith, is)

grown_many : (n w : ℕ) (Is Js : List (List CellEvent)) → CellsGrow n w Is Js → length Js ≡ length Is
grown_many n w [] [] h = refl
grown_many n w [] (J ∷ Js) h = absurd h
grown_many n w (I ∷ Is) [] h = absurd h
grown_many n w (I ∷ Is) (J ∷ Js) h = ap suc (grown_many n w Is Js h.1)

pub launches_whole : (C : Config) (seed : List ℕ) (n : ℕ) (R : Record) (up : ℕ → ℕ → Bool) (s : Sat) (cs every : List CellsSeen) (c : CellsSeen) → ((s k : ℕ) → has_up R s k ≡ up s k) → every ≡ cs ++ c ∷ [] → c.number ≡ n → AllCellsGrow n every R.cells → AreOwn n s c R.launches
    → EndsWhole C seed up R.launcher c.cells R.launches → LaunchesAreWhole C seed R
launches_whole C seed n R up s cs every c ups is here i o h =
    let cells = subst (λ k. CellsGrow n k c.cells R.cells) here (cells_pop n cs c R.cells (subst (λ xs. AllCellsGrow n xs R.cells) is i)).1 in
    ends_whole C seed R c.cells
    (λ u. let g = cell_at n n c.cells R.cells cells u in (g.0, g.2))
    (grown_many n n c.cells R.cells cells) up ups
    (λ u. at_count (count_by (is_launch_at u) R.launches) (count_by is_launch_event (seen_at c u)) (launches_counted n u (seen_at c u) R.launches (o.cells u)))
    h

-- ---- what the children were given

pub cell_law : (C : Config) (seed : List ℕ) (m : ℕ) (Js : List (List CellEvent)) (xs : List (List Sent)) → AllCells C seed m Js xs → (s : ℕ) → CellLaw (slice_index_or Js s [])
cell_law C seed m [] xs h s = tt
cell_law C seed m (J ∷ Js) [] h s = absurd h
cell_law C seed m (J ∷ Js) (x ∷ xs) h zero = h.0
cell_law C seed m (J ∷ Js) (x ∷ xs) h (suc s) = cell_law C seed (suc m) Js xs h.2 s

-- what retires the cells at last boots nothing
retired_boots : (s k : ℕ) (item : Own) → is_retired item ≡ true → is_boot s k item ≡ false
retired_boots s k (own.Retired t) h = refl
retired_boots s k (own.Boot t j) h = absurd (false≢true h)
retired_boots s k (own.Okd e) h = absurd (false≢true h)
retired_boots s k (own.Proxy p e) h = absurd (false≢true h)
retired_boots s k (own.Pubd e) h = absurd (false≢true h)
retired_boots s k (own.Oklogd e) h = absurd (false≢true h)
retired_boots s k (own.Launcher e) h = absurd (false≢true h)
retired_boots s k (own.Dialog t) h = absurd (false≢true h)
retired_boots s k (own.Missed t wanted is) h = absurd (false≢true h)
retired_boots s k own.NoMemory h = absurd (false≢true h)

front_boots : (s k : ℕ) (ending old : List Own) → list_all is_retired ending ≡ true → list_any (is_boot s k) (ending ++ old) ≡ list_any (is_boot s k) old
front_boots s k [] old h = refl
front_boots s k (item ∷ ending) old h =
    let both = and_parts (is_retired item) (list_all is_retired ending) h in
    ap (λ (b : Bool). b || list_any (is_boot s k) (ending ++ old)) (retired_boots s k item both.0) ∙ front_boots s k ending old both.1

pub ending_same : (cells : List (List CellEvent)) (old new : List Own) → EndsPieces cells old new → BootsSame old new
ending_same cells old new h s k = ap (list_any (is_boot s k)) h.own_is ∙ front_boots s k h.ending old h.ends.retireds

-- the launcher's seats saw each cell as it was when it was left empty at last, and its list has just the Boots of the cells
pub children_heard : (C : Config) (seed : List ℕ) (first : Family) (n : ℕ) (R : Record) (cs every : List CellsSeen) (c : CrewIs) → ((s : ℕ) → running_at c.running s ≡ None) → c.own ≡ R.launches → every ≡ cs ++ c.watch ∷ [] → c.watch.number ≡ n
    → AllCellsGrow n every R.cells → AllCells C seed 0 R.cells R.sents → LaunchesAreOwn n R → AreKin C seed first R.launcher c → ChildrenAreTold C seed R first c.family
children_heard C seed first n R cs every c none own_is is here i laws launched kin =
    let cells = subst (λ k. CellsGrow n k c.watch.cells R.cells) here (cells_pop n cs c.watch R.cells (subst (λ xs. AllCellsGrow n xs R.cells) is i)).1 in
    children_told C seed first c R none (λ s. cell_law C seed 0 R.cells R.sents laws s) (λ u. let g = cell_at n n c.watch.cells R.cells cells u in (g.0, g.2))
    (λ s k. boots_are n s k R c.own (launched.own.cells s ∙ ap (filter (is_at_cell s)) (sym own_is))) kin
