-- What the cells of a run's record say of the board, and of dialogs that lack their end.
use Rattle.std.proofs.Common.{◌≡◌, inl, inr, ℕ, zero, suc, ◌+◌, ◌<◌, ◌≤◌, Bool, true, false, List, [], ◌∷◌, length, refl, sym, ap, ◌∙◌, subst, arith, eq-eqb, get_or}
use Rattle.std.proofs.lemmas.Bool.{cases_lt, true≢false}
use Rattle.std.specs.Prelude.{◌⊎◌, ◌&&◌, ◌==◌, if◌then◌else◌, filter, slice_index}
use Rattle.std.specs.List.{list_all}
use Rattle.okws_base.specs.Runs.{Each}
use Rattle.okws_base.specs.Turns.{of}
use Rattle.okws_plan.specs.declared.configuration.Config.{Config}
use Rattle.monitor_model.specs.declared.record.CellEvent.{CellEvent}
use Rattle.monitor_model.specs.declared.record.CellEvent.TheVariants as cell
use Rattle.monitor_model.specs.declared.record.Own.{Own}
use Rattle.monitor_model.specs.declared.record.Own.TheVariants as own
use Rattle.monitor_model.specs.declared.record.Record.{Record}
use Rattle.monitor_model.specs.declared.sent.Sent.{Sent}
use Rattle.monitor_model.specs.Cell.{CellLaw}
use Rattle.monitor_model.specs.Launcher.{begun}
use Rattle.monitor_model.specs.Lawful.{AllStandThere}
use Rattle.monitor_model.specs.Legal.{EventShownFits}
use Rattle.monitor_model.specs.Merged.{cell_items, cell_past, is_at_cell, is_launch}
use Rattle.monitor_model.specs.Missing.{AreTrulyMissed, MissesAreTrue}
use Rattle.monitor_model.specs.Placed.{EachFrom}
use Rattle.monitor_model.specs.Tied.{AllEnded}
use Rattle.monitor_model.proofs.Tied.{cell_laws_are_parts}
use Rattle.site_cells.specs.Held.{by_event}
use Rattle.turn_lock.specs.Rows.{NoneFrom}
use Rattle.site_cells.specs.Row.{seen_at}
use Rattle.site_worker.specs.Lives.{Life}
use Rattle.site_run.proofs.Leaving.{cell_at, tail_none}
use Rattle.site_run.proofs.Showing.{OwnShown, Shows, each_more, grown_shown}
use Rattle.site_run.specs.Journals.{AllCells, KeepLaws, NameNumbers}
use Rattle.site_run.specs.Tied.{LaunchesAreOwn, LifeEnds}

-- What number w did at the cells of a record: each dialog that was superseded was shown what was begun, and none lacks its end.
abbrev pub ShownBy : Record → ℕ → Type 0
ShownBy R w = (s : ℕ) → s < length R.cells → Each (OwnShown w (begun R.launcher s)) (cell_past R s)

-- of a worker whose life ended in the record
pub shown_then : (n w : ℕ) (J : Life) (R : Record) (ended : ℕ → ℕ → Bool) → Shows w J → LifeEnds n w J R ended → ShownBy R w
shown_then n w J R ended o l = λ s u.
    grown_shown n w (begun R.launcher s) (seen_at J.cells s) (cell_past R s) (cell_at n w J.cells.cells R.cells l.cells s)
    (each_more w (slice_index J.board s) (begun R.launcher s) (seen_at J.cells s) (l.board s u) (o.shown s))

-- ---- the launcher's number has no dialogs

rest_true : (a b : Bool) → (a && b) ≡ true → b ≡ true
rest_true true b e = e
rest_true false b e = absurd (true≢false (sym e))

filter_all : (p : Own → Bool) (items : List Own) → list_all is_launch items ≡ true → list_all is_launch (filter p items) ≡ true
filter_all p [] h = refl
filter_all p (x ∷ items) h = by (p x) (filter_all p items (rest_true (is_launch x) (list_all is_launch items) h))
  where
    by : (b : Bool) → list_all is_launch (filter p items) ≡ true → list_all is_launch (if b then x ∷ filter p items else filter p items) ≡ true
    by true rest = and_both (is_launch x) (list_all is_launch (filter p items)) (first_true (is_launch x) (list_all is_launch items) h) rest
      where
        first_true : (a b : Bool) → (a && b) ≡ true → a ≡ true
        first_true true b e = refl
        first_true false b e = e

        and_both : (a b : Bool) → a ≡ true → b ≡ true → (a && b) ≡ true
        and_both true b e f = f
        and_both false b e f = absurd (true≢false (sym e))
    by false rest = rest

if_launches : (b : Bool) (x : Own) (xs : List Own) → list_all is_launch (if b then x ∷ xs else xs) ≡ true → list_all is_launch xs ≡ true
if_launches true x xs h = rest_true (is_launch x) (list_all is_launch xs) h
if_launches false x xs h = h

-- an item that is no launch isn't there
not_there : (b : Bool) (x : Own) (xs : List Own) → is_launch x ≡ false → b ≡ true → list_all is_launch (if b then x ∷ xs else xs) ≡ true → ⊥
not_there true x xs e q h = absurd (true≢false (sym (subst (λ (a : Bool). (a && list_all is_launch xs) ≡ true) e h)))
not_there false x xs e q h = absurd (true≢false (sym q))

silent : (n s top : ℕ) (J : List CellEvent) → list_all is_launch (cell_items n n s J) ≡ true → Each (OwnShown n top) J
silent n s top [] h = tt
silent n s top (cell.Boot k ∷ J) h = (tt, silent n s top J (if_launches (n == n) (own.Boot s k) (cell_items n n s J) h))
silent n s top (cell.Retired ∷ J) h = (tt, silent n s top J (if_launches (n == n) (own.Retired s) (cell_items n n s J) h))
silent n s top (cell.Missed v wanted is ∷ J) h = (tt, silent n s top J (if_launches (v == n) (own.Missed s wanted is) (cell_items n n s J) h))
silent n s top (cell.Dialog d ∷ J) h =
    ((λ is. absurd (not_there (d.worker == n) (own.Dialog s) (cell_items n n s J) refl (eq-eqb d.worker n is) h)), silent n s top J (if_launches (d.worker == n) (own.Dialog s) (cell_items n n s J) h))
silent n s top (cell.Speaking v items ∷ J) h =
    ((λ is. absurd (not_there (v == n) (own.Dialog s) (cell_items n n s J) refl (eq-eqb v n is) h)), silent n s top J (if_launches (v == n) (own.Dialog s) (cell_items n n s J) h))

pub launcher_shown : (n : ℕ) (R : Record) → LaunchesAreOwn n R → ShownBy R n
launcher_shown n R h = λ s u. silent n s (begun R.launcher s) (cell_past R s) (ap (list_all is_launch) (h.own.cells s) ∙ filter_all (is_at_cell s) R.launches h.launches)

-- ---- all numbers

module _ (n top : ℕ) where
  -- a number that occurs in a cell is the launcher's or a worker's
  numbered : (e : CellEvent) (J : List CellEvent) → ((k : ℕ) → n + 1 ≤ k → of (by_event n) k (e ∷ J) ≡ []) → by_event n e ≤ n
  numbered e J none = by (cases_lt n (by_event n e))
    where
      by : (n < by_event n e) ⊎ (by_event n e ≤ n) → by_event n e ≤ n
      by (inl l) = absurd ((tail_none n (by_event n e) e J (none (by_event n e) (omega arith))).0 refl)
      by (inr l) = l

  -- each event of a cell fits, since it is somebody's
  all_shown : (J : List CellEvent) → ((w : ℕ) → w ≤ n → Each (OwnShown w top) J) → ((k : ℕ) → n + 1 ≤ k → of (by_event n) k J ≡ []) → Each (EventShownFits top) J × AllEnded J
  all_shown [] h none = (tt, tt)
  all_shown (cell.Boot b ∷ J) h none = let r = all_shown J (λ w l. (h w l).1) (λ k l. (tail_none n k (cell.Boot b) J (none k l)).1) in ((tt, r.0), (r.1, tt))
  all_shown (cell.Retired ∷ J) h none = let r = all_shown J (λ w l. (h w l).1) (λ k l. (tail_none n k cell.Retired J (none k l)).1) in ((tt, r.0), (r.1, tt))
  all_shown (cell.Missed v wanted is ∷ J) h none = let r = all_shown J (λ w l. (h w l).1) (λ k l. (tail_none n k (cell.Missed v wanted is) J (none k l)).1) in ((tt, r.0), (r.1, tt))
  all_shown (cell.Dialog d ∷ J) h none = let r = all_shown J (λ w l. (h w l).1) (λ k l. (tail_none n k (cell.Dialog d) J (none k l)).1) in (((h d.worker (numbered (cell.Dialog d) J none)).0 refl, r.0), (r.1, tt))
  all_shown (cell.Speaking v items ∷ J) h none = let r = all_shown J (λ w l. (h w l).1) (λ k l. (tail_none n k (cell.Speaking v items) J (none k l)).1) in ((tt, r.0), (r.1, (h v (numbered (cell.Speaking v items) J none)).0 refl))

none_at : (n m : ℕ) (Js : List (List CellEvent)) → NoneFrom (by_event n) m Js → (s k : ℕ) → m ≤ k → of (by_event n) k (get_or Js s []) ≡ []
none_at n m [] h s k l = refl
none_at n m (J ∷ Js) h zero k l = h.0 k l
none_at n m (J ∷ Js) h (suc s) k l = none_at n m Js h.1 s k l

law_at : (C : Config) (seed : List ℕ) (k : ℕ) (Js : List (List CellEvent)) (xs : List (List Sent)) → AllCells C seed k Js xs → (s : ℕ) → CellLaw (get_or Js s [])
law_at C seed k [] [] h s = tt
law_at C seed k [] (x ∷ xs) h s = absurd h
law_at C seed k (J ∷ Js) [] h s = absurd h
law_at C seed k (J ∷ Js) (x ∷ xs) h zero = h.0
law_at C seed k (J ∷ Js) (x ∷ xs) h (suc s) = law_at C seed (suc k) Js xs h.2 s

each_from : (P : ℕ → List CellEvent → Type 0) (k : ℕ) (Js : List (List CellEvent)) → ((s m : ℕ) → s < length Js → m ≡ s + k → P m (get_or Js s [])) → EachFrom P k Js
each_from P k [] h = tt
each_from P k (J ∷ Js) h = (h 0 k (omega arith) (omega arith), each_from P (suc k) Js (λ s m l e. h (suc s) m (omega arith) (omega arith)))

-- the cells say nothing of the board that was not begun, and nothing of an incarnation that wasn't; and all stands where it may
pub cells_are_true : (C : Config) (seed : List ℕ) (n : ℕ) (R : Record) → KeepLaws C seed n R → NameNumbers n R → ((w : ℕ) → w ≤ n → ShownBy R w) → MissesAreTrue R × EachFrom (λ s J. AllStandThere J) 0 R.cells
cells_are_true C seed n R laws numbers shown =
    let told = λ (s : ℕ) (u : s < length R.cells). all_shown n (begun R.launcher s) (cell_past R s) (λ w l. shown w l s u) (λ k l. none_at n (n + 1) R.cells numbers.cells s k l) in
    let law = λ (s : ℕ). law_at C seed 0 R.cells R.sents laws.cells s in (
      record {
        missed = each_from (λ s J. AreTrulyMissed J) 0 R.cells (λ s m l e. (cell_laws_are_parts (cell_past R s) (law s) (told s l).1).0);
        shown = each_from (λ s J. Each (EventShownFits (begun R.launcher s)) J) 0 R.cells (λ s m l e. subst (λ k. Each (EventShownFits (begun R.launcher k)) (cell_past R s)) (let q : s ≡ m = omega arith in q) (told s l).0);
      },
      each_from (λ s J. AllStandThere J) 0 R.cells (λ s m l e. (cell_laws_are_parts (cell_past R s) (law s) (told s l).1).1),
    )
