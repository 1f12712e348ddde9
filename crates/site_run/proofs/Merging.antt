-- The record's journals are made of the lists of its numbers, and of nothing else.
use Rattle.std.proofs.Common.{◌≡◌, ◌≢◌, ℕ, suc, ◌+◌, ◌<◌, ◌≤◌, Bool, true, false, List, [], ◌∷◌, ◌++◌, length, refl, sym, ap, ◌∙◌, subst, arith, eq-eqb}
use Rattle.std.proofs.lemmas.Bool.{ltb-false}
use Rattle.std.specs.Prelude.{nat_lt, ◌&&◌, if◌then◌else◌}
use Rattle.std.specs.List.{list_all}
use Rattle.okws_base.specs.Turns.{of}
use Rattle.okws_base.specs.declared.journal.Entry.{Entry}
use Rattle.monitor_model.specs.declared.record.CellEvent.{CellEvent}
use Rattle.monitor_model.specs.declared.record.CellEvent.TheVariants as cell
use Rattle.monitor_model.specs.declared.record.Own.{Own}
use Rattle.monitor_model.specs.declared.record.Record.{Record}
use Rattle.monitor_model.specs.Legality.{ListsMakeJournals}
use Rattle.monitor_model.specs.Merged.{IsOwn, LaunchesAlone, are_below, is_cell_below, list_of, lists}
use Rattle.named_columns.specs.Launched.{by_entry}
use Rattle.site_cells.specs.Held.{by_event}
use Rattle.turn_lock.specs.Rows.{NoneFrom}
use Rattle.site_run.specs.Journals.{NameNumbers}
use Rattle.site_run.proofs.Seating.{push_length}

-- ---- numbers that occur are below a count from which on none does

not_empty : {E : Type 0} (x : E) (xs : List E) → x ∷ xs ≡ [] → ⊥
not_empty x xs e = absurd (let h = ap length e in omega arith)

both : (a b : Bool) → a ≡ true → b ≡ true → (a && b) ≡ true
both true b p q = q
both false b p q = absurd (let never : ⊥ = cc in never)

module _ {E : Type 0} (by : E → ℕ) (m : ℕ) where
  below_head : (b : Bool) (e : E) (J : List E) → nat_lt (by e) m ≡ b → ((k : ℕ) → m ≤ k → of by k (e ∷ J) ≡ []) → nat_lt (by e) m ≡ true
  below_head true e J is none = is
  below_head false e J is none =
      let here : of by (by e) (e ∷ J) ≡ e ∷ of by (by e) J = ap (λ (b : Bool). if b then e ∷ of by (by e) J else of by (by e) J) (eq-eqb (by e) (by e) refl) in
      absurd (not_empty e (of by (by e) J) (sym here ∙ none (by e) (ltb-false (by e) m is)))

  rest_none : (b : Bool) (e : E) (J : List E) (k : ℕ) → (if b then e ∷ of by k J else of by k J) ≡ [] → of by k J ≡ []
  rest_none true e J k h = absurd (not_empty e (of by k J) h)
  rest_none false e J k h = h

  pub all_below : (J : List E) → ((k : ℕ) → m ≤ k → of by k J ≡ []) → list_all (λ (e : E). nat_lt (by e) m) J ≡ true
  all_below [] none = refl
  all_below (e ∷ J) none =
      both (nat_lt (by e) m) (list_all (λ (x : E). nat_lt (by x) m) J) (below_head (nat_lt (by e) m) e J refl none) (all_below J (λ k l. rest_none _ e J k (none k l)))

  pub rows_below : (Js : List (List E)) → NoneFrom by m Js → list_all (λ (J : List E). list_all (λ (e : E). nat_lt (by e) m) J) Js ≡ true
  rows_below [] h = refl
  rows_below (J ∷ Js) h = both (list_all (λ (e : E). nat_lt (by e) m) J) (list_all (λ (I : List E). list_all (λ (e : E). nat_lt (by e) m) I) Js) (all_below J h.0) (rows_below Js h.1)

-- the same of a cell, where Boots and Retireds name nobody
cell_less : (n m : ℕ) (e : CellEvent) → nat_lt (by_event n e) m ≡ true → is_cell_below m e ≡ true
cell_less n m (cell.Boot k) h = refl
cell_less n m cell.Retired h = refl
cell_less n m (cell.Missed v wanted is) h = h
cell_less n m (cell.Dialog d) h = h
cell_less n m (cell.Speaking v items) h = h

first_of : (a b : Bool) → (a && b) ≡ true → a ≡ true
first_of true b e = refl
first_of false b e = e

second_of : (a b : Bool) → (a && b) ≡ true → b ≡ true
second_of true b e = e
second_of false b e = absurd (let never : ⊥ = cc in never)

cell_below : (n m : ℕ) (J : List CellEvent) → list_all (λ (e : CellEvent). nat_lt (by_event n e) m) J ≡ true → list_all (is_cell_below m) J ≡ true
cell_below n m [] h = refl
cell_below n m (e ∷ J) h =
    let rest = list_all (λ (x : CellEvent). nat_lt (by_event n x) m) J in
    both (is_cell_below m e) (list_all (is_cell_below m) J) (cell_less n m e (first_of (nat_lt (by_event n e) m) rest h)) (cell_below n m J (second_of (nat_lt (by_event n e) m) rest h))

cells_below : (n m : ℕ) (Js : List (List CellEvent)) → list_all (λ (J : List CellEvent). list_all (λ (e : CellEvent). nat_lt (by_event n e) m) J) Js ≡ true
    → list_all (λ (J : List CellEvent). list_all (is_cell_below m) J) Js ≡ true
cells_below n m [] h = refl
cells_below n m (J ∷ Js) h =
    let this = list_all (λ (e : CellEvent). nat_lt (by_event n e) m) J in
    let rest = list_all (λ (I : List CellEvent). list_all (λ (e : CellEvent). nat_lt (by_event n e) m) I) Js in
    both (list_all (is_cell_below m) J) (list_all (λ (I : List CellEvent). list_all (is_cell_below m) I) Js) (cell_below n m J (first_of this rest h)) (cells_below n m Js (second_of this rest h))

-- ---- the record

pub lists_make : (n : ℕ) (R : Record) → NameNumbers n R → ((w : ℕ) → w ≤ n → IsOwn R n w (list_of R w)) → LaunchesAlone R → ListsMakeJournals R
lists_make n R names own alone =
    let workers = names.workers in
    let many : length (lists R) ≡ n + 1 = (let l = push_length R.workers R.launches in omega arith) in
    let below : n + 1 ≡ length (lists R) = sym many in
    record {
      merged = record {
        own = λ w l. subst (λ (k : ℕ). IsOwn R k w (list_of R w)) (sym workers) (own w (omega arith));
        below = subst (λ (m : ℕ). (are_below m R.okd && (list_all (are_below m) R.proxies && (are_below m R.pubd && (are_below m R.oklogd
            && (are_below m R.launcher && list_all (λ (J : List CellEvent). list_all (is_cell_below m) J) R.cells))))) ≡ true) below
            (both _ _ (all_below by_entry (n + 1) R.okd names.okd) (both _ _ (rows_below by_entry (n + 1) R.proxies names.proxies) (both _ _ (all_below by_entry (n + 1) R.pubd names.pubd)
            (both _ _ (all_below by_entry (n + 1) R.oklogd names.oklogd) (both _ _ (all_below by_entry (n + 1) R.launcher (λ k l. names.launcher k (omega arith)))
            (cells_below n (n + 1) R.cells (rows_below (by_event n) (n + 1) R.cells names.cells)))))));
      };
      alone = alone;
    }
