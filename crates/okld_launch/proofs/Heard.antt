-- What is told of a run's children, from what its launcher knew of them.
use Rattle.std.proofs.Common.{◌≡◌, ◌∙◌, ℕ, ◌+◌, ◌<◌, Bool, true, false, cond, List, [], ◌∷◌, ◌++◌, Option, None, refl, sym, ap, subst, arith, eq-eqb, inl, inr}
use Rattle.std.specs.Prelude.{◌==◌, ◌||◌, if◌then◌else◌, count_by, filter, is_some}
use Rattle.std.specs.List.{list_any}
use Rattle.std.proofs.lemmas.Bool.{and_parts, eqb-true, false≢true}
use Rattle.std.proofs.lemmas.List.{append_assoc}
use Rattle.std.proofs.lemmas.List.Sums.{sum_by-cons}
use Rattle.std.proofs.lemmas.Map.Views.{any-filter_same}
use Rattle.okws_base.specs.Runs.{Each}
use Rattle.okws_base.specs.Turns.{Behind}
use Rattle.okws_plan.specs.declared.configuration.Config.{Config}
use Rattle.okws_outer.specs.Families.{Family}
use Rattle.okws_outer.specs.Lives.{Life}
use Rattle.okws_outer.specs.declared.children.ChildEnd.{ChildEnd}
use Rattle.okws_outer.specs.declared.children.ChildStart.{ChildStart}
use Rattle.monitor_model.specs.declared.record.CellEvent.{CellEvent}
use Rattle.monitor_model.specs.declared.record.CellEvent.TheVariants as cell
use Rattle.monitor_model.specs.declared.record.Own.{Own}
use Rattle.monitor_model.specs.declared.record.Own.TheVariants as own
use Rattle.monitor_model.specs.declared.record.Record.{Record}
use Rattle.monitor_model.specs.Cell.{CellLaw, heard, incarnation, last_booted}
use Rattle.monitor_model.specs.First.{is_boot_of}
use Rattle.monitor_model.specs.Merged.{cell_items, cell_past, is_at_cell}
use Rattle.monitor_model.specs.Sent.{IsGiven, broken_in}
use Rattle.site_cells.specs.Held.{CountsFaults}
use Rattle.site_cells.specs.Taken.{HasTaken}
use Rattle.site_cells.proofs.Taken.{quiet_taken}
use Rattle.site_cells.specs.Row.{CellsSeen, seen_at}
use Rattle.launch_crew.specs.Crews.{CrewIs, running_at}
use Rattle.launch_crew.specs.Finished.{EndsAt, is_end_of, runs_as}
use Rattle.okld_launch.specs.Kin.{AreKin, IsEnd, IsStart, is_boot, is_start_of}
use Rattle.okld_launch.specs.Heard.{ChildrenAreTold, HasHeard, IsBehind, IsHeard}
use Rattle.okld_launch.proofs.Gone.{Stays, heard_later}
use Rattle.okld_launch.proofs.Booted.{boot_there}

-- ---- what is counted is there

pick : (b : Bool) (n : ℕ) (P : Type 0) → (b ≡ true → P) → (0 < n → P) → 0 < cond b 1 0 + n → P
pick true n P here rest some = here refl
pick false n P here rest some = rest (omega (arith, some))

-- a child that was started is an incarnation above 0
first_of : (C : Config) (s k : ℕ) (es : List ChildStart) → Each (IsStart C) es → 0 < count_by (is_start_of s k) es → 0 < k
first_of C s k [] each some = absurd (omega (arith, some))
first_of C s k (e ∷ es) each some = pick (is_start_of s k e) (count_by (is_start_of s k) es) (0 < k)
    (λ is. subst (λ (n : ℕ). 0 < n) (eqb-true e.incarnation k (and_parts (e.service == s) (e.incarnation == k) is).1) each.0.counted)
    (λ rest. first_of C s k es each.1 rest)
    (subst (λ (n : ℕ). 0 < n) (sum_by-cons (λ (x : ChildStart). cond (is_start_of s k x) 1 0) e es) some)

itself : (e : ChildEnd) → ◌≡◌ {A = ℕ} (cond (is_end_of e.service e.incarnation e) 1 0) 1
itself e = rw (eq-eqb e.service e.service refl, eq-eqb e.incarnation e.incarnation refl) refl

ends_first : (es : List ChildEnd) → ((s k : ℕ) → 0 < count_by (is_end_of s k) es → 0 < k) → Each (λ (e : ChildEnd). 0 < e.incarnation) es
ends_first [] h = tt
ends_first (e ∷ es) h = (
  h e.service e.incarnation (omega (arith, itself e, sum_by-cons (λ (x : ChildEnd). cond (is_end_of e.service e.incarnation x) 1 0) e es)),
  ends_first es (λ s k some. h s k (omega (arith, some, sum_by-cons (λ (x : ChildEnd). cond (is_end_of s k x) 1 0) e es))),
)

-- ---- what a child was given and said

heard_at : (C : Config) (seed : List ℕ) (w : CellsSeen) (R : Record) (e : ChildEnd) → CellLaw (cell_past R e.service) → Behind (seen_at w e.service) (cell_past R e.service) → 0 < e.incarnation → EndsAt C seed w e → HasHeard C seed R e
heard_at C seed w R e law behind counted h =
    let J : List CellEvent = cell_past R e.service in
    let is : J ≡ (behind.0 ++ h.behind.0) ++ h.events = behind.1 ∙ ap (λ (xs : List CellEvent). behind.0 ++ xs) h.behind.1 ∙ sym (append_assoc behind.0 h.behind.0 h.events) in
    let gone : IsBehind e.incarnation h.events = record { first = counted; below = omega (arith, h.last); gone = λ at. omega (arith, at, h.empty, counted) } in
    let stays : Stays C seed e.service e.incarnation h.events ((behind.0 ++ h.behind.0) ++ h.events) = heard_later C seed e.service e.incarnation (behind.0 ++ h.behind.0) h.events (subst CellLaw is law) gone in
    let text : heard C seed e.service e.incarnation J ≡ heard C seed e.service (last_booted h.events) h.events = ap (heard C seed e.service e.incarnation) is ∙ stays.heard_is ∙ ap (λ (k : ℕ). heard C seed e.service k h.events) h.last in
    let broken : broken_in e.incarnation J ≡ broken_in (last_booted h.events) h.events = ap (broken_in e.incarnation) is ∙ stays.broken_is ∙ ap (λ (k : ℕ). broken_in k h.events) h.last in
    record {
      whose_is = h.whose;
      given_is = subst (λ (x : List ℕ). IsGiven x (broken_in e.incarnation J) e.given) (sym text) (subst (λ (b : Option (List ℕ)). IsGiven (heard C seed e.service (last_booted h.events) h.events) b e.given) (sym broken) h.given);
      said_is = subst (λ (J : List CellEvent). HasTaken e.incarnation J e.came e.left) (sym is)
          (quiet_taken e.incarnation h.events ((behind.0 ++ h.behind.0) ++ h.events) e.came e.left stays.said_is stays.end_is
          (subst (λ (k : ℕ). HasTaken k h.events e.came e.left) (sym h.last) h.taken));
      counted = subst (λ (b : Option (List ℕ)). CountsFaults (is_some b) e.faults) (sym broken) h.faults;
    }

-- the items of a cell that the launcher has are its Boots
item_same : (s k : ℕ) (b : Bool) (item : Own) (items : List Own) → is_boot s k item ≡ false → list_any (is_boot s k) (if b then item ∷ items else items) ≡ list_any (is_boot s k) items
item_same s k true item items none = rw none refl
item_same s k false item items none = refl

item_boot : (s k j : ℕ) (b : Bool) (items : List Own) → b ≡ true → list_any (is_boot s k) (if b then own.Boot s j ∷ items else items) ≡ ((j == k) || list_any (is_boot s k) items)
item_boot s k j true items is = rw (eq-eqb s s refl) refl
item_boot s k j false items is = absurd (false≢true is)

items_booted : (n s k : ℕ) (J : List CellEvent) → list_any (is_boot s k) (cell_items n n s J) ≡ list_any (is_boot_of k) J
items_booted n s k [] = refl
items_booted n s k (cell.Boot j ∷ J) = item_boot s k j (n == n) (cell_items n n s J) (eq-eqb n n refl) ∙ ap (λ (b : Bool). (j == k) || b) (items_booted n s k J)
items_booted n s k (cell.Retired ∷ J) = item_same s k (n == n) (own.Retired s) (cell_items n n s J) refl ∙ items_booted n s k J
items_booted n s k (cell.Missed v wanted is ∷ J) = item_same s k (v == n) (own.Missed s wanted is) (cell_items n n s J) refl ∙ items_booted n s k J
items_booted n s k (cell.Dialog d ∷ J) = item_same s k (d.worker == n) (own.Dialog s) (cell_items n n s J) refl ∙ items_booted n s k J
items_booted n s k (cell.Speaking worker items ∷ J) = item_same s k (worker == n) (own.Dialog s) (cell_items n n s J) refl ∙ items_booted n s k J

-- what the launcher's list has booted, its cell has
pub boots_are : (n s k : ℕ) (R : Record) (items : List Own) → cell_items n n s (cell_past R s) ≡ filter (is_at_cell s) items → list_any (is_boot s k) items ≡ list_any (is_boot_of k) (cell_past R s)
boots_are n s k R items is = sym (any-filter_same (is_boot s k) (is_at_cell s) true (boot_there s k) items) ∙ (ap (list_any (is_boot s k)) (sym is) ∙ items_booted n s k (cell_past R s))

is_heard : (C : Config) (seed : List ℕ) (w : CellsSeen) (items : List Own) (R : Record) (e : ChildEnd) → ((s : ℕ) → CellLaw (cell_past R s)) → ((s : ℕ) → Behind (seen_at w s) (cell_past R s)) → ((s k : ℕ) → list_any (is_boot s k) items ≡ list_any (is_boot_of k) (cell_past R s)) → 0 < e.incarnation →
    IsEnd C seed w items e → IsHeard C seed R e
is_heard C seed w items R e law behind boots counted (inl h) = inl (heard_at C seed w R e (law e.service) (behind e.service) counted h)
is_heard C seed w items R e law behind boots counted (inr h) = inr (record { given = h.given; whose_is = h.whose; untaken = h.untaken; unbooted = sym (boots e.service e.incarnation) ∙ h.unbooted })

all_heard : (C : Config) (seed : List ℕ) (w : CellsSeen) (items : List Own) (R : Record) (es : List ChildEnd) → ((s : ℕ) → CellLaw (cell_past R s)) → ((s : ℕ) → Behind (seen_at w s) (cell_past R s)) → ((s k : ℕ) → list_any (is_boot s k) items ≡ list_any (is_boot_of k) (cell_past R s)) →
    Each (λ (e : ChildEnd). 0 < e.incarnation) es → Each (IsEnd C seed w items) es → Each (IsHeard C seed R) es
all_heard C seed w items R [] law behind boots counted h = tt
all_heard C seed w items R (e ∷ es) law behind boots counted h = (is_heard C seed w items R e law behind boots counted.0 h.0, all_heard C seed w items R es law behind boots counted.1 h.1)

-- Where none runs any more, all that were started were finished, and were given what they heard.
pub children_told : (C : Config) (seed : List ℕ) (first : Family) (c : CrewIs) (R : Record) → ((s : ℕ) → running_at c.running s ≡ None) → ((s : ℕ) → CellLaw (cell_past R s)) → ((s : ℕ) → Behind (seen_at c.watch s) (cell_past R s)) →
    ((s k : ℕ) → list_any (is_boot s k) c.own ≡ list_any (is_boot_of k) (cell_past R s)) → AreKin C seed first R.launcher c → ChildrenAreTold C seed R first c.family
children_told C seed first c R none law behind boots kin =
    let same : (s k : ℕ) → count_by (is_start_of s k) kin.starts ≡ count_by (is_end_of s k) kin.ends = λ s k. omega (arith, kin.all s k, ap (λ (o : Option Life). runs_as o k) (none s)) in
    record {
      starts = kin.starts;
      started_is = kin.started_is;
      starts_are = kin.starts_are;
      ends = kin.ends;
      finished_is = kin.finished_is;
      ends_are = all_heard C seed c.watch c.own R kin.ends law behind boots (ends_first kin.ends (λ s k some. first_of C s k kin.starts kin.starts_are (omega (arith, some, same s k)))) kin.ends_are;
      all = same;
      once = kin.once;
      alone = kin.alone;
      begun_are = kin.begun_are;
      booted = λ s k is. kin.booted s k (boots s k ∙ is);
    }
