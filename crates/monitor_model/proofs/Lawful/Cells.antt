-- One event more at a cell.
use Rattle.std.proofs.Common.{◌≡◌, ◌≢◌, ℕ, ◌<◌, ◌≤◌, Bool, true, false, List, [], ◌∷◌, Option, Some, None, refl, ap, sym, ◌∙◌, arith, length, eqb-true, ◌==◌, get_or-set_same, get_or-set_other, subst, le_trans}
use Rattle.std.specs.Prelude.{filter, slice_set, slice_index_or}
use Rattle.std.proofs.lemmas.Bool.{eqb-false}
use Rattle.monitor_model.specs.declared.record.CellEvent.{CellEvent}
use Rattle.monitor_model.specs.declared.record.CellEvent.TheVariants as cell
use Rattle.monitor_model.specs.declared.record.CellEvent.TheVariants.{Boot, Retired, Missed}
use Rattle.monitor_model.specs.declared.record.End.{End}
use Rattle.monitor_model.specs.declared.record.End.TheVariants as end
use Rattle.monitor_model.specs.declared.record.Own.{Own}
use Rattle.monitor_model.specs.declared.record.Own.TheVariants as own
use Rattle.monitor_model.specs.Cell.{CellLaw, incarnation, last_booted, after_end}
use Rattle.monitor_model.specs.Legal.{ShownFits, EventShownFits}
use Rattle.monitor_model.specs.Merged.{is_at_cell}
use Rattle.monitor_model.specs.Stage.{Stand, Opened, empty_stand}
use Rattle.monitor_model.specs.Played.{with_open}
use Rattle.monitor_model.proofs.Lawful.Plain.{each_more}
use Rattle.monitor_model.proofs.Lawful.Kept.{CellKept, EndFits}

-- a cell's incarnation was booted
after_le : (how : End) (n m : ℕ) → n ≤ m → after_end how n ≤ m
after_le end.Reply n m below = below
after_le (end.Superseded shown) n m below = below
after_le end.BadFrame n m below = omega arith
after_le end.Ended n m below = omega arith
after_le end.LinkFault n m below = omega arith
after_le end.FrameLimit n m below = omega arith
after_le end.Starved n m below = omega arith

pub was_booted : (J : List CellEvent) → incarnation J ≤ last_booted J
was_booted [] = omega arith
was_booted (cell.Boot k ∷ J) = omega arith
was_booted (cell.Retired ∷ J) = omega arith
was_booted (cell.Missed worker wanted is ∷ J) = was_booted J
was_booted (cell.Dialog d ∷ J) = after_le d.end (incarnation J) (last_booted J) (was_booted J)
was_booted (cell.Speaking worker items ∷ J) = was_booted J

-- a cell that has an incarnation has the last one that was booted
after_stays : (how : End) (n : ℕ) → after_end how n ≢ 0 → (n ≢ 0) × (after_end how n ≡ n)
after_stays end.Reply n there = (there, refl)
after_stays (end.Superseded shown) n there = (there, refl)
after_stays end.BadFrame n there = absurd (there refl)
after_stays end.Ended n there = absurd (there refl)
after_stays end.LinkFault n there = absurd (there refl)
after_stays end.FrameLimit n there = absurd (there refl)
after_stays end.Starved n there = absurd (there refl)

pub is_last : (J : List CellEvent) → CellLaw J → incarnation J ≢ 0 → incarnation J ≡ last_booted J
is_last [] law there = absurd (there refl)
is_last (cell.Boot k ∷ J) law there = let above : last_booted J < k = law.2.1 in omega arith
is_last (cell.Retired ∷ J) law there = absurd (there refl)
is_last (cell.Missed worker wanted is ∷ J) law there = is_last J law.0 there
is_last (cell.Dialog d ∷ J) law there =
    let stays : (incarnation J ≢ 0) × (after_end d.end (incarnation J) ≡ incarnation J) = after_stays d.end (incarnation J) there in
    stays.1 ∙ is_last J law.0 stays.0
is_last (cell.Speaking worker items ∷ J) law there = is_last J law.0 there

pub cell_booted : (s k : ℕ) (J : List CellEvent) (items : List Own) (greatest : ℕ) → CellKept s None J items greatest → incarnation J ≡ 0 → last_booted J < k → k ≤ greatest
    → CellKept s None (Boot k ∷ J) (own.Boot s k ∷ items) greatest
cell_booted s k J items greatest kept empty above begun = record {
  own = ap (λ (xs : List Own). own.Boot s k ∷ xs) kept.own;
  foreign = kept.foreign;
  below = kept.below;
  shown = (tt, kept.shown);
  unharmed = (tt, kept.unharmed);
  law = (kept.law, kept.silent, (empty, above));
  silent = refl;
  last = omega (arith, kept.last);
}

pub cell_retired : (s : ℕ) (J : List CellEvent) (items : List Own) (greatest : ℕ) → CellKept s None J items greatest → incarnation J ≢ 0
    → CellKept s None (Retired ∷ J) (own.Retired s ∷ items) greatest
cell_retired s J items greatest kept there = record {
  own = ap (λ (xs : List Own). own.Retired s ∷ xs) kept.own;
  foreign = kept.foreign;
  below = kept.below;
  shown = (tt, kept.shown);
  unharmed = (tt, kept.unharmed);
  law = (kept.law, kept.silent, there);
  silent = refl;
  last = kept.last;
}

pub cell_missed : (s k : ℕ) (J : List CellEvent) (items : List Own) (greatest : ℕ) → CellKept s None J items greatest → k ≢ incarnation J
    → CellKept s None (Missed 0 k (incarnation J) ∷ J) (own.Missed s k (incarnation J) ∷ items) greatest
cell_missed s k J items greatest kept other = record {
  own = ap (λ (xs : List Own). own.Missed s k (incarnation J) ∷ xs) kept.own;
  foreign = kept.foreign;
  below = kept.below;
  shown = (tt, kept.shown);
  unharmed = (tt, kept.unharmed);
  law = (kept.law, kept.silent, (refl, other));
  silent = refl;
  last = kept.last;
}

pub cell_opened : (s : ℕ) (opened : Opened) (J : List CellEvent) (items : List Own) (greatest : ℕ) → CellKept s None J items greatest → incarnation J ≢ 0
    → CellKept s (Some opened) J (own.Dialog s ∷ items) greatest
cell_opened s opened J items greatest kept there = record {
  own = ap (λ (xs : List Own). own.Dialog s ∷ xs) kept.own;
  foreign = kept.foreign;
  below = kept.below;
  shown = (tt, kept.shown);
  unharmed = (tt, kept.unharmed);
  law = (kept.law, kept.silent, there);
  silent = kept.silent;
  last = kept.last;
}

-- an open dialog with other items
pub cell_went_on : (s : ℕ) (opened now : Opened) (J : List CellEvent) (items : List Own) (greatest : ℕ) → CellKept s (Some opened) J items greatest
    → CellKept s (Some now) J items greatest
cell_went_on s opened now J items greatest kept = record {
  own = kept.own;
  foreign = kept.foreign;
  below = kept.below;
  shown = kept.shown;
  unharmed = kept.unharmed;
  law = kept.law;
  silent = kept.silent;
  last = kept.last;
}

pub cell_closed : (s : ℕ) (opened : Opened) (how : End) (J : List CellEvent) (items : List Own) (greatest : ℕ) → CellKept s (Some opened) J items greatest → EndFits (incarnation J) greatest how
    → CellKept s None (cell.Dialog (record { worker = 0; items = opened.items; end = how; due = [] }) ∷ J) items greatest
cell_closed s opened how J items greatest kept fits = record {
  own = kept.own;
  foreign = kept.foreign;
  below = kept.below;
  shown = (fits.0, kept.shown.1);
  unharmed = (fits.1, kept.unharmed.1);
  law = (kept.law.0, kept.law.1, (kept.law.2, fits.2));
  silent = refl;
  last = kept.last;
}

-- more was begun
shown_above : (was greatest : ℕ) (how : End) → was ≤ greatest → ShownFits was how → ShownFits greatest how
shown_above was greatest (end.Superseded shown) above fits = le_trans fits above
shown_above was greatest end.Reply above fits = tt
shown_above was greatest end.BadFrame above fits = tt
shown_above was greatest end.Ended above fits = tt
shown_above was greatest end.LinkFault above fits = tt
shown_above was greatest end.FrameLimit above fits = tt
shown_above was greatest end.Starved above fits = tt

event_above : (was greatest : ℕ) → was ≤ greatest → (e : CellEvent) → EventShownFits was e → EventShownFits greatest e
event_above was greatest above (cell.Dialog d) fits = shown_above was greatest d.end above fits
event_above was greatest above (cell.Boot k) fits = tt
event_above was greatest above cell.Retired fits = tt
event_above was greatest above (cell.Missed worker wanted is) fits = tt
event_above was greatest above (cell.Speaking worker items) fits = tt

pub cell_above : (s : ℕ) (opened : Option Opened) (J : List CellEvent) (items : List Own) (was greatest : ℕ) → was ≤ greatest → CellKept s opened J items was → CellKept s opened J items greatest
cell_above s opened J items was greatest above kept = record {
  own = kept.own;
  foreign = kept.foreign;
  below = kept.below;
  shown = each_more (EventShownFits was) (EventShownFits greatest) (with_open opened J) (event_above was greatest above) kept.shown;
  unharmed = kept.unharmed;
  law = kept.law;
  silent = kept.silent;
  last = le_trans kept.last above;
}

-- What is kept of the stand of cell s.
abbrev pub StandKept : ℕ → Stand → List Own → ℕ → Type 0
StandKept s there items greatest = CellKept s there.open_dialog there.past items greatest

-- one cell changes, and all others stay
stand_at : (s t : ℕ) (stands : List Stand) (there : Stand) (was now : List Own) (greatest : ℕ → ℕ) → s < length stands
    → StandKept s there (filter (is_at_cell s) now) (greatest s)
    → (s ≢ t → filter (is_at_cell t) now ≡ filter (is_at_cell t) was)
    → StandKept t (slice_index_or stands t empty_stand) (filter (is_at_cell t) was) (greatest t)
    → (b : Bool) → (s == t) ≡ b
    → StandKept t (slice_index_or (slice_set stands s there) t empty_stand) (filter (is_at_cell t) now) (greatest t)
stand_at s t stands there was now greatest declared here same_items rest true same =
    subst (λ (r : ℕ). StandKept r (slice_index_or (slice_set stands s there) r empty_stand) (filter (is_at_cell r) now) (greatest r))
    (eqb-true s t same) (rw (get_or-set_same stands s there empty_stand declared) here)
stand_at s t stands there was now greatest declared here same_items rest false same =
    let apart : t ≢ s = (λ (is : t ≡ s). eqb-false s t same (sym is)) in
    rw (get_or-set_other stands s t there empty_stand apart, same_items (λ is. apart (sym is))) rest

pub stands_with : (s : ℕ) (stands : List Stand) (there : Stand) (was now : List Own) (greatest : ℕ → ℕ) → s < length stands
    → StandKept s there (filter (is_at_cell s) now) (greatest s)
    → ((t : ℕ) → s ≢ t → filter (is_at_cell t) now ≡ filter (is_at_cell t) was)
    → ((t : ℕ) → StandKept t (slice_index_or stands t empty_stand) (filter (is_at_cell t) was) (greatest t))
    → (t : ℕ) → StandKept t (slice_index_or (slice_set stands s there) t empty_stand) (filter (is_at_cell t) now) (greatest t)
stands_with s stands there was now greatest declared here same_items rest t = stand_at s t stands there was now greatest declared here (same_items t) (rest t) (s == t) refl
