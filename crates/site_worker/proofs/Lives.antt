-- What becomes of a worker step by step.
use Rattle.std.proofs.Common.{◌≡◌, ℕ, ◌≤◌, List, refl, sym, ap, ◌∙◌, subst}
use Rattle.std.specs.Prelude.{slice_index}
use Rattle.okws_base.specs.Turns.{Behind}
use Rattle.okws_base.specs.declared.journal.Entry.{Entry}
use Rattle.okws_plan.specs.declared.event.OkdEvent.{OkdEvent}
use Rattle.monitor_model.specs.Seen.{Seen, noted}
use Rattle.monitor_model.specs.declared.record.Own.TheVariants as own
use Rattle.site_cells.specs.Row.{CellsSeen}
use Rattle.site_locks.specs.Sat.{Sat, seen_of}
use Rattle.site_locks.specs.Steps.{NotesSpare}
use Rattle.turn_lock.specs.Seats.{SeatIs}
use Rattle.launch_turns.specs.declared.deed.Deed.{Deed}
use Rattle.site_worker.specs.Asking.{KeepsPasts, SameBoard}
use Rattle.site_worker.specs.Lives.{Life, Working, Sees, Starves, life_of}

pub sees_on : (J M K : Life) (now : Seen) → Sees J.seen J M → Sees now M K → Sees now J K
sees_on J M K now a b = record {
  seen_is = b.seen_is;
  cells_is = b.cells_is ∙ a.cells_is;
  launcher_is = b.launcher_is ∙ a.launcher_is;
  shown_is = b.shown_is ∙ a.shown_is;
  board = λ s k l. b.board s k (a.board s k l);
  okd = λ past h. b.okd past (a.okd past h);
  pubd = λ past h. b.pubd past (a.pubd past h);
  oklogd = λ past h. b.oklogd past (a.oklogd past h);
}

-- a note in a spare place, by what the number has seen at the columns and at the cells
pub noted_starves : (s now : Sat) (cells : CellsSeen) (launcher : SeatIs Deed) (shown : List (Entry OkdEvent)) → NotesSpare own.NoMemory s now
    → Starves (life_of s cells launcher shown) (life_of now cells launcher shown)
noted_starves s now cells launcher shown h = record {
  seen_is = ap seen_of h.0;
  cells_is = refl;
  launcher_is = refl;
  shown_is = refl;
  board = λ t k l. subst (λ (b : List ℕ). k ≤ slice_index b t) (sym (ap (λ (x : Sat). x.board) h.0)) l;
  okd = λ past b. subst (Behind past) (sym (ap (λ (x : Sat). x.okd) h.0)) b;
  pubd = λ past b. subst (Behind past) (sym (ap (λ (x : Sat). x.pubd) h.0)) b;
  oklogd = λ past b. subst (Behind past) (sym (ap (λ (x : Sat). x.oklogd) h.0)) b;
}

-- nothing was entered at the columns, of which more may be seen
pub sees_columns : (s now : Sat) (cells : CellsSeen) (launcher : SeatIs Deed) (shown : List (Entry OkdEvent)) → seen_of now ≡ seen_of s → SameBoard s now → KeepsPasts s.okd now.okd → KeepsPasts s.pubd now.pubd → KeepsPasts s.oklogd now.oklogd
    → Sees (seen_of s) (life_of s cells launcher shown) (life_of now cells launcher shown)
sees_columns s now cells launcher shown seen same okd pubd oklogd = record {
  seen_is = seen;
  cells_is = refl;
  launcher_is = refl;
  shown_is = refl;
  board = λ t k l. subst (λ (b : List ℕ). k ≤ slice_index b t) (sym same.board_is) l;
  okd = okd;
  pubd = pubd;
  oklogd = oklogd;
}

-- more of okd was seen, and nothing else
pub sees_shown : (s now : Sat) (cells : CellsSeen) (launcher : SeatIs Deed) (shown : List (Entry OkdEvent)) → seen_of now ≡ seen_of s → now ≡ record s { okd = now.okd } → KeepsPasts s.okd now.okd
    → Sees (seen_of s) (life_of s cells launcher shown) (life_of now cells launcher shown)
sees_shown s now cells launcher shown seen only okd = record {
  seen_is = seen;
  cells_is = refl;
  launcher_is = refl;
  shown_is = refl;
  board = λ t k l. subst (λ (b : List ℕ). k ≤ slice_index b t) (sym (ap (λ (x : Sat). x.board) only)) l;
  okd = okd;
  pubd = λ past b. subst (Behind past) (sym (ap (λ (x : Sat). x.pubd) only)) b;
  oklogd = λ past b. subst (Behind past) (sym (ap (λ (x : Sat). x.oklogd) only)) b;
}

-- the worker of these seats
abbrev pub working_of : Sat → CellsSeen → SeatIs Deed → List (Entry OkdEvent) → Working
working_of s cells launcher shown = record { life = life_of s cells launcher shown; spare = s.spare }

pub spare_made : (s now : Sat) (cells : CellsSeen) (launcher : SeatIs Deed) (shown : List (Entry OkdEvent)) (places : ℕ) → now ≡ record s { spare = places }
    → working_of now cells launcher shown ≡ record (working_of s cells launcher shown) { spare = places }
spare_made s now cells launcher shown places e = ap (λ (x : Sat). working_of x cells launcher shown) e
