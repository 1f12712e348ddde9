-- What the columns' hands say of a path that okd was asked for, of the worker whose hands they are.
use Rattle.std.proofs.Common.{◌≡◌, ◌∙◌, ℕ, ◌≤◌, List, ◌++◌, refl, sym, ap, subst, append_assoc}
use Rattle.std.specs.Prelude.{slice_index}
use Rattle.okws_base.specs.Turns.{Behind}
use Rattle.okws_base.specs.declared.journal.Entry.{Entry}
use Rattle.okws_plan.specs.declared.configuration.Config.{Config}
use Rattle.okws_plan.specs.declared.event.OkdEvent.{OkdEvent}
use Rattle.okws_plan.specs.declared.event.OkdEvent.TheVariants as okd
use Rattle.monitor_model.specs.Okd.{accept_verdict}
use Rattle.monitor_model.specs.Seen.{AtOkd, Seen}
use Rattle.monitor_model.specs.declared.verdict.Way.{Way}
use Rattle.site_cells.specs.Row.{CellsSeen}
use Rattle.site_worker.specs.Asking.{KeepsPasts, SameBoard}
use Rattle.site_locks.specs.Sat.{Sat, seen_of}
use Rattle.turn_lock.specs.Seats.{SeatIs}
use Rattle.launch_turns.specs.declared.deed.Deed.{Deed}
use Rattle.site_worker.specs.Lives.{Life, Sees, life_of}
use Rattle.site_worker.specs.Handling.{Accepts, Enters}
use Rattle.site_worker.proofs.Lives.{sees_on}

pub enters_of : (C : Config) (path asked : List ℕ) (goes : Way) (s now : Sat) (cells : CellsSeen) (launcher : SeatIs Deed) (shown : List (Entry OkdEvent))
    → cells.number ≡ s.number → path ≡ asked → KeepsPasts s.okd now.okd → KeepsPasts s.pubd now.pubd → KeepsPasts s.oklogd now.oklogd → SameBoard s now
    → (before : List (Entry OkdEvent)) × (goes ≡ accept_verdict C before path) × AtOkd s.number (okd.Accept path) (seen_of s) before (seen_of now) × Behind s.okd before
    → Enters C asked goes (life_of s cells launcher shown) (life_of now cells launcher shown)
enters_of C path asked goes s now cells launcher shown number is at_okd at_pubd at_log same h = record {
  before = h.0;
  goes_is = subst (λ (x : List ℕ). goes ≡ accept_verdict C h.0 x) is h.1;
  enters = subst (λ (x : ℕ × List ℕ). AtOkd x.0 (okd.Accept x.1) (seen_of s) h.0 (seen_of now)) (λ i. (sym number i, is i)) h.2;
  on = h.3;
  rest = record {
    seen_is = refl;
    cells_is = refl;
    launcher_is = refl;
    shown_is = refl;
    board = λ t k shown. subst (λ (b : List ℕ). k ≤ slice_index b t) (sym same.board_is) shown;
    okd = at_okd;
    pubd = at_pubd;
    oklogd = at_log;
  };
}

behind_both : {E : Type 0} (I J K : List E) → Behind I J → Behind J K → Behind I K
behind_both I J K a b = (b.0 ++ a.0, b.1 ∙ (ap (λ l. b.0 ++ l) a.1 ∙ sym (append_assoc b.0 a.0 I)))

-- once it was seen what the worker was shown
pub accepts_of : (C : Config) (asked : List ℕ) (goes : Way) (J M K : Life) → Sees J.seen J M → Behind J.shown M.okd → Enters C asked goes M K → Accepts C asked goes J K
accepts_of C asked goes J M K sees met h = record {
  before = h.before;
  goes_is = h.goes_is;
  enters = subst (λ (x : ℕ × Seen). AtOkd x.0 (okd.Accept asked) x.1 h.before K.seen) (λ i. (ap (λ (c : CellsSeen). c.number) sees.cells_is i, sees.seen_is i)) h.enters;
  above = behind_both J.shown M.okd h.before met h.on;
  rest = sees_on J M K K.seen sees h.rest;
}
