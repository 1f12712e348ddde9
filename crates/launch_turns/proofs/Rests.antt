-- The launcher rests behind its turns.
use Rattle.std.proofs.Common.{◌≡◌, ◌∙◌, ℕ, ◌≤◌, true, false, List, [], ◌∷◌, ◌++◌, length, sym, ap, subst, arith}
use Rattle.okws_base.specs.Turns.{AddsBy}
use Rattle.okws_base.specs.declared.journal.Entry.{Entry}
use Rattle.okws_base.specs.declared.limit.TheConstants.{GREATEST_RETRY}
use Rattle.okws_plan.specs.declared.configuration.Config.{Config}
use Rattle.okws_plan.specs.declared.event.LauncherEvent.{LauncherEvent}
use Rattle.okws_outer.specs.Families.{Family}
use Rattle.turn_lock.specs.Seats.{SeatIs}
use Rattle.okld_launch.specs.Entering.{Enters, entries_of, most_entered}
use Rattle.okld_launch.specs.Launchers.{LauncherIs}
use Rattle.okld_launch.specs.Pieces.{IsClosed}
use Rattle.okld_launch.specs.Ups.{ends_after, ups_after}
use Rattle.okld_launch.specs.declared.entered.TheConstants.{MOST_ENTERED}
use Rattle.launch_turns.specs.Deeds.{by_deed, ended_in, entries, up_in}
use Rattle.launch_turns.specs.Resting.{Rests}
use Rattle.launch_turns.specs.declared.deed.Deed.{Deed}

-- a turn enters no more than it may
pub most_of : (C : Config) (events : List LauncherEvent) → length events ≤ most_entered C → C.retry ≤ GREATEST_RETRY → length events ≤ MOST_ENTERED
most_of C events few sound = omega (arith, few, sound)

pub rests_after : (C : Config) (seed : List ℕ) (first : Family) (d : Deed) (deeds : List Deed) (l m : LauncherIs) → entries deeds ≡ l.journal.past → Enters d.worker d.entered l.journal.past m.journal.past → IsClosed C seed first (ups_after d.up d.entered (up_in deeds)) (ends_after d.tended d.entered (ended_in deeds)) m → Rests C seed first (d ∷ deeds) m
rests_after C seed first d deeds l m are enters h = record {
  entries_are = ap (λ (J : List (Entry LauncherEvent)). entries_of d.worker d.entered ++ J) are ∙ sym enters;
  closed = h;
}

-- one turn more is added under the number of who took it
pub one_turn : (old mid : SeatIs Deed) (found : List Deed) (d : Deed) (left : List Deed) → mid ≡ record { lock = old.lock; number = old.number; seen = found; held = true; label = old.label; olds = old.olds } → d.worker ≡ old.number → left ≡ d ∷ found → AddsBy by_deed mid.number mid.seen left
one_turn old mid found d left seat who is = subst (λ (a : SeatIs Deed). AddsBy by_deed a.number a.seen left) (sym seat) (d ∷ [], (who, tt), is)

-- none was taken
pub rests_new : (C : Config) (seed : List ℕ) (first : Family) (deeds : List Deed) (l : LauncherIs) → deeds ≡ [] → l.journal.past ≡ [] → IsClosed C seed first (λ s k. false) (λ s k. false) l → Rests C seed first deeds l
rests_new C seed first deeds l none empty h = subst (λ (ds : List Deed). Rests C seed first ds l) (sym none) (record { entries_are = sym empty; closed = h })

-- a turn in which nothing was entered
pub rests_looked : (C : Config) (seed : List ℕ) (first : Family) (w : ℕ) (entered : List LauncherEvent) (deeds : List Deed) (l m : LauncherIs) → Rests C seed first deeds l → entered ≡ [] → m ≡ l → Rests C seed first (record { worker = w; entered = entered; up = false; tended = false } ∷ deeds) m
rests_looked C seed first w entered deeds l m rests none same =
    subst (λ (x : List LauncherEvent). Rests C seed first (record { worker = w; entered = x; up = false; tended = false } ∷ deeds) m) (sym none)
    (subst (λ (x : LauncherIs). Rests C seed first (record { worker = w; entered = []; up = false; tended = false } ∷ deeds) x) (sym same) (record { entries_are = rests.entries_are; closed = rests.closed }))
