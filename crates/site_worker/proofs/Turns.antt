-- A turn at the launcher, and what is noted after it.
use Rattle.std.proofs.Common.{◌≡◌, ℕ, Bool, List, [], ap, sym, ◌∙◌, subst}
use Rattle.okws_base.specs.declared.journal.Entry.{Entry}
use Rattle.okws_plan.specs.declared.configuration.Config.{Config}
use Rattle.okws_plan.specs.declared.event.LauncherEvent.{LauncherEvent}
use Rattle.okws_plan.specs.declared.event.OkdEvent.{OkdEvent}
use Rattle.launch_turns.specs.Standing.{BegunBefore, UpsStand}
use Rattle.launch_turns.specs.Turns.{RelaunchesBy, ReportsBy, TendsBy}
use Rattle.okld_launch.specs.declared.answer.Launched.{Launched}
use Rattle.okld_launch.specs.declared.answer.Crashed.{Crashed}
use Rattle.okld_launch.specs.declared.answer.Tended.{Tended}
use Rattle.turn_lock.specs.Seats.{SeatIs}
use Rattle.launch_turns.specs.declared.deed.Deed.{Deed}
use Rattle.site_worker.specs.Lives.{Life, StarvesWhere}
use Rattle.site_worker.specs.Launching.{launch_starved, crash_starved, tend_starved, with_launches, OnlyLauncher, Reports, Tends, Asks}

-- the seat went on from J to A in a turn in which nothing was noted
pub only_looked : (J A : Life) → A ≡ record J { launcher = record J.launcher { seen = A.launcher.seen } } → OnlyLauncher [] J A
only_looked J A seat = seat ∙ ap (λ (o : List (Entry OkdEvent)). record J { launcher = record J.launcher { seen = A.launcher.seen }; shown = o }) (sym (ap (λ (X : Life). X.shown) seat))

-- the seat went on from J to A, then the worker was shown okd, which left B, and then these events were noted
module _ (C : Config) (s : ℕ) (events : List LauncherEvent) (J A B M K : Life) (b : Bool) (shown : List (Entry OkdEvent))
    (seat : A ≡ record J { launcher = record J.launcher { seen = A.launcher.seen } }) (keeps : B ≡ record A { shown = shown }) (notes : M ≡ record B { seen = with_launches events B.seen })
    (stands : UpsStand A.launcher.seen shown) where
  same_seat : A.launcher ≡ M.launcher
  same_seat = sym (ap (λ (X : Life). X.launcher) notes ∙ ap (λ (X : Life). X.launcher) keeps)

  same_shown : shown ≡ M.shown
  same_shown = sym (ap (λ (X : Life). X.shown) notes ∙ ap (λ (X : Life). X.shown) keeps)

  only_made : OnlyLauncher events J M
  only_made =
      notes ∙ (ap (λ (X : Life). record X { seen = with_launches events X.seen }) (keeps ∙ ap (λ (X : Life). record X { shown = shown }) seat)
      ∙ (λ i. record J { launcher = record J.launcher { seen = (same_seat i).seen }; seen = with_launches events J.seen; shown = same_shown i }))

  stand_made : UpsStand M.launcher.seen M.shown
  stand_made = subst (λ (x : SeatIs Deed × List (Entry OkdEvent)). UpsStand x.0.seen x.1) (λ i. (same_seat i, same_shown i)) stands

  begun_made : BegunBefore C J.board A.launcher.seen → BegunBefore C J.board M.launcher.seen
  begun_made = subst (λ (x : SeatIs Deed). BegunBefore C J.board x.seen) same_seat

  pub reports_made : BegunBefore C J.board A.launcher.seen → (k : ℕ) (answer : Crashed) → ReportsBy C s k J.launcher answer events A.launcher → b ≡ crash_starved answer → StarvesWhere b M K → Reports C s k J K
  reports_made shows k answer reports is starves = record {
    answer = answer;
    events = events;
    mid = M;
    only = only_made;
    reports = subst (λ (x : SeatIs Deed). ReportsBy C s k J.launcher answer events x) same_seat reports;
    stand = stand_made;
    begun = begun_made shows;
    notes = subst (λ (x : Bool). StarvesWhere x M K) is starves;
  }

  pub tends_made : BegunBefore C J.board A.launcher.seen → (answer : Tended) → TendsBy C s J.launcher answer events A.launcher → b ≡ tend_starved answer → StarvesWhere b M K → Tends C s J K
  tends_made shows answer tends is starves = record {
    answer = answer;
    events = events;
    mid = M;
    only = only_made;
    tends = subst (λ (x : SeatIs Deed). TendsBy C s J.launcher answer events x) same_seat tends;
    stand = stand_made;
    begun = begun_made shows;
    notes = subst (λ (x : Bool). StarvesWhere x M K) is starves;
  }

  pub asks_made : (answer : Launched) → RelaunchesBy C s J.launcher answer events A.launcher → b ≡ launch_starved answer → StarvesWhere b M K → Asks C s answer J K
  asks_made answer relaunches is starves = record {
    events = events;
    mid = M;
    only = only_made;
    relaunches = subst (λ (x : SeatIs Deed). RelaunchesBy C s J.launcher answer events x) same_seat relaunches;
    stand = stand_made;
    notes = subst (λ (x : Bool). StarvesWhere x M K) is starves;
  }
