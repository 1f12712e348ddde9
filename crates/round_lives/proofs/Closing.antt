-- Each launch that a turn at the launcher began failed in it, or is its last event and came up, or memory was refused then.
use Rattle.std.proofs.Common.{◌≡◌, inl, inr, ℕ, zero, suc, ◌+◌, ◌==◌, Bool, true, false, List, [], ◌∷◌, ◌++◌, Option, Some, None, map, refl, sym, ap, ◌∙◌, subst, eq-eqb}
use Rattle.std.specs.Prelude.{◌||◌, ◌&&◌}
use Rattle.std.proofs.lemmas.Bool.{and_from, or_left, or_right}
use Rattle.okws_base.specs.declared.journal.Entry.{Entry}
use Rattle.okws_plan.specs.declared.configuration.Config.{Config}
use Rattle.okws_plan.specs.declared.event.LauncherEvent.{LauncherEvent}
use Rattle.okws_plan.specs.declared.event.LauncherEvent.TheVariants as event
use Rattle.okws_outer.specs.Families.{Family}
use Rattle.monitor_model.specs.declared.record.Own.{Own}
use Rattle.monitor_model.specs.declared.record.Own.TheVariants as own
use Rattle.monitor_model.specs.Launcher.{begun}
use Rattle.okld_launch.specs.Ups.{crash_up, launch_up, launch_up_if, tend_up, ups_after}
use Rattle.okld_launch.specs.Entering.{entries_of}
use Rattle.okld_launch.specs.Going.{Ends, Fell, Goes, GoesAsked, GoesCrashed, GoesTended, Tends, with_entry, with_failed, GoesIf}
use Rattle.okld_launch.specs.Launchers.{LauncherIs, up_in}
use Rattle.okld_launch.specs.declared.answer.Launched.{Launched}
use Rattle.okld_launch.specs.declared.answer.Launched.TheVariants as launched
use Rattle.okld_launch.specs.declared.answer.Crashed.{Crashed}
use Rattle.okld_launch.specs.declared.answer.Crashed.TheVariants as crashed
use Rattle.okld_launch.specs.declared.answer.Tended.{Tended}
use Rattle.okld_launch.specs.declared.answer.Tended.TheVariants as tended
use Rattle.site_worker.specs.Launching.{crash_starved, launch_starved, tend_starved}
use Rattle.worker_lives.specs.Ending.{event_ends, launches_end, says_end}
use Rattle.round_lives.specs.Living.{starved_if}
use Rattle.round_lives.proofs.Ended.{Ended, wanted}
use Rattle.round_lives.proofs.Entered.{told_events}

-- ---- what ends whatever comes

-- from J to K number w entered events each launch of which failed among them
record ClosesTo (w : ℕ) (J K : List (Entry LauncherEvent)) : Type 0 where
  events : List LauncherEvent
  is : K ≡ entries_of w events ++ J
  closed : (up : ℕ → ℕ → Bool) (next : Option Own) → launches_end up next (map own.Launcher events) ≡ true

abbrev none_closes : (w : ℕ) (J : List (Entry LauncherEvent)) → ClosesTo w J J
none_closes w J = record { events = []; is = refl; closed = λ up next. refl }

-- an event that begins no launch
one_closes : (w : ℕ) (e : LauncherEvent) (I J : List (Entry LauncherEvent)) → ((up : ℕ → ℕ → Bool) (next : Option Own) → event_ends up next e ≡ true) → ClosesTo w I J → ClosesTo w I (with_entry w e J)
one_closes w e I J fine p = record {
  events = e ∷ p.events;
  is = ap (with_entry w e) p.is;
  closed = λ up next. and_from (event_ends up next e) (launches_end up (Some (own.Launcher e)) (map own.Launcher p.events)) (fine up next) (p.closed up (Some (own.Launcher e)));
}

crashed_closes : (w s k : ℕ) (J : List (Entry LauncherEvent)) → ClosesTo w J (with_entry w (event.Crashed s k) J)
crashed_closes w s k J = one_closes w (event.Crashed s k) J J (λ up next. refl) (none_closes w J)

asked_closes : (w s : ℕ) (J : List (Entry LauncherEvent)) → ClosesTo w J (with_entry w (event.Asked s) J)
asked_closes w s J = one_closes w (event.Asked s) J J (λ up next. refl) (none_closes w J)

says_failed : (s k : ℕ) → says_end s k (Some (own.Launcher (event.Failed s k))) ≡ true
says_failed s k = rw (eq-eqb s s refl, eq-eqb k k refl) refl

failed_closes : (w s : ℕ) (J K : List (Entry LauncherEvent)) → ClosesTo w J K → ClosesTo w J (with_failed w s K)
failed_closes w s J K p =
    let k = begun K s + 1 in
    let failed : Option Own = Some (own.Launcher (event.Failed s k)) in
    record {
      events = event.Failed s k ∷ event.Begun s k ∷ p.events;
      is = ap (with_failed_at k) p.is;
      closed = λ up next. and_from (up s k || says_end s k failed) (launches_end up (Some (own.Launcher (event.Begun s k))) (map own.Launcher p.events))
          (or_right (up s k) (says_end s k failed) (says_failed s k)) (p.closed up (Some (own.Launcher (event.Begun s k))));
    }
  where
    with_failed_at : ℕ → List (Entry LauncherEvent) → List (Entry LauncherEvent)
    with_failed_at k M = with_entry w (event.Failed s k) (with_entry w (event.Begun s k) M)

fell_closes : (C : Config) (w s n : ℕ) (I J : List (Entry LauncherEvent)) (f : Family) (K : List (Entry LauncherEvent)) (g : Family) → ClosesTo w I J → Fell C w s n J f K g → ClosesTo w I K
fell_closes C w s zero I J f K g p h = record { events = p.events; is = h.0 ∙ p.is; closed = p.closed }
fell_closes C w s (suc n) I J f K g p h = subst (ClosesTo w I) (sym h.4) (failed_closes w s I h.0 (fell_closes C w s n I J f h.0 h.1 p h.2))

-- ---- a launch

-- from J to K number w entered events each launch of which ended
record EndsTo (w : ℕ) (up starved : Bool) (J K : List (Entry LauncherEvent)) : Type 0 where
  events : List LauncherEvent
  is : K ≡ entries_of w events ++ J
  ended : Ended up starved events

none_ends : (w : ℕ) (up starved : Bool) (J K : List (Entry LauncherEvent)) → K ≡ J → EndsTo w up starved J K
none_ends w up starved J K is = record { events = []; is = is; ended = λ before. refl }

closed_ends : (w : ℕ) (up starved : Bool) (I J K : List (Entry LauncherEvent)) → ClosesTo w I J → K ≡ J → EndsTo w up starved I K
closed_ends w up starved I J K p is = record { events = p.events; is = is ∙ p.is; ended = λ before. p.closed (ups_after up p.events before) (wanted starved) }

-- the last incarnation is begun, and came up
up_ends : (w s k : ℕ) (I J K : List (Entry LauncherEvent)) → ClosesTo w I J → K ≡ with_entry w (event.Begun s k) J → EndsTo w true false I K
up_ends w s k I J K p is = record {
  events = event.Begun s k ∷ p.events;
  is = is ∙ ap (with_entry w (event.Begun s k)) p.is;
  ended = λ before.
      let ups = ups_after true (event.Begun s k ∷ p.events) before in
      and_from (ups s k || false) (launches_end ups (Some (own.Launcher (event.Begun s k))) (map own.Launcher p.events))
      (or_left (ups s k) false (or_left ((s == s) && (k == k)) (before s k) (rw (eq-eqb s s refl, eq-eqb k k refl) refl))) (p.closed ups (Some (own.Launcher (event.Begun s k))));
}

-- it is begun, and memory was refused
starved_ends : (w s k : ℕ) (up : Bool) (I J K : List (Entry LauncherEvent)) → ClosesTo w I J → K ≡ with_entry w (event.Begun s k) J → EndsTo w up true I K
starved_ends w s k up I J K p is = record {
  events = event.Begun s k ∷ p.events;
  is = is ∙ ap (with_entry w (event.Begun s k)) p.is;
  ended = λ before.
      let ups = ups_after up (event.Begun s k ∷ p.events) before in
      and_from (ups s k || true) (launches_end ups (Some (own.Launcher (event.Begun s k))) (map own.Launcher p.events)) (or_right (ups s k) true refl) (p.closed ups (Some (own.Launcher (event.Begun s k))));
}

dead_ends : (w s n : ℕ) (up starved : Bool) (I J K : List (Entry LauncherEvent)) → ClosesTo w I J → K ≡ with_entry w (event.Dead s n) J → EndsTo w up starved I K
dead_ends w s n up starved I J K p is = closed_ends w up starved I (with_entry w (event.Dead s n) J) K (one_closes w (event.Dead s n) I J (λ ups next. refl) p) is

end_ends : (C : Config) (w s : ℕ) (I J : List (Entry LauncherEvent)) (answer : Launched) (l : LauncherIs) → ClosesTo w I J → Ends C w s J answer l → EndsTo w (launch_up answer) (launch_starved answer) I l.journal.past
end_ends C w s I J (launched.Up k) l p h = up_ends w s (begun J s + 1) I J l.journal.past p h.2
end_ends C w s I J (launched.Dead n) l p (inl h) = closed_ends w false false I J l.journal.past p h.1
end_ends C w s I J (launched.Dead n) l p (inr h) = dead_ends w s n false false I J l.journal.past p h.2
end_ends C w s I J launched.Spent l p h = closed_ends w false false I J l.journal.past p h.1
end_ends C w s I J launched.NoMemory l p (inl h) = closed_ends w false true I J l.journal.past p h
end_ends C w s I J launched.NoMemory l p (inr h) = starved_ends w s (begun J s + 1) false I J l.journal.past p h.1

goes_ends : (C : Config) (w s : ℕ) (I J : List (Entry LauncherEvent)) (f : Family) (answer : Launched) (l : LauncherIs) → ClosesTo w I J → Goes C w s J f answer l → EndsTo w (launch_up answer) (launch_starved answer) I l.journal.past
goes_ends C w s I J f answer l p h = end_ends C w s I h.mid answer l (fell_closes C w s h.failed I J f h.mid h.told p h.fell) h.ends

-- ---- each turn

turned : (w : ℕ) (up starved : Bool) (events : List LauncherEvent) (J K : List (Entry LauncherEvent)) → K ≡ entries_of w events ++ J → EndsTo w up starved J K → Ended up starved events
turned w up starved events J K enters ends = subst (Ended up starved) (sym (told_events w events ends.events J K enters ends.is)) ends.ended

module _ (C : Config) (w s : ℕ) (events : List LauncherEvent) where
  pub launch_ends : (l : LauncherIs) (answer : Option Launched) (after : LauncherIs) → after.journal.past ≡ entries_of w events ++ l.journal.past → GoesIf C w s l answer after → Ended (launch_up_if answer) (starved_if answer) events
  launch_ends l None after enters h = turned w false false events l.journal.past after.journal.past enters (none_ends w false false l.journal.past after.journal.past (ap (λ (x : LauncherIs). x.journal.past) h.1))
  launch_ends l (Some answer) after enters h =
      turned w (launch_up answer) (launch_starved answer) events l.journal.past after.journal.past enters (goes_ends C w s l.journal.past l.journal.past l.crew.family answer after (none_closes w l.journal.past) h.1)

  asks_by : (J : List (Entry LauncherEvent)) (f : Family) (answer : Launched) (l : LauncherIs) → GoesAsked C w s J f answer l → EndsTo w (launch_up answer) (launch_starved answer) J l.journal.past
  asks_by J f answer l (inl h) = none_ends w (launch_up answer) (launch_starved answer) J l.journal.past h.1
  asks_by J f answer l (inr (inl h)) = none_ends w (launch_up answer) (launch_starved answer) J l.journal.past h.2
  asks_by J f answer l (inr (inr h)) = goes_ends C w s J (with_entry w (event.Asked s) J) f answer l (asked_closes w s J) h

  pub asks_ends : (J : List (Entry LauncherEvent)) (f : Family) (answer : Launched) (l : LauncherIs) → l.journal.past ≡ entries_of w events ++ J → GoesAsked C w s J f answer l → Ended (launch_up answer) (launch_starved answer) events
  asks_ends J f answer l enters h = turned w (launch_up answer) (launch_starved answer) events J l.journal.past enters (asks_by J f answer l h)

  crash_by : (k : ℕ) (J : List (Entry LauncherEvent)) (f : Family) (answer : Crashed) (l : LauncherIs) → GoesCrashed C w s k J f answer l → EndsTo w (crash_up answer) (crash_starved answer) J l.journal.past
  crash_by k J f (crashed.Up j) l h = goes_ends C w s J (with_entry w (event.Crashed s k) J) f (launched.Up j) l (crashed_closes w s k J) h.1
  crash_by k J f (crashed.Dead n) l (is, inl h) = goes_ends C w s J (with_entry w (event.Crashed s k) J) f (launched.Dead n) l (crashed_closes w s k J) h.1
  crash_by k J f (crashed.Dead n) l (is, inr h) = dead_ends w s n false false J (with_entry w (event.Crashed s k) J) l.journal.past (crashed_closes w s k J) h.1.1
  crash_by k J f crashed.Spent l h = goes_ends C w s J (with_entry w (event.Crashed s k) J) f launched.Spent l (crashed_closes w s k J) h.1
  crash_by k J f (crashed.Later j) l h = closed_ends w false false J (with_entry w (event.Crashed s k) J) l.journal.past (crashed_closes w s k J) h.2
  crash_by k J f crashed.NoMemory l (inl h) = none_ends w false true J l.journal.past h
  crash_by k J f crashed.NoMemory l (inr h) = goes_ends C w s J (with_entry w (event.Crashed s k) J) f launched.NoMemory l (crashed_closes w s k J) h.1

  pub crash_ends : (k : ℕ) (J : List (Entry LauncherEvent)) (f : Family) (answer : Crashed) (l : LauncherIs) → l.journal.past ≡ entries_of w events ++ J → GoesCrashed C w s k J f answer l → Ended (crash_up answer) (crash_starved answer) events
  crash_ends k J f answer l enters h = turned w (crash_up answer) (crash_starved answer) events J l.journal.past enters (crash_by k J f answer l h)

  tends_by : (old : LauncherIs) (answer : Launched) (l : LauncherIs) → Tends C w s old answer l → EndsTo w (launch_up answer) (launch_starved answer) old.journal.past l.journal.past
  tends_by old answer l (inl h) = goes_ends C w s old.journal.past old.journal.past old.crew.family answer l (none_closes w old.journal.past) h.1
  tends_by old answer l (inr h) =
      goes_ends C w s old.journal.past (with_entry w (event.Crashed s (up_in old s)) old.journal.past) old.crew.family answer l (crashed_closes w s (up_in old s) old.journal.past) h.1

  tended_by : (old : LauncherIs) (answer : Tended) (l : LauncherIs) → GoesTended C w s old answer l → EndsTo w (tend_up answer) (tend_starved answer) old.journal.past l.journal.past
  tended_by old tended.Alive l h = none_ends w false false old.journal.past l.journal.past h.0
  tended_by old (tended.Up k) l h = tends_by old (launched.Up k) l h
  tended_by old (tended.Dead n) l (inl h) = none_ends w false false old.journal.past l.journal.past h.1
  tended_by old (tended.Dead n) l (inr h) = tends_by old (launched.Dead n) l h
  tended_by old tended.Spent l h = tends_by old launched.Spent l h
  tended_by old tended.NoMemory l (inl h) = none_ends w false true old.journal.past l.journal.past h
  tended_by old tended.NoMemory l (inr h) = tends_by old launched.NoMemory l h

  pub tend_ends : (old : LauncherIs) (answer : Tended) (l : LauncherIs) → l.journal.past ≡ entries_of w events ++ old.journal.past → GoesTended C w s old answer l → Ended (tend_up answer) (tend_starved answer) events
  tend_ends old answer l enters h = turned w (tend_up answer) (tend_starved answer) events old.journal.past l.journal.past enters (tended_by old answer l h)
