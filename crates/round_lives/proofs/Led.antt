-- What a turn at the launcher enters leads on within the turn, or memory was refused in it, or the last incarnation was begun.
use Rattle.std.proofs.Common.{◌≡◌, inl, inr, ℕ, zero, suc, ◌+◌, ◌<◌, ◌≤◌, ◌==◌, Bool, true, false, List, [], ◌∷◌, ◌++◌, Option, Some, None, not, refl, sym, ap, ◌∙◌, subst, eq-eqb, ne_eqb, le-leb, arith}
use Rattle.std.specs.Prelude.{◌⊎◌, ◌||◌, ◌&&◌, nat_le, nat_lt}
use Rattle.std.proofs.lemmas.Bool.{and_from, and_parts}
use Rattle.okws_base.specs.declared.journal.Entry.{Entry}
use Rattle.okws_base.specs.declared.limit.TheConstants.{MOST_INCARNATIONS}
use Rattle.okws_plan.specs.declared.configuration.Config.{Config}
use Rattle.okws_plan.specs.declared.event.LauncherEvent.{LauncherEvent}
use Rattle.okws_plan.specs.declared.event.LauncherEvent.TheVariants as event
use Rattle.okws_outer.specs.Families.{Family}
use Rattle.monitor_model.specs.Launcher.{begun, is_dead, tries}
use Rattle.launch_journal.specs.Launches.{Allows, given_up}
use Rattle.launch_journal.specs.declared.next.Next.TheVariants as next
use Rattle.okld_launch.specs.Entering.{entries_of}
use Rattle.okld_launch.specs.Going.{Ends, Fell, Goes, GoesAsked, GoesCrashed, GoesIf, GoesTended, Tends, with_entry, with_failed}
use Rattle.okld_launch.specs.Launchers.{LauncherIs, up_in}
use Rattle.okld_launch.specs.declared.answer.Launched.{Launched}
use Rattle.okld_launch.specs.declared.answer.Launched.TheVariants as launched
use Rattle.okld_launch.specs.declared.answer.Crashed.{Crashed}
use Rattle.okld_launch.specs.declared.answer.Crashed.TheVariants as crashed
use Rattle.okld_launch.specs.declared.answer.Tended.{Tended}
use Rattle.okld_launch.specs.declared.answer.Tended.TheVariants as tended
use Rattle.okld_launch.proofs.Again.{given_dead, not_given}
use Rattle.site_worker.specs.Launching.{crash_starved, launch_starved, tend_starved}
use Rattle.worker_lives.specs.Waiting.{is_served, leads_to, owes, settled_by, turn_leads}
use Rattle.round_lives.specs.Living.{starved_if}
use Rattle.round_lives.proofs.Entered.{told_events}

or_true : (a b : Bool) → b ≡ true → (a || b) ≡ true
or_true true b h = refl
or_true false b h = h

true_or : (a b : Bool) → a ≡ true → (a || b) ≡ true
true_or a b h = rw (h) refl

-- ---- what waits for s alone

-- the events of a turn lead on where s waits no longer
abbrev Pends : ℕ → ℕ → (ℕ → ℕ) → List LauncherEvent → List (Entry LauncherEvent) → Type 0
Pends w s m events J = (owed : Bool) (behind : Option LauncherEvent) → is_served m owed behind s ≡ true → turn_leads w m owed behind events J ≡ true

-- from J to K number w entered such events
record PendsTo (w s : ℕ) (m : ℕ → ℕ) (J K : List (Entry LauncherEvent)) : Type 0 where
  events : List LauncherEvent
  is : K ≡ entries_of w events ++ J
  pends : Pends w s m events J

-- an event of s settles it
settled : (m : ℕ → ℕ) (owed : Bool) (s : ℕ) (e : LauncherEvent) → settled_by s (Some e) ≡ true → is_served m owed (Some e) s ≡ true
settled m owed s e h = true_or (settled_by s (Some e)) (owed || nat_le MOST_INCARNATIONS (m s)) h

abbrev none_pends : (w s : ℕ) (m : ℕ → ℕ) (J : List (Entry LauncherEvent)) → PendsTo w s m J J
none_pends w s m J = record { events = []; is = refl; pends = λ owed behind h. refl }

asked_pends : (w s : ℕ) (m : ℕ → ℕ) (J : List (Entry LauncherEvent)) → PendsTo w s m J (with_entry w (event.Asked s) J)
asked_pends w s m J = record { events = event.Asked s ∷ []; is = refl; pends = λ owed behind h. and_from (is_served m owed behind s) true h refl }

crashed_pends : (w s k : ℕ) (m : ℕ → ℕ) (J : List (Entry LauncherEvent)) → PendsTo w s m J (with_entry w (event.Crashed s k) J)
crashed_pends w s k m J = record {
  events = event.Crashed s k ∷ [];
  is = refl;
  pends = λ owed behind h. and_from (not (k == begun J s) || is_served m owed behind s) true (or_true (not (k == begun J s)) (is_served m owed behind s) h) refl;
}

failed_pends : (w s : ℕ) (m : ℕ → ℕ) (J K : List (Entry LauncherEvent)) → PendsTo w s m J K → PendsTo w s m J (with_failed w s K)
failed_pends w s m J K p =
    let k = begun K s + 1 in
    record {
      events = event.Failed s k ∷ event.Begun s k ∷ p.events;
      is = ap (with_failed_at k) p.is;
      pends = λ owed behind h. and_from (leads_to m owed behind (entries_of w (event.Begun s k ∷ p.events) ++ J) (event.Failed s k)) (turn_leads w m false (Some (event.Begun s k)) p.events J)
          (or_true (not (k == begun (entries_of w (event.Begun s k ∷ p.events) ++ J) s)) (is_served m owed behind s) h) (p.pends false (Some (event.Begun s k)) (settled m false s (event.Begun s k) (eq-eqb s s refl)));
    }
  where
    with_failed_at : ℕ → List (Entry LauncherEvent) → List (Entry LauncherEvent)
    with_failed_at k M = with_entry w (event.Failed s k) (with_entry w (event.Begun s k) M)

fell_pends : (C : Config) (w s n : ℕ) (m : ℕ → ℕ) (I J : List (Entry LauncherEvent)) (f : Family) (K : List (Entry LauncherEvent)) (g : Family) → PendsTo w s m I J → Fell C w s n J f K g → PendsTo w s m I K
fell_pends C w s zero m I J f K g p h = record { events = p.events; is = h.0 ∙ p.is; pends = p.pends }
fell_pends C w s (suc n) m I J f K g p h = subst (PendsTo w s m I) (sym h.4) (failed_pends w s m I h.0 (fell_pends C w s n m I J f h.0 h.1 p h.2))

-- ---- a launch

-- from J to K number w entered events that lead on, where the last one may be owed an end
pub record LedTo (w : ℕ) (m : ℕ → ℕ) (owed : Bool) (J K : List (Entry LauncherEvent)) : Type 0 where
  pub events : List LauncherEvent
  pub is : K ≡ entries_of w events ++ J
  pub led : turn_leads w m owed None events J ≡ true

none_led : (w : ℕ) (m : ℕ → ℕ) (owed : Bool) (J K : List (Entry LauncherEvent)) → K ≡ J → LedTo w m owed J K
none_led w m owed J K is = record { events = []; is = is; led = refl }

-- one event more settles it
settles_led : (w s : ℕ) (m : ℕ → ℕ) (owed : Bool) (e : LauncherEvent) (I J K : List (Entry LauncherEvent)) → ((M : List (Entry LauncherEvent)) → leads_to m owed None M e ≡ true) → settled_by s (Some e) ≡ true → PendsTo w s m I J → K ≡ with_entry w e J
    → LedTo w m owed I K
settles_led w s m owed e I J K here settles p is = record {
  events = e ∷ p.events;
  is = is ∙ ap (with_entry w e) p.is;
  led = and_from (leads_to m owed None (entries_of w p.events ++ I) e) (turn_leads w m false (Some e) p.events I) (here (entries_of w p.events ++ I)) (p.pends false (Some e) (settled m false s e settles));
}

-- nothing more is entered, and s waits no longer
ends_led : (w s : ℕ) (m : ℕ → ℕ) (owed : Bool) (I J K : List (Entry LauncherEvent)) → PendsTo w s m I J → K ≡ J → is_served m owed None s ≡ true → LedTo w m owed I K
ends_led w s m owed I J K p is served = record { events = p.events; is = is ∙ p.is; led = p.pends owed None served }

served_spent : (m : ℕ → ℕ) (s : ℕ) → MOST_INCARNATIONS ≤ m s → is_served m false None s ≡ true
served_spent m s most = le-leb MOST_INCARNATIONS (m s) most

none_some : (n : ℕ) → None ≡ Some n → ⊥
none_some n h = let never : ⊥ = cc in never

end_led : (C : Config) (w s : ℕ) (m : ℕ → ℕ) (I J : List (Entry LauncherEvent)) (answer : Launched) (l : LauncherIs) (p : PendsTo w s m I J) → (p.events ≡ []) ⊎ (given_up J s ≡ None) → m s ≡ begun l.journal.past s → Ends C w s J answer l
    → LedTo w m (launch_starved answer) I l.journal.past
end_led C w s m I J (launched.Up k) l p living most h = settles_led w s m false (event.Begun s (begun J s + 1)) I J l.journal.past (λ M. refl) (eq-eqb s s refl) p h.2
end_led C w s m I J (launched.Dead n) l p (inl nothing) most (inl h) = record { events = p.events; is = h.1 ∙ p.is; led = subst (λ (es : List LauncherEvent). turn_leads w m false None es I ≡ true) (sym nothing) refl }
end_led C w s m I J (launched.Dead n) l p (inr living) most (inl h) = absurd (none_some n (sym living ∙ h.0))
end_led C w s m I J (launched.Dead n) l p living most (inr h) = settles_led w s m false (event.Dead s n) I J l.journal.past (λ M. refl) (eq-eqb s s refl) p h.2
end_led C w s m I J launched.Spent l p living most h =
    ends_led w s m false I J l.journal.past p h.1
    (served_spent m s (let a : begun J s ≡ MOST_INCARNATIONS = h.0.2 in let b : begun l.journal.past s ≡ begun J s = ap (λ (M : List (Entry LauncherEvent)). begun M s) h.1 in omega (arith, a, b, most)))
end_led C w s m I J launched.NoMemory l p living most (inl h) = ends_led w s m true I J l.journal.past p h refl
end_led C w s m I J launched.NoMemory l p living most (inr h) = settles_led w s m true (event.Begun s (begun J s + 1)) I J l.journal.past (λ M. refl) (eq-eqb s s refl) p h.1

-- what may begin was not given up
allowed_living : (C : Config) (J : List (Entry LauncherEvent)) (s : ℕ) → Allows C J s next.Begin → given_up J s ≡ None
allowed_living C J s h =
    let all = and_parts (begun J s + 1 == begun J s + 1) (((tries J s == 0) || nat_lt (tries J s) C.retry) && not (is_dead J s)) h.1 in
    let rest = and_parts ((tries J s == 0) || nat_lt (tries J s) C.retry) (not (is_dead J s)) all.1 in
    not_given (given_up J s) (given_dead J s ∙ alive (is_dead J s) rest.1)
  where
    alive : (b : Bool) → not b ≡ true → b ≡ false
    alive true bad = let never : ⊥ = cc in absurd never
    alive false fine = refl

fell_living : (C : Config) (w s n : ℕ) (m : ℕ → ℕ) (I J : List (Entry LauncherEvent)) (f : Family) (K : List (Entry LauncherEvent)) (g : Family) (p : PendsTo w s m I J) (h : Fell C w s n J f K g) → (p.events ≡ []) ⊎ (given_up J s ≡ None)
    → ((fell_pends C w s n m I J f K g p h).events ≡ []) ⊎ (given_up K s ≡ None)
unfolding fell_pends
fell_living C w s zero m I J f K g p h living = subst (λ (x : List (Entry LauncherEvent)). (p.events ≡ []) ⊎ (given_up x s ≡ None)) (sym h.0) living
fell_living C w s (suc n) m I J f K g p h living = inr (ap (λ (x : List (Entry LauncherEvent)). given_up x s) h.4 ∙ allowed_living C h.0 s h.3)

goes_led : (C : Config) (w s : ℕ) (m : ℕ → ℕ) (I J : List (Entry LauncherEvent)) (f : Family) (answer : Launched) (l : LauncherIs) (p : PendsTo w s m I J) → (p.events ≡ []) ⊎ (given_up J s ≡ None) → m s ≡ begun l.journal.past s → Goes C w s J f answer l
    → LedTo w m (launch_starved answer) I l.journal.past
goes_led C w s m I J f answer l p living most h =
    end_led C w s m I h.mid answer l (fell_pends C w s h.failed m I J f h.mid h.told p h.fell) (fell_living C w s h.failed m I J f h.mid h.told p h.fell living) most h.ends

-- ---- each turn

-- of what was entered
owes_led : (w : ℕ) (m : ℕ → ℕ) (starved : Bool) (events : List LauncherEvent) (J : List (Entry LauncherEvent)) → turn_leads w m starved None events J ≡ true → turn_leads w m (owes starved events) None events J ≡ true
owes_led w m starved [] J h = refl
owes_led w m starved (e ∷ events) J h = h

turned : (w : ℕ) (m : ℕ → ℕ) (starved : Bool) (events : List LauncherEvent) (J K : List (Entry LauncherEvent)) → K ≡ entries_of w events ++ J → LedTo w m starved J K → turn_leads w m (owes starved events) None events J ≡ true
turned w m starved events J K enters led =
    owes_led w m starved events J (subst (λ (xs : List LauncherEvent). turn_leads w m starved None xs J ≡ true) (sym (told_events w events led.events J K enters led.is)) led.led)

module _ (C : Config) (w s : ℕ) (events : List LauncherEvent) where
  pub launch_led : (l : LauncherIs) (answer : Option Launched) (after : LauncherIs) → after.journal.past ≡ entries_of w events ++ l.journal.past → GoesIf C w s l answer after
      → turn_leads w (begun after.journal.past) (owes (starved_if answer) events) None events l.journal.past ≡ true
  launch_led l None after enters h = turned w (begun after.journal.past) false events l.journal.past after.journal.past enters (none_led w (begun after.journal.past) false l.journal.past after.journal.past (ap (λ (x : LauncherIs). x.journal.past) h.1))
  launch_led l (Some answer) after enters h =
      let m = begun after.journal.past in
      turned w m (launch_starved answer) events l.journal.past after.journal.past enters (goes_led C w s m l.journal.past l.journal.past l.crew.family answer after (none_pends w s m l.journal.past) (inl refl) refl h.1)

  pub asks_led : (J : List (Entry LauncherEvent)) (f : Family) (answer : Launched) (l : LauncherIs) → l.journal.past ≡ entries_of w events ++ J → GoesAsked C w s J f answer l
      → turn_leads w (begun l.journal.past) (owes (launch_starved answer) events) None events J ≡ true
  asks_led J f answer l enters (inl h) = turned w (begun l.journal.past) (launch_starved answer) events J l.journal.past enters (none_led w (begun l.journal.past) (launch_starved answer) J l.journal.past h.1)
  asks_led J f answer l enters (inr (inl h)) = turned w (begun l.journal.past) (launch_starved answer) events J l.journal.past enters (none_led w (begun l.journal.past) (launch_starved answer) J l.journal.past h.2)
  asks_led J f answer l enters (inr (inr h)) =
      let m = begun l.journal.past in
      turned w m (launch_starved answer) events J l.journal.past enters (goes_led C w s m J (with_entry w (event.Asked s) J) f answer l (asked_pends w s m J) (inr (rw (eq-eqb s s refl) refl)) refl h)

  module _ (k : ℕ) (J : List (Entry LauncherEvent)) (f : Family) (l : LauncherIs) (enters : l.journal.past ≡ entries_of w events ++ J) where
    abbrev m : ℕ → ℕ
    m = begun l.journal.past

    -- where a launch follows
    fallen_led : (answer : Launched) → given_up J s ≡ None → Goes C w s (with_entry w (event.Crashed s k) J) f answer l → LedTo w m (launch_starved answer) J l.journal.past
    fallen_led answer living h = goes_led C w s m J (with_entry w (event.Crashed s k) J) f answer l (crashed_pends w s k m J) (inr living) refl h

    later_led : (j : ℕ) → j ≡ begun J s → k < j → l.journal.past ≡ with_entry w (event.Crashed s k) J → LedTo w m false J l.journal.past
    later_led j is less past = record {
      events = event.Crashed s k ∷ [];
      is = past;
      led = and_from (not (k == begun J s) || is_served m false None s) true (true_or (not (k == begun J s)) (is_served m false None s) (ap not (ne_eqb k (begun J s) (λ same. apart same)))) refl;
    }
      where
        apart : k ≡ begun J s → ⊥
        apart same = omega (arith, same, is, less)

    crash_led_by : (answer : Crashed) → GoesCrashed C w s k J f answer l → LedTo w m (crash_starved answer) J l.journal.past
    crash_led_by (crashed.Up j) h = up_led h.1
      where
        up_led : Goes C w s (with_entry w (event.Crashed s k) J) f (launched.Up j) l → LedTo w m false J l.journal.past
        up_led g = end_up g (fell_pends C w s g.failed m J (with_entry w (event.Crashed s k) J) f g.mid g.told (crashed_pends w s k m J) g.fell)
          where
            end_up : (g : Goes C w s (with_entry w (event.Crashed s k) J) f (launched.Up j) l) → PendsTo w s m J g.mid → LedTo w m false J l.journal.past
            end_up g p = settles_led w s m false (event.Begun s (begun g.mid s + 1)) J g.mid l.journal.past (λ M. refl) (eq-eqb s s refl) p g.ends.2
    crash_led_by (crashed.Dead n) (is, inl h) = fallen_led (launched.Dead n) h.0 h.1
    crash_led_by (crashed.Dead n) (is, inr h) = settles_led w s m false (event.Dead s n) J (with_entry w (event.Crashed s k) J) l.journal.past (λ M. refl) (eq-eqb s s refl) (crashed_pends w s k m J) h.1.1
    crash_led_by crashed.Spent h = spent_led h.1
      where
        spent_led : Goes C w s (with_entry w (event.Crashed s k) J) f launched.Spent l → LedTo w m false J l.journal.past
        spent_led g = end_led C w s m J g.mid launched.Spent l (fell_pends C w s g.failed m J (with_entry w (event.Crashed s k) J) f g.mid g.told (crashed_pends w s k m J) g.fell) (inr g.ends.0.0) refl g.ends
    crash_led_by (crashed.Later j) h = later_led j h.0 h.1 h.2
    crash_led_by crashed.NoMemory (inl h) = none_led w m true J l.journal.past h
    crash_led_by crashed.NoMemory (inr h) = starved_led h.1
      where
        starved_led : Goes C w s (with_entry w (event.Crashed s k) J) f launched.NoMemory l → LedTo w m true J l.journal.past
        starved_led g = by (fell_pends C w s g.failed m J (with_entry w (event.Crashed s k) J) f g.mid g.told (crashed_pends w s k m J) g.fell) g.ends
          where
            by : PendsTo w s m J g.mid → Ends C w s g.mid launched.NoMemory l → LedTo w m true J l.journal.past
            by p (inl h) = ends_led w s m true J g.mid l.journal.past p h refl
            by p (inr h) = settles_led w s m true (event.Begun s (begun g.mid s + 1)) J g.mid l.journal.past (λ M. refl) (eq-eqb s s refl) p h.1

    pub crash_led : (answer : Crashed) → GoesCrashed C w s k J f answer l → turn_leads w (begun l.journal.past) (owes (crash_starved answer) events) None events J ≡ true
    crash_led answer h = turned w m (crash_starved answer) events J l.journal.past enters (crash_led_by answer h)

  tends_by : (old : LauncherIs) (answer : Launched) (l : LauncherIs) → Tends C w s old answer l → LedTo w (begun l.journal.past) (launch_starved answer) old.journal.past l.journal.past
  tends_by old answer l (inl h) =
      let m = begun l.journal.past in goes_led C w s m old.journal.past old.journal.past old.crew.family answer l (none_pends w s m old.journal.past) (inl refl) refl h.1
  tends_by old answer l (inr h) =
      let m = begun l.journal.past in
      goes_led C w s m old.journal.past (with_entry w (event.Crashed s (up_in old s)) old.journal.past) old.crew.family answer l (crashed_pends w s (up_in old s) m old.journal.past) (inr h.0.living) refl h.1

  tended_by : (old : LauncherIs) (answer : Tended) (l : LauncherIs) → GoesTended C w s old answer l → LedTo w (begun l.journal.past) (tend_starved answer) old.journal.past l.journal.past
  tended_by old tended.Alive l h = none_led w (begun l.journal.past) false old.journal.past l.journal.past h.0
  tended_by old (tended.Up k) l h = tends_by old (launched.Up k) l h
  tended_by old (tended.Dead n) l (inl h) = none_led w (begun l.journal.past) false old.journal.past l.journal.past h.1
  tended_by old (tended.Dead n) l (inr h) = tends_by old (launched.Dead n) l h
  tended_by old tended.Spent l h = tends_by old launched.Spent l h
  tended_by old tended.NoMemory l (inl h) = none_led w (begun l.journal.past) true old.journal.past l.journal.past h
  tended_by old tended.NoMemory l (inr h) = tends_by old launched.NoMemory l h

  pub tend_led : (old : LauncherIs) (answer : Tended) (l : LauncherIs) → l.journal.past ≡ entries_of w events ++ old.journal.past → GoesTended C w s old answer l
      → turn_leads w (begun l.journal.past) (owes (tend_starved answer) events) None events old.journal.past ≡ true
  tend_led old answer l enters h = turned w (begun l.journal.past) (tend_starved answer) events old.journal.past l.journal.past enters (tended_by old answer l h)
