-- What a turn at the launcher enters: its first event, and that nothing else in it was asked for by the operator, or is a crash.
use Rattle.std.proofs.Common.{◌≡◌, inl, inr, ℕ, zero, suc, ◌+◌, Bool, true, false, List, [], ◌∷◌, ◌++◌, map, refl, sym, ap, ◌∙◌, subst}
use Rattle.std.proofs.lemmas.List.{append_cancel_right}
use Rattle.std.proofs.lemmas.List.Folds.{list_any-append}
use Rattle.std.specs.List.{list_any}
use Rattle.std.specs.Prelude.{◌⊎◌, ◌||◌, is_some}
use Rattle.okws_base.specs.declared.journal.Entry.{Entry}
use Rattle.okws_plan.specs.declared.configuration.Config.{Config}
use Rattle.okws_plan.specs.declared.event.LauncherEvent.{LauncherEvent}
use Rattle.okws_plan.specs.declared.event.LauncherEvent.TheVariants as event
use Rattle.okws_outer.specs.Families.{Family}
use Rattle.monitor_model.specs.Launcher.{begun}
use Rattle.monitor_model.specs.Outside.{launcher_order}
use Rattle.okld_launch.specs.Entering.{entries_of}
use Rattle.okld_launch.specs.Going.{Ends, Fell, Goes, GoesAsked, GoesCrashed, GoesTended, Tends, with_begun, with_entry}
use Rattle.okld_launch.specs.Launchers.{LauncherIs, up_in}
use Rattle.okld_launch.specs.declared.answer.Launched.{Launched}
use Rattle.okld_launch.specs.declared.answer.Launched.TheVariants as launched
use Rattle.okld_launch.specs.declared.answer.Crashed.{Crashed}
use Rattle.okld_launch.specs.declared.answer.Crashed.TheVariants as crashed
use Rattle.okld_launch.specs.declared.answer.Tended.{Tended}
use Rattle.okld_launch.specs.declared.answer.Tended.TheVariants as tended

-- the event carries out an order
abbrev pub is_asked : LauncherEvent → Bool
is_asked e = is_some (launcher_order e)

-- the event is a crash
abbrev pub is_crashed : LauncherEvent → Bool
is_crashed (event.Begun s k) = false
is_crashed (event.Failed s k) = false
is_crashed (event.Crashed s k) = true
is_crashed (event.Dead s n) = false
is_crashed (event.Asked s) = false

-- number w entered these events, the newest first, none of which was asked for or is a crash
pub record Adds (w : ℕ) (J K : List (Entry LauncherEvent)) : Type 0 where
  pub events : List LauncherEvent
  pub is : K ≡ entries_of w events ++ J
  pub unasked : list_any is_asked events ≡ false
  pub calm : list_any is_crashed events ≡ false

pub none : (w : ℕ) (J K : List (Entry LauncherEvent)) → K ≡ J → Adds w J K
none w J K is = record { events = []; is = is; unasked = refl; calm = refl }

one : (w : ℕ) (e : LauncherEvent) (I J K : List (Entry LauncherEvent)) → Adds w I J → is_asked e ≡ false → is_crashed e ≡ false → K ≡ with_entry w e J → Adds w I K
one w e I J K adds unasked calm is = record {
  events = e ∷ adds.events;
  is = is ∙ ap (with_entry w e) adds.is;
  unasked = rw (unasked) adds.unasked;
  calm = rw (calm) adds.calm;
}

fell_adds : (C : Config) (w s n : ℕ) (J : List (Entry LauncherEvent)) (f : Family) (K : List (Entry LauncherEvent)) (g : Family) → Fell C w s n J f K g → Adds w J K
fell_adds C w s zero J f K g h = none w J K h.0
fell_adds C w s (suc n) J f K g h =
    let before : Adds w J h.0 = fell_adds C w s n J f h.0 h.1 h.2 in
    let begins : Adds w J (with_begun w s h.0) = one w (event.Begun s (begun h.0 s + 1)) J h.0 (with_begun w s h.0) before refl refl refl in
    one w (event.Failed s (begun h.0 s + 1)) J (with_begun w s h.0) K begins refl refl h.4

ends_adds : (C : Config) (w s : ℕ) (I J : List (Entry LauncherEvent)) (answer : Launched) (l : LauncherIs) → Adds w I J → Ends C w s J answer l → Adds w I l.journal.past
ends_adds C w s I J (launched.Up k) l adds h = one w (event.Begun s (begun J s + 1)) I J l.journal.past adds refl refl h.2
ends_adds C w s I J (launched.Dead n) l adds (inl h) = subst (Adds w I) (sym h.1) adds
ends_adds C w s I J (launched.Dead n) l adds (inr h) = one w (event.Dead s n) I J l.journal.past adds refl refl h.2
ends_adds C w s I J launched.Spent l adds h = subst (Adds w I) (sym h.1) adds
ends_adds C w s I J launched.NoMemory l adds (inl h) = subst (Adds w I) (sym h) adds
ends_adds C w s I J launched.NoMemory l adds (inr h) = one w (event.Begun s (begun J s + 1)) I J l.journal.past adds refl refl h.1

pub goes_adds : (C : Config) (w s : ℕ) (J : List (Entry LauncherEvent)) (f : Family) (answer : Launched) (l : LauncherIs) → Goes C w s J f answer l → Adds w J l.journal.past
goes_adds C w s J f answer l h = ends_adds C w s J h.mid answer l (fell_adds C w s h.failed J f h.mid h.told h.fell) h.ends

-- ---- which events these are

same_events : (w : ℕ) (xs ys : List LauncherEvent) → entries_of w xs ≡ entries_of w ys → xs ≡ ys
same_events w xs ys is = sym (back xs) ∙ ap (map (λ (e : Entry LauncherEvent). e.event)) is ∙ back ys
  where
    back : (zs : List LauncherEvent) → map (λ (e : Entry LauncherEvent). e.event) (entries_of w zs) ≡ zs
    back [] = refl
    back (z ∷ zs) = ap (λ (rest : List LauncherEvent). z ∷ rest) (back zs)

pub told_events : (w : ℕ) (events xs : List LauncherEvent) (J K : List (Entry LauncherEvent)) → K ≡ entries_of w events ++ J → K ≡ entries_of w xs ++ J → events ≡ xs
told_events w events xs J K enters is = same_events w events xs (append_cancel_right (entries_of w events) (entries_of w xs) J (sym enters ∙ is))

behind : (w : ℕ) (xs : List LauncherEvent) (e : LauncherEvent) (J : List (Entry LauncherEvent)) → entries_of w xs ++ with_entry w e J ≡ entries_of w (xs ++ e ∷ []) ++ J
behind w [] e J = refl
behind w (x ∷ xs) e J = ap (with_entry w x) (behind w xs e J)

none_both : (p : LauncherEvent → Bool) (xs : List LauncherEvent) (e : LauncherEvent) → list_any p xs ≡ false → p e ≡ false → list_any p (xs ++ e ∷ []) ≡ false
none_both p xs e a b = list_any-append p xs (e ∷ []) ∙ ap (λ (c : Bool). c || list_any p (e ∷ [])) a ∙ rw (b) refl

-- what a turn entered behind a first event, if it had one: no crash
pub record Entered (first : LauncherEvent) (events : List LauncherEvent) : Type 0 where
  pub more : List LauncherEvent
  pub is : events ≡ more ++ first ∷ []
  pub calm : list_any is_crashed more ≡ false

-- what was entered behind a first event, if that was, of which nothing was asked for, nor is a crash
pub record Behind (first : LauncherEvent) (events : List LauncherEvent) : Type 0 where
  pub more : List LauncherEvent
  pub is : events ≡ more ++ first ∷ []
  pub unasked : list_any is_asked more ≡ false
  pub calm : list_any is_crashed more ≡ false

adds_behind : (w : ℕ) (e : LauncherEvent) (events : List LauncherEvent) (J K : List (Entry LauncherEvent)) → K ≡ entries_of w events ++ J → Adds w (with_entry w e J) K → Behind e events
adds_behind w e events J K enters adds = record {
  more = adds.events;
  is = told_events w events (adds.events ++ e ∷ []) J K enters (adds.is ∙ behind w adds.events e J);
  unasked = adds.unasked;
  calm = adds.calm;
}

entered_behind : (w : ℕ) (e : LauncherEvent) (events : List LauncherEvent) (J K : List (Entry LauncherEvent)) → is_asked e ≡ false → K ≡ entries_of w events ++ J → Adds w (with_entry w e J) K
    → Entered e events × (list_any is_asked events ≡ false)
entered_behind w e events J K unasked enters adds =
    let it : Behind e events = adds_behind w e events J K enters adds in
    (record { more = it.more; is = it.is; calm = it.calm }, subst (λ (xs : List LauncherEvent). list_any is_asked xs ≡ false) (sym it.is) (none_both is_asked it.more e it.unasked unasked))

-- ---- a crash

-- the first event of a turn that was told of a crash is the crash; or nothing was entered, and memory was refused
abbrev pub BeginsWithCrash : ℕ → ℕ → List LauncherEvent → Crashed → Type 0
BeginsWithCrash s k events answer = ((answer ≡ crashed.NoMemory) × (events ≡ [])) ⊎ Entered (event.Crashed s k) events

pub crash_entered : (C : Config) (w s k : ℕ) (J : List (Entry LauncherEvent)) (f : Family) (events : List LauncherEvent) (answer : Crashed) (l : LauncherIs) → l.journal.past ≡ entries_of w events ++ J
    → GoesCrashed C w s k J f answer l → BeginsWithCrash s k events answer × (list_any is_asked events ≡ false)
crash_entered C w s k J f events (crashed.Up j) l enters h =
    let it = entered_behind w (event.Crashed s k) events J l.journal.past refl enters (goes_adds C w s (with_entry w (event.Crashed s k) J) f (launched.Up j) l h.1) in (inr it.0, it.1)
crash_entered C w s k J f events (crashed.Dead n) l enters (is, inl h) =
    let it = entered_behind w (event.Crashed s k) events J l.journal.past refl enters (goes_adds C w s (with_entry w (event.Crashed s k) J) f (launched.Dead n) l h.1) in (inr it.0, it.1)
crash_entered C w s k J f events (crashed.Dead n) l enters (is, inr h) =
    let J1 = with_entry w (event.Crashed s k) J in
    let it = entered_behind w (event.Crashed s k) events J l.journal.past refl enters (one w (event.Dead s n) J1 J1 l.journal.past (none w J1 J1 refl) refl refl h.1.1) in (inr it.0, it.1)
crash_entered C w s k J f events crashed.Spent l enters h =
    let it = entered_behind w (event.Crashed s k) events J l.journal.past refl enters (goes_adds C w s (with_entry w (event.Crashed s k) J) f launched.Spent l h.1) in (inr it.0, it.1)
crash_entered C w s k J f events (crashed.Later j) l enters h =
    let it = entered_behind w (event.Crashed s k) events J l.journal.past refl enters (none w (with_entry w (event.Crashed s k) J) l.journal.past h.2) in (inr it.0, it.1)
crash_entered C w s k J f events crashed.NoMemory l enters (inl h) =
    let is : events ≡ [] = told_events w events [] J l.journal.past enters h in
    (inl (refl, is), subst (λ (xs : List LauncherEvent). list_any is_asked xs ≡ false) (sym is) refl)
crash_entered C w s k J f events crashed.NoMemory l enters (inr h) =
    let it = entered_behind w (event.Crashed s k) events J l.journal.past refl enters (goes_adds C w s (with_entry w (event.Crashed s k) J) f launched.NoMemory l h.1) in (inr it.0, it.1)

-- ---- looking after a service

pub unasked_of : (w : ℕ) (J K : List (Entry LauncherEvent)) (events : List LauncherEvent) → K ≡ entries_of w events ++ J → Adds w J K → list_any is_asked events ≡ false
unasked_of w J K events enters adds = subst (λ (xs : List LauncherEvent). list_any is_asked xs ≡ false) (sym (told_events w events adds.events J K enters adds.is)) adds.unasked

pub calm_of : (w : ℕ) (J K : List (Entry LauncherEvent)) (events : List LauncherEvent) → K ≡ entries_of w events ++ J → Adds w J K → list_any is_crashed events ≡ false
calm_of w J K events enters adds = subst (λ (xs : List LauncherEvent). list_any is_crashed xs ≡ false) (sym (told_events w events adds.events J K enters adds.is)) adds.calm

-- nothing of a turn that looked after s was asked for, and it entered no crash, or one that it begins with
pub record Looks (s : ℕ) (events : List LauncherEvent) : Type 0 where
  pub unasked : list_any is_asked events ≡ false
  pub crashes : (list_any is_crashed events ≡ false) ⊎ ((k : ℕ) × Entered (event.Crashed s k) events)

adds_looks : (w s : ℕ) (J K : List (Entry LauncherEvent)) (events : List LauncherEvent) → K ≡ entries_of w events ++ J → Adds w J K → Looks s events
adds_looks w s J K events enters adds = record { unasked = unasked_of w J K events enters adds; crashes = inl (calm_of w J K events enters adds) }

tends_looks : (C : Config) (w s : ℕ) (old : LauncherIs) (answer : Launched) (new : LauncherIs) (events : List LauncherEvent) → new.journal.past ≡ entries_of w events ++ old.journal.past
    → Tends C w s old answer new → Looks s events
tends_looks C w s old answer new events enters (inl h) =
    adds_looks w s old.journal.past new.journal.past events enters (goes_adds C w s old.journal.past old.crew.family answer new h.1)
tends_looks C w s old answer new events enters (inr h) =
    let it = entered_behind w (event.Crashed s (up_in old s)) events old.journal.past new.journal.past refl enters (goes_adds C w s (with_entry w (event.Crashed s (up_in old s)) old.journal.past) old.crew.family answer new h.1) in
    record { unasked = it.1; crashes = inr (up_in old s, it.0) }

pub tended_looks : (C : Config) (w s : ℕ) (old : LauncherIs) (answer : Tended) (new : LauncherIs) (events : List LauncherEvent) → new.journal.past ≡ entries_of w events ++ old.journal.past
    → GoesTended C w s old answer new → Looks s events
tended_looks C w s old tended.Alive new events enters h = adds_looks w s old.journal.past new.journal.past events enters (none w old.journal.past new.journal.past h.0)
tended_looks C w s old (tended.Up k) new events enters h = tends_looks C w s old (launched.Up k) new events enters h
tended_looks C w s old (tended.Dead n) new events enters (inl h) = adds_looks w s old.journal.past new.journal.past events enters (none w old.journal.past new.journal.past h.1)
tended_looks C w s old (tended.Dead n) new events enters (inr h) = tends_looks C w s old (launched.Dead n) new events enters h
tended_looks C w s old tended.Spent new events enters h = tends_looks C w s old launched.Spent new events enters h
tended_looks C w s old tended.NoMemory new events enters (inl h) = adds_looks w s old.journal.past new.journal.past events enters (none w old.journal.past new.journal.past h)
tended_looks C w s old tended.NoMemory new events enters (inr h) = tends_looks C w s old launched.NoMemory new events enters h

-- ---- what an operator asks for

-- the first event of a turn that an operator asked for is the Asked, and no other is one; or nothing was entered, since all incarnations of the service were begun or memory was refused
abbrev pub BeginsWithAsked : ℕ → List LauncherEvent → Launched → Type 0
BeginsWithAsked s events answer = (((answer ≡ launched.NoMemory) ⊎ (answer ≡ launched.Spent)) × (events ≡ [])) ⊎ Behind (event.Asked s) events

pub asked_entered : (C : Config) (w s : ℕ) (J : List (Entry LauncherEvent)) (f : Family) (events : List LauncherEvent) (answer : Launched) (l : LauncherIs) → l.journal.past ≡ entries_of w events ++ J
    → GoesAsked C w s J f answer l → BeginsWithAsked s events answer
asked_entered C w s J f events answer l enters (inl h) = inl (inl h.0, told_events w events [] J l.journal.past enters h.1)
asked_entered C w s J f events answer l enters (inr (inl h)) = inl (inr h.0, told_events w events [] J l.journal.past enters h.2)
asked_entered C w s J f events answer l enters (inr (inr h)) =
    inr (adds_behind w (event.Asked s) events J l.journal.past enters (goes_adds C w s (with_entry w (event.Asked s) J) f answer l h))

-- no crash is entered in it
pub asked_calm : (s : ℕ) (events : List LauncherEvent) (answer : Launched) → BeginsWithAsked s events answer → list_any is_crashed events ≡ false
asked_calm s events answer (inl h) = subst (λ (xs : List LauncherEvent). list_any is_crashed xs ≡ false) (sym h.1) refl
asked_calm s events answer (inr h) = subst (λ (xs : List LauncherEvent). list_any is_crashed xs ≡ false) (sym h.is) (none_both is_crashed h.more (event.Asked s) h.calm refl)
