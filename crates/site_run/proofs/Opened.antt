-- That the services are launched one after the other, in a turn each, where nobody else takes a turn at the launcher.
use Rattle.std.proofs.Common.{◌≡◌, ◌≢◌, ◌∙◌, inl, inr, ⊎_elim, ℕ, zero, suc, ◌+◌, ◌<◌, ◌≤◌, Bool, true, false, List, [], ◌∷◌, ◌++◌, Option, Some, None, length, map, refl, sym, ap, subst, arith, eq-eqb, ne_eqb}
use Rattle.std.proofs.lemmas.Bool.{true≢false, cases_eq}
use Rattle.std.proofs.lemmas.List.{append_cancel_right}
use Rattle.std.specs.Prelude.{◌==◌, ◌&&◌, ◌||◌, max, if◌then◌else◌}
use Rattle.okws_base.specs.Turns.{of, Behind}
use Rattle.okws_base.specs.declared.journal.Entry.{Entry}
use Rattle.okws_base.specs.declared.limit.TheConstants.{GREATEST_RETRY}
use Rattle.okws_plan.specs.declared.configuration.Config.{Config}
use Rattle.okws_plan.specs.declared.event.LauncherEvent.{LauncherEvent}
use Rattle.okws_plan.specs.declared.event.LauncherEvent.TheVariants as event
use Rattle.okws_outer.specs.Families.{Family}
use Rattle.monitor_model.specs.declared.record.Own.{Own}
use Rattle.monitor_model.specs.declared.record.Own.TheVariants as own
use Rattle.monitor_model.specs.Launcher.{begun}
use Rattle.monitor_model.specs.Launches.{is_begun_of}
use Rattle.launch_journal.specs.Launches.{given_up}
use Rattle.launch_turns.specs.Deeds.{by_deed, entries, up_in}
use Rattle.okld_launch.specs.Ups.{is_one, launch_up, launch_up_if, newest}
use Rattle.launch_turns.specs.declared.deed.Deed.{Deed}
use Rattle.okld_launch.specs.Entering.{Enters, entries_of, failed_from}
use Rattle.okld_launch.specs.Going.{Ends, Fell, Goes, with_begun, with_entry, GoesIf}
use Rattle.okld_launch.specs.Launchers.{LauncherIs, TriedAreBegun, up_in as up_now}
use Rattle.launch_turns.specs.Turns.{InTurn}
use Rattle.okld_launch.specs.declared.answer.Launched.{Launched}
use Rattle.okld_launch.specs.declared.answer.Launched.TheVariants as launched
use Rattle.okld_launch.proofs.Counting.{fell_begun, fell_enters, fell_few}
use Rattle.site_run.specs.Opening.{Outcome, CameUp, Died, Waited, BrokeOff, Opening, Opens, IsAlone, all_events, end_events, is_up, opening_events, opening_items, ups_of, wants}
use Rattle.site_run.specs.Tied.{IsNotedWhere}

-- ---- nobody else took a turn

module _ {E : Type 0} where
  -- of a list that is empty nothing was taken
  none_first : (b : Bool) (e : E) (rest : List E) → (if b then e ∷ rest else rest) ≡ [] → (b ≡ false) × (rest ≡ [])
  none_first true e rest h = let never : ⊥ = cc in absurd never
  none_first false e rest h = (refl, h)

pub alone_behind : (w : ℕ) (more seen : List Deed) → IsAlone w (more ++ seen) → IsAlone w seen
alone_behind w [] seen h = h
alone_behind w (d ∷ more) seen h = alone_behind w more seen (λ k apart. (none_first (by_deed d == k) d (of by_deed k (more ++ seen)) (h k apart)).1)

-- what others took turns for is nothing
nothing_new : (w : ℕ) (more seen : List Deed) → IsAlone w (more ++ seen) → of by_deed w more ≡ [] → more ≡ []
nothing_new w [] seen h none = refl
nothing_new w (d ∷ more) seen h none = ⊎_elim
    (λ (same : by_deed d ≡ w). absurd (true≢false (sym (eq-eqb (by_deed d) w same) ∙ (none_first (by_deed d == w) d (of by_deed w more) none).0)))
    (λ (apart : by_deed d ≢ w). absurd (true≢false (sym (eq-eqb (by_deed d) (by_deed d) refl) ∙ (none_first (by_deed d == by_deed d) d (of by_deed (by_deed d) (more ++ seen)) (h (by_deed d) apart)).0)))
    (cases_eq (by_deed d) w)

-- ---- of a service that wasn't launched yet nothing was entered

-- the service of an event
abbrev service_in : LauncherEvent → ℕ
service_in (event.Begun s k) = s
service_in (event.Failed s k) = s
service_in (event.Crashed s k) = s
service_in (event.Dead s n) = s
service_in (event.Asked s) = s

-- the events are of services below m
abbrev AllBelow : ℕ → List LauncherEvent → Type 0
AllBelow m [] = Unit {0}
AllBelow m (e ∷ events) = (service_in e < m) × AllBelow m events

below_both : (m : ℕ) (xs ys : List LauncherEvent) → AllBelow m xs → AllBelow m ys → AllBelow m (xs ++ ys)
below_both m [] ys h i = i
below_both m (x ∷ xs) ys h i = (h.0, below_both m xs ys h.1 i)

below_more : (m : ℕ) (xs : List LauncherEvent) → AllBelow m xs → AllBelow (suc m) xs
below_more m [] h = tt
below_more m (x ∷ xs) h = (omega (arith, h.0), below_more m xs h.1)

fails_below : (s k n : ℕ) → AllBelow (suc s) (failed_from s k n)
fails_below s k zero = tt
fails_below s k (suc n) = (omega arith, (omega arith, fails_below s k n))

ends_below : (s k : ℕ) (outcome : Outcome) → AllBelow (suc s) (end_events s k outcome)
ends_below s k CameUp = (omega arith, tt)
ends_below s k (Died n) = (omega arith, tt)
ends_below s k Waited = tt
ends_below s k BrokeOff = (omega arith, tt)

all_below : (os : List Opening) → AllBelow (length os) (all_events os)
all_below [] = tt
all_below (o ∷ os) =
    let s = length os in
    below_both (suc s) (opening_events s o) (all_events os)
    (below_both (suc s) (end_events s (o.failed + 1) o.outcome) (failed_from s 1 o.failed) (ends_below s (o.failed + 1) o.outcome) (fails_below s 1 o.failed))
    (below_more s (all_events os) (all_below os))

unbegun : (w t : ℕ) (events : List LauncherEvent) → AllBelow t events → begun (entries_of w events) t ≡ 0
unbegun w t [] h = refl
unbegun w t (event.Begun s k ∷ events) h =
    let rest = unbegun w t events h.1 in
    ap (λ (b : Bool). if b then max k (begun (entries_of w events) t) else begun (entries_of w events) t) (ne_eqb s t (λ is. omega (arith, is, h.0))) ∙ rest
unbegun w t (event.Failed s k ∷ events) h = unbegun w t events h.1
unbegun w t (event.Crashed s k ∷ events) h = unbegun w t events h.1
unbegun w t (event.Dead s n ∷ events) h = unbegun w t events h.1
unbegun w t (event.Asked s ∷ events) h = unbegun w t events h.1

not_given_up : (w t : ℕ) (events : List LauncherEvent) → AllBelow t events → given_up (entries_of w events) t ≡ None
not_given_up w t [] h = refl
not_given_up w t (event.Begun s k ∷ events) h = not_given_up w t events h.1
not_given_up w t (event.Failed s k ∷ events) h = not_given_up w t events h.1
not_given_up w t (event.Crashed s k ∷ events) h = not_given_up w t events h.1
not_given_up w t (event.Dead s n ∷ events) h =
    let rest = not_given_up w t events h.1 in
    ap (λ (b : Bool). if b then Some n else given_up (entries_of w events) t) (ne_eqb s t (λ is. omega (arith, is, h.0))) ∙ rest
not_given_up w t (event.Asked s ∷ events) h =
    let rest = not_given_up w t events h.1 in
    ap (λ (b : Bool). if b then None else given_up (entries_of w events) t) (ne_eqb s t (λ is. omega (arith, is, h.0))) ∙ rest

-- attempts that failed give nothing up
fell_given : (C : Config) (w s n : ℕ) (J : List (Entry LauncherEvent)) (f : Family) (K : List (Entry LauncherEvent)) (g : Family) → Fell C w s n J f K g → given_up K s ≡ given_up J s
fell_given C w s zero J f K g h = ap (λ I. given_up I s) h.0
fell_given C w s (suc n) J f K g h = ap (λ I. given_up I s) h.4 ∙ fell_given C w s n J f h.0 h.1 h.2

-- ---- one launch

unentered : (w : ℕ) (events : List LauncherEvent) → map (λ (e : Entry LauncherEvent). e.event) (entries_of w events) ≡ events
unentered w [] = refl
unentered w (e ∷ events) = ap (λ (es : List LauncherEvent). e ∷ es) (unentered w events)

same_events : (w : ℕ) (events xs : List LauncherEvent) (J K : List (Entry LauncherEvent)) → Enters w events J K → Enters w xs J K → events ≡ xs
same_events w events xs J K p q =
    sym (unentered w events) ∙ (ap (map (λ (e : Entry LauncherEvent). e.event)) (append_cancel_right (entries_of w events) (entries_of w xs) J (sym p ∙ q)) ∙ unentered w xs)

-- these events are those of a first launch, with NoMemory where memory was refused; the turn tells whether the last one is the Begun of what came up
record IsOpening (s : ℕ) (events : List LauncherEvent) (up starved : Bool) : Type 0 where
  opening : Opening
  events_are : events ≡ opening_events s opening
  items_are : (items now : List Own) → IsNotedWhere starved (map own.Launcher events ++ items) now → now ≡ opening_items s opening ++ items
  ups_are : (t j : ℕ) → (up && is_one (is_begun_of t j) (newest events)) ≡ (is_up opening.outcome && ((s == t) && (opening.failed + 1 == j)))

-- by its events
opening_is : (s n : ℕ) (outcome : Outcome) (events : List LauncherEvent) (up starved : Bool) → events ≡ opening_events s (record { failed = n; outcome = outcome })
    → ((items now : List Own) → IsNotedWhere starved (map own.Launcher (opening_events s (record { failed = n; outcome = outcome })) ++ items) now → now ≡ opening_items s (record { failed = n; outcome = outcome }) ++ items)
    → ((t j : ℕ) → (up && is_one (is_begun_of t j) (newest (opening_events s (record { failed = n; outcome = outcome })))) ≡ (is_up outcome && ((s == t) && (n + 1 == j))))
    → IsOpening s events up starved
opening_is s n outcome events up starved is noted told = record {
  opening = record { failed = n; outcome = outcome };
  events_are = is;
  items_are = λ items now h. noted items now (subst (λ es. IsNotedWhere starved (map own.Launcher es ++ items) now) is h);
  ups_are = λ t j. ap (λ es. up && is_one (is_begun_of t j) (newest es)) is ∙ told t j;
}

module _ (C : Config) (w s : ℕ) (events : List LauncherEvent) (before after : LauncherIs) (enters : Enters w events before.journal.past after.journal.past) (retry : C.retry ≤ GREATEST_RETRY)
    (begun_none : begun before.journal.past s ≡ 0) (not_dead : given_up before.journal.past s ≡ None) (tried : TriedAreBegun before.journal.past) where
  -- what its attempts that failed entered
  fails : (answer : Launched) (h : Goes C w s before.journal.past before.crew.family answer after) → Enters w (failed_from s 1 h.failed) before.journal.past h.mid
  fails answer h =
      subst (λ k. Enters w (failed_from s (k + 1) h.failed) before.journal.past h.mid) begun_none (fell_enters C w s h.failed before.journal.past before.crew.family h.mid h.told h.fell)

  next_is : (answer : Launched) (h : Goes C w s before.journal.past before.crew.family answer after) → begun h.mid s + 1 ≡ h.failed + 1
  next_is answer h = let m = fell_begun C w s h.failed before.journal.past before.crew.family h.mid h.told h.fell in omega (arith, m, begun_none)

  -- and then one more event
  then_one : (answer : Launched) (h : Goes C w s before.journal.past before.crew.family answer after) (e : LauncherEvent) → after.journal.past ≡ with_entry w e h.mid → events ≡ e ∷ failed_from s 1 h.failed
  then_one answer h e is = same_events w events (e ∷ failed_from s 1 h.failed) before.journal.past after.journal.past enters (is ∙ ap (with_entry w e) (fails answer h))

  then_begun : (answer : Launched) (h : Goes C w s before.journal.past before.crew.family answer after) → after.journal.past ≡ with_begun w s h.mid → events ≡ event.Begun s (h.failed + 1) ∷ failed_from s 1 h.failed
  then_begun answer h is = then_one answer h (event.Begun s (h.failed + 1)) (is ∙ ap (λ k. with_entry w (event.Begun s k) h.mid) (next_is answer h))

  then_none : (answer : Launched) (h : Goes C w s before.journal.past before.crew.family answer after) → after.journal.past ≡ h.mid → events ≡ failed_from s 1 h.failed
  then_none answer h is = same_events w events (failed_from s 1 h.failed) before.journal.past after.journal.past enters (is ∙ fails answer h)

  goes_opening : (answer : Launched) (h : Goes C w s before.journal.past before.crew.family answer after) → Ends C w s h.mid answer after → IsOpening s events (launch_up answer) (wants (Some answer))
  goes_opening (launched.Up k) h ends = opening_is s h.failed CameUp events true false (then_begun (launched.Up k) h ends.2) (λ items now noted. noted) (λ t j. refl)
  goes_opening (launched.Dead n) h (inl ends) =
      let none : Some n ≡ None = sym ends.0 ∙ (fell_given C w s h.failed before.journal.past before.crew.family h.mid h.told h.fell ∙ not_dead) in
      let never : ⊥ = cc in
      absurd never
  goes_opening (launched.Dead n) h (inr ends) = opening_is s h.failed (Died n) events false false (then_one (launched.Dead n) h (event.Dead s n) ends.2) (λ items now noted. noted) (λ t j. refl)
  goes_opening launched.Spent h ends =
      let most : begun h.mid s ≡ 1000000 = ends.0.2 in
      let least : C.retry ≤ 1000 = retry in
      let few : h.failed ≤ max C.retry 1 = fell_few C w s h.failed before.journal.past before.crew.family h.mid h.told tried h.fell in
      let next = next_is launched.Spent h in
      absurd (omega (arith, most, least, few, next))
  goes_opening launched.NoMemory h (inl ends) = opening_is s h.failed Waited events false true (then_none launched.NoMemory h ends) (λ items now noted. noted) (λ t j. refl)
  goes_opening launched.NoMemory h (inr ends) = opening_is s h.failed BrokeOff events false true (then_begun launched.NoMemory h ends.1) (λ items now noted. noted) (λ t j. refl)

  turn_opening : (answer : Option Launched) → up_now before s ≤ begun before.journal.past s → GoesIf C w s before answer after → IsOpening s events (launch_up_if answer) (wants answer)
  turn_opening None least h = absurd (omega (arith, begun_none, least, h.0))
  turn_opening (Some answer) least h = goes_opening answer h.1 h.1.ends

entries_then : (w : ℕ) (xs ys : List LauncherEvent) → entries_of w (xs ++ ys) ≡ entries_of w xs ++ entries_of w ys
entries_then w [] ys = refl
entries_then w (x ∷ xs) ys = ap (with_entry w x) (entries_then w xs ys)

-- a turn of w, in which the next service is launched, and what w notes of it
pub launch_opened : (C : Config) (w s : ℕ) (answer : Option Launched) (events : List LauncherEvent) (starved : Bool) (items mid now : List Own) (seen : List Deed) (before after : LauncherIs) (last : List Deed) (os : List Opening)
    → starved ≡ wants answer → C.retry ≤ GREATEST_RETRY → InTurn C w seen before (launch_up_if answer) false events after last → GoesIf C w s before answer after → mid ≡ map own.Launcher events ++ items → IsNotedWhere starved mid now
    → length os ≡ s → Opens w os items seen → IsAlone w last → (o : Opening) × Opens w (o ∷ os) now last
launch_opened C w s answer events starved items mid now seen before after last os wanted retry turn goes mid_is noted many opens alone =
    let did : Deed = record { worker = w; entered = events; up = launch_up_if answer; tended = false } in
    let there : IsAlone w turn.deeds = alone_behind w (did ∷ []) turn.deeds (subst (IsAlone w) turn.seen_is alone) in
    let grown = turn.grows in
    let none : grown.0 ≡ [] = nothing_new w grown.0 seen (subst (IsAlone w) grown.2 there) grown.1 in
    let same_deeds : turn.deeds ≡ seen = grown.2 ∙ ap (λ more. more ++ seen) none in
    let last_is : last ≡ did ∷ seen = turn.seen_is ∙ ap (λ deeds. did ∷ deeds) same_deeds in
    let past_is : before.journal.past ≡ entries_of w (all_events os) = sym turn.deeds_are ∙ (ap entries same_deeds ∙ opens.seen_is) in
    let below : AllBelow s (all_events os) = subst (λ m. AllBelow m (all_events os)) many (all_below os) in
    let begun_none : begun before.journal.past s ≡ 0 = ap (λ J. begun J s) past_is ∙ unbegun w s (all_events os) below in
    let not_dead : given_up before.journal.past s ≡ None = ap (λ J. given_up J s) past_is ∙ not_given_up w s (all_events os) below in
    let it : IsOpening s events (launch_up_if answer) (wants answer)
    = turn_opening C w s events before after turn.enters retry begun_none not_dead turn.found.tried_are answer (turn.found.each s).begun_is goes in
    let here : IsNotedWhere (wants answer) (map own.Launcher events ++ items) now = subst (λ b. IsNotedWhere b (map own.Launcher events ++ items) now) wanted (subst (λ l. IsNotedWhere starved l now) mid_is noted) in
    let o = it.opening in
    let same : opening_items s o ≡ opening_items (length os) o = ap (λ m. opening_items m o) (sym many) in (
      o,
      record {
        items_are = it.items_are items now here ∙ λ i. same i ++ opens.items_are i;
        seen_is = ap entries last_is
            ∙ ((λ i. entries_of w (it.events_are i) ++ opens.seen_is i)
            ∙ (sym (entries_then w (opening_events s o) (all_events os)) ∙ ap (λ m. entries_of w (opening_events m o ++ all_events os)) (sym many)));
        ups_are = λ t j. ap (λ deeds. up_in deeds t j) last_is
            ∙ ((λ i. it.ups_are t j i || opens.ups_are t j i)
            ∙ ap (λ m. (is_up o.outcome && ((m == t) && (o.failed + 1 == j))) || ups_of os t j) (sym many));
      },
    )

pub none_opened : (w : ℕ) (items : List Own) (seen : List Deed) → items ≡ [] → seen ≡ [] → Opens w [] items seen
none_opened w items seen p q = record { items_are = p; seen_is = ap entries q; ups_are = λ s k. ap (λ deeds. up_in deeds s k) q }

-- what was seen before stays
pub turn_behind : (C : Config) (w : ℕ) (events : List LauncherEvent) (seen : List Deed) (before after : LauncherIs) (up tended : Bool) (last : List Deed) → InTurn C w seen before up tended events after last → Behind seen last
turn_behind C w events seen before after up tended last turn =
    let did : Deed = record { worker = w; entered = events; up = up; tended = tended } in
    let grown = turn.grows in
    (did ∷ grown.0, turn.seen_is ∙ ap (λ deeds. did ∷ deeds) grown.2)

-- the services below s were launched
abbrev pub OpensTo : ℕ → ℕ → List Own → List Deed → Type 0
OpensTo w s items seen = IsAlone w seen → (os : List Opening) × (length os ≡ s) × Opens w os items seen

pub next_opened : (w s : ℕ) (items now : List Own) (seen last : List Deed) → Behind seen last
    → ((os : List Opening) → length os ≡ s → Opens w os items seen → IsAlone w last → (o : Opening) × Opens w (o ∷ os) now last) → OpensTo w s items seen → OpensTo w (s + 1) now last
next_opened w s items now seen last behind next before alone =
    let it = before (alone_behind w behind.0 seen (subst (IsAlone w) behind.1 alone)) in
    let many = it.1 in
    let more = next it.0 it.1 it.2 alone in
    (more.0 ∷ it.0, omega (arith, many), more.1)
