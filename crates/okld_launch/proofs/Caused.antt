-- What each step leaves of the launcher: what was begun was begun for a cause.
use Rattle.std.proofs.Common.{◌≡◌, ◌∙◌, inr, ℕ, ◌+◌, ◌<◌, ◌≤◌, List, [], refl, sym, ap, subst, length, arith}
use Rattle.std.specs.Prelude.{replicate, slice_index, slice_set}
use Rattle.okws_base.specs.declared.journal.Entry.{Entry}
use Rattle.okws_plan.specs.declared.configuration.Config.{Config}
use Rattle.okws_plan.specs.declared.event.LauncherEvent.{LauncherEvent}
use Rattle.okws_plan.specs.declared.event.LauncherEvent.TheVariants as event
use Rattle.monitor_model.specs.Launcher.{begun}
use Rattle.launch_journal.specs.Launches.{Launches, entered}
use Rattle.launch_crew.specs.Coming.{Came, NoneCame, came_up}
use Rattle.launch_crew.specs.Crews.{CrewIs}
use Rattle.launch_crew.specs.Recorded.{Recorded, IsUnused}
use Rattle.site_locks.specs.Sat.{Sat}
use Rattle.launch_crew.proofs.Coming.{none_columns, none_same}
use Rattle.launch_crew.proofs.Slots.{set_here, set_there}
use Rattle.okld_launch.specs.Causing.{BrokeOff, Caused, MayFollow}
use Rattle.okld_launch.specs.Launchers.{LauncherIs, AreCaused, MayLaunch, up_in}
use Rattle.okld_launch.specs.Going.{with_begun, with_entry, with_failed}
use Rattle.okld_launch.proofs.Begins.{begun_here, no_ups}
use Rattle.okld_launch.proofs.Causing.{caused_begun, caused_ended, caused_same, caused_up, failed_follows, fallen_follows, none_caused}
use Rattle.okld_launch.proofs.Placing.{Clears}

-- ---- what changes nothing of it

pub kept_caused : (l m : LauncherIs) → m.journal.past ≡ l.journal.past → NoneCame l.crew.sat m.crew.sat → m.ups ≡ l.ups → AreCaused l → AreCaused m
kept_caused l m past none ups h = caused_same (came_up l.crew.sat) (came_up m.crew.sat) (up_in l) (up_in m) l.journal.past m.journal.past none (λ s. ap (λ us. slice_index us s) ups) past h

pub kept_may : (l m : LauncherIs) (s : ℕ) → m.journal.past ≡ l.journal.past → m.crew.sat ≡ l.crew.sat → MayLaunch s l → MayLaunch s m
kept_may l m s past sat h = subst (λ (x : List (Entry LauncherEvent) × Sat). MayFollow (came_up x.1) x.0 x.0 s (begun x.0 s)) (λ i. (sym past i, sym sat i)) h

-- ---- an entry

pub entered_caused : (l : LauncherIs) (j : Launches) (e : LauncherEvent) → j ≡ entered l.journal e → AreCaused (record l { journal = entered l.journal e }) → AreCaused (record l { journal = j })
entered_caused l j e is h = subst (λ (x : Launches). AreCaused (record l { journal = x })) (sym is) h

-- ---- the next incarnation is begun

pub begun_caused : (s k : ℕ) (l m : LauncherIs) → m.journal ≡ entered l.journal (event.Begun s k) → NoneCame l.crew.sat m.crew.sat → m.ups ≡ l.ups → k ≡ begun l.journal.past s + 1 → MayLaunch s l → AreCaused l → AreCaused m
begun_caused s k l m journal none ups next may h =
    kept_caused (record l { journal = entered l.journal (event.Begun s k) }) m (ap (λ (j : Launches). j.past) journal) none ups
    (caused_begun (came_up l.crew.sat) (up_in l) l.journal.past l.journal.holder s k next may h)

-- it neither came up nor failed
pub begun_fresh : (s k : ℕ) (l m : LauncherIs) → m.journal ≡ entered l.journal (event.Begun s k) → NoneCame l.crew.sat m.crew.sat → k ≡ begun l.journal.past s + 1 → AreCaused l → BrokeOff (came_up m.crew.sat) m.journal.past s k
begun_fresh s k l m journal none next h =
    let before : BrokeOff (came_up l.crew.sat) l.journal.past s k = h.fresh s k (omega (arith, next)) in
    subst (λ (j : Launches). BrokeOff (came_up m.crew.sat) j.past s k) (sym journal) (record { up = none s k ∙ before.up; failed = before.failed })

-- ---- what was there before it is ended

pub cleared_none : (C : Config) (s : ℕ) (a b c d : CrewIs) → NoneCame a.sat b.sat → Clears C s a b c d → NoneCame a.sat d.sat
cleared_none C s a b c d none h t k = none_same c.sat d.sat h.empties.sat_is t k ∙ (none_columns b.sat c.sat h.revokes.thins.only t k ∙ none t k)

pub cleared_caused : (s : ℕ) (l m : LauncherIs) → m.journal ≡ l.journal → m.ups ≡ slice_set l.ups s 0 → NoneCame l.crew.sat m.crew.sat → MayLaunch s l → AreCaused l → AreCaused m
cleared_caused s l m journal ups none may h =
    caused_same (came_up l.crew.sat) (came_up m.crew.sat) (up_in m) (up_in m) l.journal.past m.journal.past none (λ t. refl) (ap (λ (j : Launches). j.past) journal)
    (caused_ended (came_up l.crew.sat) (up_in l) (up_in m) l.journal.past s (λ t n. ap (λ us. slice_index us t) ups ∙ set_there l.ups s t 0 n) may h)

pub broke_may : (s k : ℕ) (l : LauncherIs) → k ≡ begun l.journal.past s → BrokeOff (came_up l.crew.sat) l.journal.past s k → MayLaunch s l
broke_may s k l is h = inr (inr (subst (BrokeOff (came_up l.crew.sat) l.journal.past s) is h))

-- ---- it comes up

pub upped_caused : (s k : ℕ) (l m : LauncherIs) → m.journal ≡ l.journal → m.ups ≡ slice_set l.ups s k → s < length l.ups → Came s k l.crew.sat m.crew.sat → k ≡ begun l.journal.past s → AreCaused l → AreCaused m
upped_caused s k l m journal ups within came is h =
    subst (λ (J : List (Entry LauncherEvent)). Caused (came_up m.crew.sat) (up_in m) J) (sym (ap (λ (j : Launches). j.past) journal))
    (caused_up (came_up l.crew.sat) (came_up m.crew.sat) (up_in l) (up_in m) l.journal.past s k came is (ap (λ us. slice_index us s) ups ∙ set_here l.ups s k within) (λ t n. ap (λ us. slice_index us t) ups ∙ set_there l.ups s t k n) h)

pub at_most : (k b : ℕ) → k ≡ b → k ≤ b
at_most k b is = omega (arith, is)

-- ---- it failed

pub failed_may : (w s : ℕ) (M : List (Entry LauncherEvent)) (l : LauncherIs) → l.journal.past ≡ with_failed w s M → MayLaunch s l
failed_may w s M l is =
    let here : begun (with_failed w s M) s ≡ begun M s + 1 = begun_here w s (begun M s + 1) M refl in
    subst (λ (J : List (Entry LauncherEvent)). MayFollow (came_up l.crew.sat) J J s (begun J s)) (sym is)
    (failed_follows (came_up l.crew.sat) (with_failed w s M) (with_begun w s M) w s (begun (with_failed w s M) s) (begun M s + 1) (sym here))

-- ---- the child of the one that is up had ended: room was made, and its crash entered

pub tended_may : (s k : ℕ) (old asked roomy opened : LauncherIs) → k ≡ up_in old s → asked ≡ record old { crew = record old.crew { running = asked.crew.running } } → roomy ≡ record asked { journal = record asked.journal { room = roomy.journal.room } }
    → opened ≡ record roomy { journal = entered roomy.journal (event.Crashed s k) } → AreCaused old → MayLaunch s opened
tended_may s k old asked roomy opened is same rooms opens h =
    let before : roomy.journal.past ≡ old.journal.past = ap (λ (l : LauncherIs). l.journal.past) rooms ∙ ap (λ (l : LauncherIs). l.journal.past) same in
    let sat : opened.crew.sat ≡ old.crew.sat = ap (λ (l : LauncherIs). l.crew.sat) opens ∙ (ap (λ (l : LauncherIs). l.crew.sat) rooms ∙ ap (λ (l : LauncherIs). l.crew.sat) same) in
    let past : opened.journal.past ≡ with_entry roomy.journal.holder (event.Crashed s k) old.journal.past = ap (λ (l : LauncherIs). l.journal.past) opens ∙ λ i. with_entry roomy.journal.holder (event.Crashed s k) (before i) in
    subst (λ (x : List (Entry LauncherEvent) × Sat). MayFollow (came_up x.1) x.0 x.0 s (begun x.0 s)) (λ i. (sym past i, sym sat i)) (fallen_follows (came_up old.crew.sat) (up_in old) old.journal.past roomy.journal.holder s k is h)

-- ---- nothing was launched

pub unused_caused : (C : Config) (n : ℕ) (l : LauncherIs) (r : Recorded) → l.journal.past ≡ [] → l.crew.sat ≡ r.sat → IsUnused C n r → l.ups ≡ replicate (length C.services) 0 → AreCaused l
unused_caused C n l r past sat unused ups = none_caused (came_up l.crew.sat) (up_in l) l.journal.past
    (λ s k. ap (λ (x : Sat). came_up x s k) (sat ∙ unused.sat_is))
    (λ s. ap (λ us. slice_index us s) ups ∙ no_ups (length C.services) s)
    past
