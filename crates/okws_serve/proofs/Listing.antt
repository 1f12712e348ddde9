-- What the record that a run leaves says of each number.
use Rattle.std.proofs.Common.{◌≡◌, ℕ, suc, ◌+◌, ◌<◌, ◌≤◌, List, [], ◌∷◌, length, sym, subst, arith}
use Rattle.std.specs.Prelude.{Bool}
use mathlib.Core.Logic.{dite}
use native.Mathlib.Decide.{ℕ_discrete}
use Rattle.okws_outer.specs.Conns.{ConnWire}
use Rattle.okws_outer.specs.Doors.{Entrance}
use Rattle.okws_plan.specs.declared.configuration.Config.{Config}
use Rattle.monitor_model.specs.declared.record.Record.{Record}
use Rattle.monitor_model.specs.Merged.{IsOwn, list_of}
use Rattle.turn_lock.proofs.Rows.{get_mid}
use Rattle.site_worker.specs.declared.door.Attended.{Attended}
use Rattle.site_run.proofs.Owning.{Owns, owned_then, owns_kept, owns_nothing}
use Rattle.site_run.proofs.Showing.{Shows, shows_kept, shows_nothing}
use Rattle.site_run.proofs.Shown.{ShownBy, launcher_shown, shown_then}
use Rattle.site_run.proofs.Rounding.{attends_kept, oversees_kept}
use Rattle.site_run.specs.Tied.{LaunchesAreOwn}
use Rattle.okws_serve.specs.declared.outfit.Ending.{Ending}
use Rattle.okws_serve.specs.Doors.{AllAttend, AttendsAt, ServesConsole}

-- its list is what it did, and what its dialogs were shown was begun
abbrev pub Told : ℕ → Record → ℕ → Type 0
Told n R w = IsOwn R n w (list_of R w) × ShownBy R w

-- of a worker at a door
door_told : {X : Type 0} (wire : X → ConnWire) (C : Config) (n most : ℕ) (R : Record) (ended : ℕ → ℕ → Bool) (w : ℕ) (e f : Entrance) (a : Attended) → AttendsAt wire C n most R ended w e f a → Told n R w
door_told wire C n most R ended w e f a h = (
  owned_then C n w h.after R ended (attends_kept C n (Owns C n w) (owns_kept C n w) wire most h.seen e f h.before h.after [] h.drawn a h.attends (owns_nothing C n w h.before h.begins)) h.left,
  shown_then n w h.after R ended (attends_kept C n (Shows w) (shows_kept C n w) wire most h.seen e f h.before h.after [] h.drawn a h.attends (shows_nothing C n w h.before h.begins)) h.left,
)

-- of all workers at doors
doors_told : {X : Type 0} (wire : X → ConnWire) (C : Config) (n most : ℕ) (R : Record) (ended : ℕ → ℕ → Bool) (k w : ℕ) (es fs : List Entrance) (as' : List Attended)
    → AllAttend wire C n most R ended k es fs as' → k ≤ w → w < length es + k → Told n R w
doors_told wire C n most R ended k w [] fs as' h l u = absurd (omega arith)
doors_told wire C n most R ended k w (e ∷ es) [] as' h l u = absurd h
doors_told wire C n most R ended k w (e ∷ es) (f ∷ fs) [] h l u = absurd h
doors_told wire C n most R ended k w (e ∷ es) (f ∷ fs) (a ∷ as') h l u = dite (ℕ_discrete k w)
    (λ is. subst (λ m. Told n R m) is (door_told wire C n most R ended k e f a h.0))
    (λ not. doors_told wire C n most R ended (suc k) w es fs as' h.1 (omega arith) (omega arith))

-- of the console's worker
console_told : (C : Config) (n : ℕ) (R : Record) (ended : ℕ → ℕ → Bool) (w : ℕ) (x y : ConnWire) (e : Ending) → ServesConsole C n R ended w x y e → Told n R w
console_told C n R ended w x y e h = (
  owned_then C n w h.after R ended (oversees_kept C n (Owns C n w) (owns_kept C n w) x h.mid 0 h.lines h.before h.after h.how h.oversees (owns_nothing C n w h.before h.begins)) h.left,
  shown_then n w h.after R ended (oversees_kept C n (Shows w) (shows_kept C n w) x h.mid 0 h.lines h.before h.after h.how h.oversees (shows_nothing C n w h.before h.begins)) h.left,
)

-- of the launcher's number
launcher_told : (n : ℕ) (R : Record) → length R.workers ≡ n → LaunchesAreOwn n R → Told n R n
launcher_told n R many h =
    let is : list_of R n ≡ R.launches = get_mid R.workers R.launches [] [] n many in
    (subst (IsOwn R n n) (sym is) h.own, launcher_shown n R h)

-- of all numbers, where that of the console's worker is the next after those of the doors', and the launcher's the next
pub all_told : {X : Type 0} (wire : X → ConnWire) (C : Config) (n most : ℕ) (R : Record) (ended : ℕ → ℕ → Bool) (es fs : List Entrance) (as' : List Attended) (x y : ConnWire) (ending : Ending)
    → length es + 1 ≡ n → length R.workers ≡ n → AllAttend wire C n most R ended 0 es fs as' → ServesConsole C n R ended (length es) x y ending → LaunchesAreOwn n R → (w : ℕ) → w ≤ n → Told n R w
all_told wire C n most R ended es fs as' x y ending e many doors console launched w l = dite (ℕ_discrete w n)
    (λ is. subst (λ m. Told n R m) (sym is) (launcher_told n R many launched))
    (λ not. dite (ℕ_discrete w (length es))
    (λ is. subst (λ m. Told n R m) (sym is) (console_told C n R ended (length es) x y ending console))
    (λ apart. doors_told wire C n most R ended 0 w es fs as' doors (omega arith) (omega arith)))
