-- What one turn enters in the launcher's journal, all of one service, the newest first.
use Rattle.std.specs.Prelude.{◌≡◌, ℕ, zero, suc, ◌+◌, ◌*◌, List, [], ◌∷◌, ◌++◌, Option, map, max, option_to_list}
use Rattle.okws_base.specs.declared.journal.Entry.{Entry}
use Rattle.okws_plan.specs.declared.configuration.Config.{Config}
use Rattle.okws_plan.specs.declared.event.LauncherEvent.{LauncherEvent}
use Rattle.okws_plan.specs.declared.event.LauncherEvent.TheVariants as event

-- Events that number n enters.
abbrev pub entries_of : ℕ → List LauncherEvent → List (Entry LauncherEvent)
entries_of n events = map (λ (e : LauncherEvent). record { worker = n; event = e }) events

-- The journal went on by these events of number n, and by nothing else.
abbrev pub Enters : ℕ → List LauncherEvent → List (Entry LauncherEvent) → List (Entry LauncherEvent) → Type 0
Enters n events J now = now ≡ entries_of n events ++ J

-- So many attempts of s failed, of incarnation k and those after it.
abbrev pub failed_from : ℕ → ℕ → ℕ → List LauncherEvent
failed_from s k zero = []
failed_from s k (suc n) = event.Failed s (k + n) ∷ event.Begun s (k + n) ∷ failed_from s k n

-- What opened a turn; the attempts of s that failed in it; and what closed it.
abbrev pub events_of : Option LauncherEvent → ℕ → ℕ → ℕ → Option LauncherEvent → List LauncherEvent
events_of opening s k failed closing = option_to_list closing ++ (failed_from s k failed ++ option_to_list opening)

-- A turn enters no more than this: each attempt that failed was a try, and was allowed.
abbrev pub most_entered : Config → ℕ
most_entered C = 2 * max C.retry 1 + 2
