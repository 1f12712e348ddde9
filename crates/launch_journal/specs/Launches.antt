-- The launcher's journal as contracts see it.
use Rattle.std.specs.Prelude.{◌≡◌, ℕ, ◌<◌, ◌+◌, ◌-◌, Bool, true, false, List, [], ◌∷◌, ◌==◌, Option, Some, None, if◌then◌else◌}
use Rattle.okws_base.specs.declared.journal.Entry.{Entry}
use Rattle.okws_base.specs.declared.limit.TheConstants.{MOST_INCARNATIONS}
use Rattle.okws_plan.specs.declared.configuration.Config.{Config}
use Rattle.okws_plan.specs.declared.event.LauncherEvent.{LauncherEvent}
use Rattle.okws_plan.specs.declared.event.LauncherEvent.TheVariants.{Begun, Failed, Crashed, Dead, Asked}
use Rattle.monitor_model.specs.Launcher.{begun, tries, may_begin, may_give_up}
use Rattle.launch_journal.specs.declared.next.Next.{Next}
use Rattle.launch_journal.specs.declared.next.Next.TheVariants as next

-- The site's configuration; the entries, the newest first; for how many more there is room; whether they are kept in memory; and the number that new entries name.
pub record Launches : Type 0 where
  pub config : Config
  pub past : List (Entry LauncherEvent)
  pub room : ℕ
  pub keeps : Bool
  pub holder : ℕ

-- The same with one entry more, in a place that was kept.
abbrev pub entered : Launches → LauncherEvent → Launches
entered l event = record l { past = record { worker = l.holder; event = event } ∷ l.past; room = l.room - 1 }

-- After how many tries s was given up, where it was, after an event.
abbrev pub given_up_after : LauncherEvent → ℕ → Option ℕ → Option ℕ
given_up_after (Begun t k) s before = before
given_up_after (Failed t k) s before = before
given_up_after (Crashed t k) s before = before
given_up_after (Dead t n) s before = if t == s then Some n else before
given_up_after (Asked t) s before = if t == s then None else before

-- The tries of the last Dead of s, where no Asked of s stands after it.
abbrev pub given_up : List (Entry LauncherEvent) → ℕ → Option ℕ
given_up [] s = None
given_up (e ∷ J) s = given_up_after e.event s (given_up J s)

-- What may come next of s: a Dead where the greatest begun fell and the tries are at the limit; nothing where a Dead stands, or the last incarnation was begun; else a Begun.
abbrev pub Allows : Config → List (Entry LauncherEvent) → ℕ → Next → Type 0
Allows C J s next.Begin = (begun J s < MOST_INCARNATIONS) × (may_begin C J s (begun J s + 1) ≡ true)
Allows C J s next.GiveUp = (given_up J s ≡ None) × (may_give_up C J s (tries J s) ≡ true)
Allows C J s (next.Dead n) = given_up J s ≡ Some n
Allows C J s next.Spent = (given_up J s ≡ None) × (may_give_up C J s (tries J s) ≡ false) × (begun J s ≡ MOST_INCARNATIONS)
