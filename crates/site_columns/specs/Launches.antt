-- The launcher's journal as contracts see it.
use Rattle.std.specs.Prelude.{◌≡◌, ℕ, ◌≤◌, List, ◌∷◌, length, slice_index_or}
use Rattle.okws_base.specs.declared.journal.Entry.{Entry}
use Rattle.okws_base.specs.declared.limit.TheConstants.{MOST_INCARNATIONS}
use Rattle.okws_plan.specs.declared.event.LauncherEvent.{LauncherEvent}
use Rattle.monitor_model.specs.Launcher.{begun}

-- How many services there are, the entries, the newest first, and the number that new entries name.
pub record Launched : Type 0 where
  pub services : ℕ
  pub past : List (Entry LauncherEvent)
  pub holder : ℕ

-- The same with one entry more.
abbrev pub launched : Launched → LauncherEvent → Launched
launched l event = record l { past = record { worker = l.holder; event = event } ∷ l.past }

-- The greatest incarnation of each service that is kept is what the past says, and there may be so many.
pub record IsCounted (services : ℕ) (J : List (Entry LauncherEvent)) (greatest : List ℕ) : Type 0 where
  pub services_are : length greatest ≡ services
  pub greatest_is : (s : ℕ) → slice_index_or greatest s 0 ≡ begun J s
  pub most : (s : ℕ) → begun J s ≤ MOST_INCARNATIONS
