-- The log column as contracts see it.
use Rattle.std.specs.Prelude.{◌≡◌, ℕ, Bool, List, ◌∷◌, ◌++◌, Option}
use Rattle.okws_base.specs.declared.journal.Entry.{Entry}
use Rattle.okws_plan.specs.declared.configuration.Config.{Config}
use Rattle.okws_plan.specs.declared.event.LogEvent.{LogEvent}

-- The site's configuration, the entries of the column, the newest first, whether they are kept in memory, what the sink was given where it tells, the count of its faults, that a write has failed, and the number that new entries name.
pub record Seen : Type 0 where
  pub config : Config
  pub past : List (Entry LogEvent)
  pub keeps : Bool
  pub given : Option (List ℕ)
  pub faults : ℕ
  pub stopped : Bool
  pub holder : ℕ

-- The same with one entry more.
abbrev pub entered : Seen → LogEvent → Seen
entered p event = record p { past = record { worker = p.holder; event = event } ∷ p.past }

-- A text is a front of another.
abbrev pub IsFront : List ℕ → List ℕ → Type 0
IsFront front text = (rest : List ℕ) × (front ++ rest ≡ text)
