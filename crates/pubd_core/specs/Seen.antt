-- The template column as contracts see it.
use Rattle.std.specs.Prelude.{ℕ, Bool, List, ◌∷◌}
use Rattle.okws_base.specs.declared.journal.Entry.{Entry}
use Rattle.okws_plan.specs.declared.configuration.Config.{Config}
use Rattle.okws_plan.specs.declared.event.PubdEvent.{PubdEvent}

-- The site's configuration, the entries of the column, the newest first, whether they are kept in memory, and the number that new entries name.
pub record Seen : Type 0 where
  pub config : Config
  pub past : List (Entry PubdEvent)
  pub keeps : Bool
  pub holder : ℕ

-- The same with one entry more.
abbrev pub entered : Seen → PubdEvent → Seen
entered p event = record p { past = record { worker = p.holder; event = event } ∷ p.past }
