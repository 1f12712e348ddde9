-- A proxy's column as contracts see it.
use Rattle.std.specs.Prelude.{ℕ, Bool, List, [], ◌∷◌, Option}
use Rattle.okws_base.specs.declared.journal.Entry.{Entry}
use Rattle.okws_base.specs.declared.value.Value.{Value}
use Rattle.okws_plan.specs.declared.configuration.Config.{Config}
use Rattle.okws_plan.specs.declared.event.ProxyEvent.{ProxyEvent}

-- The site's configuration, the proxy's number, the seed of the tokens that are issued, the entries of the column, the newest first, whether they are kept in memory, the rows of each table where the keeper tells them, the count of the keeper's faults, that no call of it fails, and the number that new entries name.
pub record Seen : Type 0 where
  pub config : Config
  pub number : ℕ
  pub seed : List ℕ
  pub past : List (Entry ProxyEvent)
  pub keeps : Bool
  pub told : Option (List (List (List Value)))
  pub faults : ℕ
  pub steady : Bool
  pub holder : ℕ

-- The same with one entry more.
abbrev pub entered : Seen → ProxyEvent → Seen
entered p event = record p { past = record { worker = p.holder; event = event } ∷ p.past }

-- The one seed that was told.
abbrev pub seed_in : List (List ℕ) → List ℕ
seed_in [] = []
seed_in (seed ∷ more) = seed
