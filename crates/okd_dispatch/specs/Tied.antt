-- What okd keeps is what its past says.
use Rattle.std.specs.Prelude.{◌≡◌, ℕ, ◌≤◌, ◌<◌, ◌^◌, List, Option, None, is_some, count_by, length, slice_index_or}
use Rattle.okws_base.specs.declared.journal.Entry.{Entry}
use Rattle.okws_plan.specs.declared.configuration.Config.{Config}
use Rattle.okws_plan.specs.declared.event.OkdEvent.{OkdEvent}
use Rattle.monitor_model.specs.Standing.{up_at_okd}
use Rattle.monitor_model.specs.Columns.{OkdLaw}

-- The incarnation of s that is kept as the one that is up.
abbrev pub up_in : List (Option ℕ) → ℕ → Option ℕ
up_in ups s = slice_index_or ups s None

-- How many services are up. So many Downs may come, for which room is to be kept.
abbrev pub places : List (Option ℕ) → ℕ
places ups = count_by (λ (up : Option ℕ). is_some up) ups

-- What okd keeps beside its journal is what its past says, each entry fits those before it, and a place is kept for each Down.
pub record Tied (C : Config) (J : List (Entry OkdEvent)) (room : ℕ) (ups : List (Option ℕ)) : Type 0 where
  pub services : length ups ≡ length C.services
  pub few : length ups < 2 ^ 16
  pub up_is : (s : ℕ) → up_in ups s ≡ up_at_okd J s
  -- a place is kept for each Down
  pub places_are : places ups ≤ room
  pub law : OkdLaw J
