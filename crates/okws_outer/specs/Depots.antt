-- Stores as contracts see them.
use Rattle.std.specs.Prelude.{◌≡◌, ℕ, List, ◌∷◌, map, IfSome}
use Rattle.std.specs.declared.option.Option.{Option}
use Rattle.okws_base.specs.declared.value.Value.{Value}
use Rattle.okws_plan.specs.declared.configuration.Table.{Table}
use Rattle.okws_outer.specs.declared.stores.KeeperStart.{KeeperStart}
use Rattle.okws_outer.specs.declared.stores.KeeperEnd.{KeeperEnd}

-- Stores as contracts see them: the keepers that were made and those that were given back, the last one first; how many makings failed.
pub record Depot : Type 0 where
  pub made : List KeeperStart
  pub finished : List KeeperEnd
  pub faults : ℕ

-- Where this keeper tells, it has the tables' first rows; no call of it failed.
pub record IsNewKeeper (tables : List Table) (told : Option (List (List (List Value)))) (count : ℕ) : Type 0 where
  pub rows : IfSome told (λ rows. rows ≡ map (λ t. t.first) tables)
  pub faults : count ≡ 0

-- A keeper was made for a file, a proxy and its tables.
abbrev pub with_made : List ℕ → ℕ → List Table → Depot → Depot
with_made file proxy tables depot = record depot { made = record { file = file; proxy = proxy; tables = tables } ∷ depot.made }

-- A keeper was given back.
abbrev pub with_finished : ℕ → Option (List (List (List Value))) → ℕ → Depot → Depot
with_finished proxy told faults depot = record depot { finished = record { proxy = proxy; rows = told; faults = faults } ∷ depot.finished }
