-- Tables that differ in their first rows alone, and stores that have a keeper's rows.
use Rattle.std.specs.Prelude.{◌≡◌, List, [], map, Some}
use Rattle.std.specs.Option.{ForSome}
use Rattle.std.specs.declared.option.Option.{Option}
use Rattle.okws_base.specs.declared.value.Value.{Value}
use Rattle.okws_plan.specs.declared.configuration.Table.{Table}

-- A table without its first rows.
abbrev pub bare : Table → Table
bare t = record t { first = [] }

-- The tables are the same but for their first rows.
abbrev pub AreAlike : List Table → List Table → Type 0
AreAlike some others = map bare some ≡ map bare others

-- Where a store tells its rows, these are the ones that the keeper tells.
abbrev pub HasRows : Option (List (List (List Value))) → Option (List (List (List Value))) → Type 0
HasRows store rows = ForSome store (λ (T : List (List (List Value))). rows ≡ Some T)
