-- What contracts see of the objects of a run.
use Rattle.std.specs.Prelude.{ℕ, List}
use Rattle.std.specs.declared.option.Option.{Option}
use Rattle.okws_outer.specs.Conns.{ConnWire}
use Rattle.okws_outer.specs.Depots.{Depot}
use Rattle.okws_outer.specs.Families.{Family}
use Rattle.okws_outer.specs.Networks.{Net}
use Rattle.okws_outer.specs.Racks.{Rack}
use Rattle.okws_outer.specs.Shelf.{Shelf}
use Rattle.okws_world.specs.declared.equipment.Objects.{Objects}

-- What is told of the further objects of a server: its network, its children, its console, its stores and its sinks.
pub record Gear : Type 0 where
  pub net : Net
  pub family : Family
  pub console : ConnWire
  pub depot : Depot
  pub rack : Rack

-- What is told of all objects of a run: the files; what was given to out, where it tells, and how many of its puts failed; the further ones; and the seed.
pub record View : Type 0 where
  pub shelf : Shelf
  pub given : Option (List ℕ)
  pub faults : ℕ
  pub gear : Gear
  pub seed : List ℕ

-- What is told of further objects whose types tell so.
abbrev pub gear_of : {N H C S K G : Type 0} → (N → Net) → (H → Family) → (C → ConnWire) → (S → Depot) → (K → Rack) → Objects N H C S K G → Gear
gear_of net family wire depot rack o = record { net = net o.network; family = family o.children; console = wire o.console; depot = depot o.stores; rack = rack o.sinks }

-- What is told of all objects, of files and out whose types tell so.
abbrev pub view_of : {F O : Type 0} → (F → Shelf) → (O → Option (List ℕ)) → (O → ℕ) → F → O → Gear → List ℕ → View
view_of shelf given faults files out gear seed = record { shelf = shelf files; given = given out; faults = faults out; gear = gear; seed = seed }
