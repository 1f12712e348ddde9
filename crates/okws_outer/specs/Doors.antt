-- A door as contracts see it, and what its calls do to what is told of it.
use Rattle.std.specs.Prelude.{◌≡◌, ◌≤◌, ℕ, List, [], ◌∷◌, Some, None, IfSome}
use Rattle.std.specs.declared.option.Option.{Option}
use Rattle.okws_outer.specs.declared.door.Served.{Served}
use Rattle.okws_outer.specs.Conns.{ConnWire}
use Rattle.okws_outer.specs.Streams.{Rose, counted}

-- A door as contracts see it: while a connection is out, the bytes with which it was accepted, where it told them; the connections that were finished, the last one first; how many calls failed, those of finished connections included.
pub record Entrance : Type 0 where
  pub out : Option (Option (List ℕ))
  pub finished : List Served
  pub faults : ℕ

-- A door at which nothing came yet.
abbrev pub new_entrance : Entrance
new_entrance = record { out = None; finished = []; faults = 0 }

-- A connection was accepted: all of its client's bytes are left, none were given, and no call failed.
pub record Accepts (old new : Entrance) (wire : ConnWire) : Type 0 where
  pub out : new ≡ record old { out = Some wire.left }
  pub given : IfSome wire.given (λ given. given ≡ [])
  pub faults : wire.faults ≡ 0

-- None was accepted, which was counted.
pub record Refuses (old new : Entrance) : Type 0 where
  pub kept : new ≡ record old { faults = new.faults }
  pub later : old.faults ≤ new.faults
  pub rose : Rose old.faults new.faults

-- The bytes with which the connection was accepted that is out.
abbrev pub came_of : Option (Option (List ℕ)) → Option (List ℕ)
came_of None = None
came_of (Some came) = came

-- The connection that is out is finished, and stands so.
abbrev pub with_finished : ConnWire → Entrance → Entrance
with_finished wire door = record {
  out = None;
  finished = record { came = came_of door.out; left = wire.left; given = wire.given; faults = wire.faults } ∷ door.finished;
  faults = counted door.faults wire.faults;
}
