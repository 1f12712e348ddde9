-- A real door as contracts see it.
use Rattle.std.specs.Prelude.{Some, None, if◌then◌else◌}
use Rattle.okws_outer.specs.Doors.{Entrance}
use Rattle.real_network.specs.declared.network.RealDoor.{RealDoor}

-- What is told of a real door: whether a connection is out, and the faults of those that were finished.
abbrev pub entrance_of : RealDoor → Entrance
entrance_of door = record {
  out = if door.is_out then Some None else None;
  finished = door.finished.past;
  faults = door.faults;
}
