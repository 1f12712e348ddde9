use Rattle.std.proofs.Common.{◌≡◌, Some, All, length, option_map}
use Rattle.okws_outer.specs.Doors.{Entrance, new_entrance}
use Rattle.outer_memory.proofs.door.MemoryNetwork.open.Given as goal

abbrev pub invariant-loop : goal.invariant-loop
invariant-loop l = record {
  count : length l.doors.items ≡ l.counter;
  doors : All (λ d. let e : Entrance = record { out = option_map (λ came. Some came.now) d.out; finished = d.finished.told.past; faults = d.failing.faults } in e ≡ new_entrance) l.doors.items;
}
