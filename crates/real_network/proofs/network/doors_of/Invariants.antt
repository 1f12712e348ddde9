use Rattle.std.proofs.Common.{◌≡◌, All, length}
use Rattle.okws_outer.specs.Doors.{new_entrance}
use Rattle.real_network.specs.Entrances.{entrance_of}
use Rattle.real_network.proofs.network.doors_of.Given as goal

abbrev pub invariant-loop : goal.invariant-loop
invariant-loop l = record {
  count : length l.doors.items ≡ l.counter;
  doors : All (λ d. entrance_of d ≡ new_entrance) l.doors.items;
}
