use Rattle.std.proofs.Common.{◌≡◌, map}
use Rattle.real_network.specs.Entrances.{entrance_of}
use Rattle.real_network.proofs.network.shut.Given as goal

abbrev pub invariant-loop-door : goal.invariant-loop-door
invariant-loop-door l = map entrance_of l.doors ≡ map entrance_of l.fn.doors
