use Rattle.std.specs.Prelude.{IsNone}
use Rattle.real_network.specs.Entrances.{entrance_of}
use Rattle.system_tests.proofs.network.next_conn.Given as goal

abbrev pub invariant-loop : goal.invariant-loop
invariant-loop l = IsNone (entrance_of l.door).out
