use Rattle.std.proofs.Common.{rules}
use Rattle.turn_tests.proofs.Adds.{adds_one}
use Rattle.turn_tests.proofs.row.enter.Goals as goal

pub give-requires-clause-adds : goal.give-requires-clause-adds
give-requires-clause-adds g c = adds_one c.take-ledger.new.seat.number c.args.number c.take-ledger.new.seat.seen c.enter.new.self.past (search rules)
