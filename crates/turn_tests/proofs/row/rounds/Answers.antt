use Rattle.turn_tests.proofs.Rounds.{seen_same, seen_on, seen_rest}
use Rattle.turn_tests.proofs.row.rounds.Goals as goal

pub loop-number-init : goal.loop-number-init
loop-number-init g c = seen_same c.args.seats.now.items

pub round-requires : goal.round-requires
round-requires g c = seen_rest c.args.turns.now.items c.args.seats.now.items c.loop-number.seats.items c.loop-number.invariant c.requires

pub returns-then-is_err : goal.returns-then-is_err
returns-then-is_err g c = seen_on c.args.seats.now.items c.loop-number.seats.items c.round.new.seats.items c.loop-number.invariant c.round.ensures

pub loop-number-preserved : goal.loop-number-preserved
loop-number-preserved g c = seen_on c.args.seats.now.items c.loop-number.seats.items c.round.new.seats.items c.loop-number.invariant c.round.ensures
