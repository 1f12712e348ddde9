use Rattle.std.proofs.Common.{rules, sym, subst}
use Rattle.turn_lock.specs.BoardSeats.{Gathering}
use Rattle.turn_lock.proofs.BoardGathers.{gathers_first, gathers_at, gathers, gathered, empty_of}
use Rattle.turn_lock.proofs.board.Board.close.Goals as goal

pub loop-seat-init : goal.loop-seat-init
loop-seat-init c = gathers_first c.args.self.id c.args.seats.items c.pop.new.self.items c.in-Some.seat c.in-Some.ensures.items c.requires.at

pub join-requires : goal.join-requires
join-requires c = record { board = (c.loop-seat.invariant.table, gathers_at c.args.self.id c.args.seats.items c.loop-seat.seats.items c.pop-in-loop-seat.new.self.items c.in-Some-pop.seat c.loop-seat.all c.in-Some-pop.ensures.items c.loop-seat.invariant) }

pub loop-seat-preserved : goal.loop-seat-preserved
loop-seat-preserved c =
    subst (Gathering c.args.self.id c.args.seats.items c.pop-in-loop-seat.new.self.items) (sym c.join.ensures.seat)
    (gathers c.args.self.id c.args.seats.items c.loop-seat.seats.items c.pop-in-loop-seat.new.self.items c.in-Some-pop.seat c.loop-seat.all c.in-Some-pop.ensures.items c.loop-seat.invariant)

pub returns-clause-seen : goal.returns-clause-seen
returns-clause-seen c =
    let g = gathered c.args.self.id c.args.seats.items c.loop-seat.seats.items c.loop-seat.all (empty_of c.loop-seat.seats.items (search rules)) c.loop-seat.invariant in
    (c.end.ensures.seen.0, g.0 c.args.self.count c.end.ensures.seen.0 c.end.ensures.seen.1)

pub returns-clause-drawn : goal.returns-clause-drawn
returns-clause-drawn c =
    let g = gathered c.args.self.id c.args.seats.items c.loop-seat.seats.items c.loop-seat.all (empty_of c.loop-seat.seats.items (search rules)) c.loop-seat.invariant in
    (c.end.ensures.drawn.0, g.1 c.end.ensures.drawn.0 c.end.result c.end.ensures.drawn.1, c.end.ensures.drawn.2)
