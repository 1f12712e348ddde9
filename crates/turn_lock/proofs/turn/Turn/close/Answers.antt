use Rattle.std.proofs.Common.{rules, sym, subst}
use Rattle.turn_lock.specs.Seats.{Gathering}
use Rattle.turn_lock.proofs.Spots.{empty_of}
use Rattle.turn_lock.proofs.Gathers.{gathers_first, gathers_rest, gathers, gathered}
use Rattle.turn_lock.proofs.turn.Turn.close.Goals as goal

pub loop-seat-init : goal.loop-seat-init
loop-seat-init g c = gathers_first g.V.Journaled.by c.args.self.id c.args.seats.items c.pop.new.self.items c.in-Some.seat c.in-Some.ensures.items c.requires.rest

pub join-requires-clause-lock : goal.join-requires-clause-lock
join-requires-clause-lock g c =
    (c.loop-seat.invariant.table, (gathers_rest g.V.Journaled.by c.args.self.id c.args.seats.items c.loop-seat.seats.items c.pop-in-loop-seat.new.self.items c.in-Some-pop.seat c.loop-seat.all c.in-Some-pop.ensures.items c.loop-seat.invariant).0)

pub join-requires-clause-free : goal.join-requires-clause-free
join-requires-clause-free g c =
    (c.loop-seat.invariant.free, (gathers_rest g.V.Journaled.by c.args.self.id c.args.seats.items c.loop-seat.seats.items c.pop-in-loop-seat.new.self.items c.in-Some-pop.seat c.loop-seat.all c.in-Some-pop.ensures.items c.loop-seat.invariant).1)

pub loop-seat-preserved : goal.loop-seat-preserved
loop-seat-preserved g c =
    subst (Gathering g.V.Journaled.by c.args.self.id c.args.seats.items c.pop-in-loop-seat.new.self.items) (sym c.join.ensures.seat)
    (gathers g.V.Journaled.by c.args.self.id c.args.seats.items c.loop-seat.seats.items c.pop-in-loop-seat.new.self.items c.in-Some-pop.seat c.loop-seat.all c.join.new.seat.seen c.in-Some-pop.ensures.items c.loop-seat.invariant c.join.ensures.grows)

pub end-requires-clause-all : goal.end-requires-clause-all
end-requires-clause-all g c = λ k h. (gathered g.V.Journaled.by c.args.self.id c.args.seats.items c.loop-seat.seats.items c.loop-seat.all (empty_of c.loop-seat.seats.items (search rules)) c.loop-seat.invariant).1 k (c.requires.all k h)

pub returns-clause-told : goal.returns-clause-told
returns-clause-told g c =
    (gathered g.V.Journaled.by c.args.self.id c.args.seats.items c.loop-seat.seats.items c.loop-seat.all (empty_of c.loop-seat.seats.items (search rules)) c.loop-seat.invariant).0 (g.V.Journaled.journal c.end.result) c.end.ensures.told
