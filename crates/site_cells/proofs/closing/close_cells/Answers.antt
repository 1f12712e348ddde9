use Rattle.std.proofs.Common.{rules}
use Rattle.turn_lock.proofs.Spots.{empty_of}
use Rattle.site_cells.proofs.Joins.{joins_first, joins_next, joins_all}
use Rattle.site_cells.proofs.closing.close_cells.Goals as goal

pub loop-other-init : goal.loop-other-init
loop-other-init g c = joins_first g.N.Numbered.launcher c.args.seats.items c.pop.new.self.items c.in-Some.first c.of-ends.result c.in-Some.ensures.items c.of-ends.ensures.told c.of-ends.ensures.has

pub loop-other-preserved : goal.loop-other-preserved
loop-other-preserved g c =
    joins_next g.N.Numbered.launcher c.args.seats.items c.loop-other.left.items c.pop-in-loop-other.new.self.items c.in-Some-pop.other c.loop-other.ends c.join.new.self c.in-Some-pop.ensures.items c.join.ensures.told c.join.ensures.has c.join.ensures.still c.loop-other.invariant

pub end_cells-requires-clause-all : goal.end_cells-requires-clause-all
end_cells-requires-clause-all g c = λ k l.
    (joins_all g.N.Numbered.launcher c.args.seats.items c.loop-other.left.items c.loop-other.ends (empty_of c.loop-other.left.items (search rules)) c.loop-other.invariant).1 k (c.requires.all k l)
