use Rattle.std.proofs.Common.{rules, map, ap}
use Rattle.turn_lock.proofs.Spots.{empty_of}
use Rattle.turn_lock.proofs.Rows.{gather_first, gather_rest, gather_next, gather_all, pushed_map}
use Rattle.turn_tests.proofs.row.close_row.Goals as goal

pub loop-row-init : goal.loop-row-init
loop-row-init g c =
    gather_first g.V.Journaled.by c.args.turns.items (map (λ s. s.items) c.args.rows.items) (map (λ s. s.items) c.pop.new.self.items) c.in-Some.all.items (pushed_map (λ s. s.items) c.args.rows.items c.pop.new.self.items c.in-Some.all c.in-Some.ensures.items) c.requires.rest

pub join_row-requires-clause-into : goal.join_row-requires-clause-into
join_row-requires-clause-into g c = c.loop-row.invariant.one_rests

pub join_row-requires-clause-others : goal.join_row-requires-clause-others
join_row-requires-clause-others g c =
    gather_rest g.V.Journaled.by c.args.turns.items (map (λ s. s.items) c.args.rows.items) (map (λ s. s.items) c.loop-row.rows.items) (map (λ s. s.items) c.pop-in-loop-row.new.self.items) c.in-Some-pop.row.items c.loop-row.all.items
    (pushed_map (λ s. s.items) c.loop-row.rows.items c.pop-in-loop-row.new.self.items c.in-Some-pop.row c.in-Some-pop.ensures.items) c.loop-row.invariant

pub loop-row-preserved : goal.loop-row-preserved
loop-row-preserved g c =
    gather_next g.V.Journaled.by c.args.turns.items (map (λ s. s.items) c.args.rows.items) (map (λ s. s.items) c.loop-row.rows.items) (map (λ s. s.items) c.pop-in-loop-row.new.self.items) c.in-Some-pop.row.items c.loop-row.all.items c.join_row.new.into.items
    (pushed_map (λ s. s.items) c.loop-row.rows.items c.pop-in-loop-row.new.self.items c.in-Some-pop.row c.in-Some-pop.ensures.items) c.join_row.ensures.joined c.join_row.ensures.rest c.loop-row.invariant

pub end_row-requires-clause-rest : goal.end_row-requires-clause-rest
end_row-requires-clause-rest g c = c.loop-row.invariant.one_rests

pub end_row-requires-clause-all : goal.end_row-requires-clause-all
end_row-requires-clause-all g c = λ k h.
    (gather_all g.V.Journaled.by c.args.turns.items (map (λ s. s.items) c.args.rows.items) (map (λ s. s.items) c.loop-row.rows.items) c.loop-row.all.items (ap (map (λ s. s.items)) (empty_of c.loop-row.rows.items (search rules))) c.loop-row.invariant).1 k (c.requires.all k h)
