use Rattle.std.proofs.Common.{rules, ◌≡◌, ◌∷◌, ◌++◌, [], map, reverse, length, sym, subst}
use Rattle.turn_lock.specs.Rows.{Ending}
use Rattle.turn_lock.proofs.Spots.{empty_of}
use Rattle.turn_lock.proofs.Rows.{ends_first, ends_here, ends_next, ends_last, turned_push, rest_length}
use Rattle.turn_lock.proofs.row.end_row.Goals as goal

pub loop-turn-init : goal.loop-turn-init
loop-turn-init g c =
    let by = g.V.Journaled.by in
    let none = c.requires.room.0 in
    let first = ends_first by c.args.count c.args.turns.items c.args.seats.items c.requires.rest c.requires.counts c.requires.all in
    let alike : length c.args.turns.items ≡ length c.args.seats.items = sym (rest_length c.args.turns.items c.args.seats.items c.requires.rest) in (
      subst (λ d. Ending by c.args.count c.args.turns.items c.args.turns.items c.args.seats.items c.args.seats.items (reverse (map g.V.Journaled.journal d)) (reverse (map g.V.Journaled.label d))) (sym none) first,
      search rules,
      search rules,
    )

pub end-requires-clause-lock : goal.end-requires-clause-lock
end-requires-clause-lock g c =
    (ends_here g.V.Journaled.by c.args.count c.args.turns.items c.args.seats.items c.loop-turn.turns.items c.pop.new.self.items c.loop-turn.seats.items c.pop-in-Some.new.self.items c.in-Some.turn c.in-Some-pop.seat (reverse (map g.V.Journaled.journal c.loop-turn.done.items)) (reverse (map g.V.Journaled.label c.loop-turn.done.items)) c.in-Some.ensures.items c.in-Some-pop.ensures.items c.loop-turn.invariant.0).0.lock

pub end-requires-clause-free : goal.end-requires-clause-free
end-requires-clause-free g c =
    (ends_here g.V.Journaled.by c.args.count c.args.turns.items c.args.seats.items c.loop-turn.turns.items c.pop.new.self.items c.loop-turn.seats.items c.pop-in-Some.new.self.items c.in-Some.turn c.in-Some-pop.seat (reverse (map g.V.Journaled.journal c.loop-turn.done.items)) (reverse (map g.V.Journaled.label c.loop-turn.done.items)) c.in-Some.ensures.items c.in-Some-pop.ensures.items c.loop-turn.invariant.0).0.free

pub end-requires-clause-all : goal.end-requires-clause-all
end-requires-clause-all g c =
    (ends_here g.V.Journaled.by c.args.count c.args.turns.items c.args.seats.items c.loop-turn.turns.items c.pop.new.self.items c.loop-turn.seats.items c.pop-in-Some.new.self.items c.in-Some.turn c.in-Some-pop.seat (reverse (map g.V.Journaled.journal c.loop-turn.done.items)) (reverse (map g.V.Journaled.label c.loop-turn.done.items)) c.in-Some.ensures.items c.in-Some-pop.ensures.items c.loop-turn.invariant.0).1

pub loop-turn-preserved : goal.loop-turn-preserved
loop-turn-preserved g c =
    let by = g.V.Journaled.by in
    let journal = g.V.Journaled.journal in
    let label = g.V.Journaled.label in
    let done = c.loop-turn.done.items in
    let now = c.push_reserved.new.self.items in
    let v = c.end.result in
    let more : now ≡ done ++ v ∷ [] = search rules in
    let next = ends_next by c.args.count c.args.turns.items c.args.seats.items c.loop-turn.turns.items c.pop.new.self.items c.loop-turn.seats.items c.pop-in-Some.new.self.items c.in-Some.turn c.in-Some-pop.seat (journal v) (reverse (map journal done)) (label v) (reverse (map label done))
    c.in-Some.ensures.items c.in-Some-pop.ensures.items c.end.ensures.told c.end.ensures.none c.end.ensures.label c.loop-turn.invariant.0 in
    let one = subst (λ x. Ending by c.args.count c.pop.new.self.items c.args.turns.items c.pop-in-Some.new.self.items c.args.seats.items x (label v ∷ reverse (map label done))) (sym (turned_push journal now done v more)) next in (
      subst (λ x. Ending by c.args.count c.pop.new.self.items c.args.turns.items c.pop-in-Some.new.self.items c.args.seats.items (reverse (map journal now)) x) (sym (turned_push label now done v more)) one,
      search rules,
      search rules,
    )

pub returns-clause-told : goal.returns-clause-told
returns-clause-told g c =
    (ends_last g.V.Journaled.by c.args.count c.args.turns.items c.args.seats.items c.loop-turn.turns.items c.loop-turn.seats.items (reverse (map g.V.Journaled.journal c.loop-turn.done.items)) (reverse (map g.V.Journaled.label c.loop-turn.done.items)) (empty_of c.loop-turn.turns.items (search rules)) c.loop-turn.invariant.0).0

pub returns-clause-none : goal.returns-clause-none
returns-clause-none g c =
    (ends_last g.V.Journaled.by c.args.count c.args.turns.items c.args.seats.items c.loop-turn.turns.items c.loop-turn.seats.items (reverse (map g.V.Journaled.journal c.loop-turn.done.items)) (reverse (map g.V.Journaled.label c.loop-turn.done.items)) (empty_of c.loop-turn.turns.items (search rules)) c.loop-turn.invariant.0).1

pub returns-clause-labels : goal.returns-clause-labels
returns-clause-labels g c =
    (ends_last g.V.Journaled.by c.args.count c.args.turns.items c.args.seats.items c.loop-turn.turns.items c.loop-turn.seats.items (reverse (map g.V.Journaled.journal c.loop-turn.done.items)) (reverse (map g.V.Journaled.label c.loop-turn.done.items)) (empty_of c.loop-turn.turns.items (search rules)) c.loop-turn.invariant.0).2
