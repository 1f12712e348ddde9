use Rattle.std.proofs.Common.{rules, ◌≡◌, ◌<◌, length, sym, subst, get_or, set}
use Rattle.turn_lock.specs.Rows.{Rowing}
use Rattle.turn_lock.proofs.Spots.{empty_of}
use Rattle.turn_lock.proofs.Rows.{rows_first, rows_short, rows_here, rows_taker, rows_next, rows_last}
use Rattle.turn_lock.proofs.row.join_row.Goals as goal

pub loop-other-init : goal.loop-other-init
loop-other-init g c = rows_first g.V.Journaled.by c.args.turns.now.items c.args.others.items c.args.into.now.items c.requires.others c.requires.into

pub index_mut-seat-requires : goal.index_mut-seat-requires
index_mut-seat-requires g c =
    let ts = c.args.turns.now.items in
    let left = c.pop.new.self.items in
    let y : length left < length c.loop-other.into.items = (rows_short g.V.Journaled.by ts c.args.others.items c.args.into.now.items c.loop-other.others.items left c.loop-other.into.items c.in-Some.other c.in-Some.ensures.items c.loop-other.invariant).0 in
    search rules

pub index-requires : goal.index-requires
index-requires g c =
    let ts = c.args.turns.now.items in
    let left = c.pop.new.self.items in
    let y : length left < length ts = (rows_short g.V.Journaled.by ts c.args.others.items c.args.into.now.items c.loop-other.others.items left c.loop-other.into.items c.in-Some.other c.in-Some.ensures.items c.loop-other.invariant).1 in
    search rules

pub join-requires-clause-lock : goal.join-requires-clause-lock
join-requires-clause-lock g c =
    let ts = c.args.turns.now.items in
    let left = c.pop.new.self.items in
    let t = c.index.result.now in
    let a = c.index_mut-seat.result.now in
    let i : c.len-i.result ≡ length left = search rules in
    let at = subst (λ k. t ≡ get_or ts k t) i c.index.ensures in
    let here = subst (λ k. a ≡ get_or c.loop-other.into.items k a) i c.index_mut-seat.ensures.value in (
      (rows_taker g.V.Journaled.by ts c.args.others.items c.args.into.now.items c.loop-other.others.items left c.loop-other.into.items c.in-Some.other a t c.in-Some.ensures.items c.loop-other.invariant at here).lock,
      (rows_here g.V.Journaled.by ts c.args.others.items c.args.into.now.items c.loop-other.others.items left c.loop-other.into.items c.in-Some.other t c.in-Some.ensures.items c.requires.others c.loop-other.invariant at).lock,
    )

pub join-requires-clause-free : goal.join-requires-clause-free
join-requires-clause-free g c =
    let ts = c.args.turns.now.items in
    let left = c.pop.new.self.items in
    let t = c.index.result.now in
    let a = c.index_mut-seat.result.now in
    let i : c.len-i.result ≡ length left = search rules in
    let at = subst (λ k. t ≡ get_or ts k t) i c.index.ensures in
    let here = subst (λ k. a ≡ get_or c.loop-other.into.items k a) i c.index_mut-seat.ensures.value in (
      (rows_taker g.V.Journaled.by ts c.args.others.items c.args.into.now.items c.loop-other.others.items left c.loop-other.into.items c.in-Some.other a t c.in-Some.ensures.items c.loop-other.invariant at here).free,
      (rows_here g.V.Journaled.by ts c.args.others.items c.args.into.now.items c.loop-other.others.items left c.loop-other.into.items c.in-Some.other t c.in-Some.ensures.items c.requires.others c.loop-other.invariant at).free,
    )

pub loop-other-preserved : goal.loop-other-preserved
loop-other-preserved g c =
    let ts = c.args.turns.now.items in
    let left = c.pop.new.self.items in
    let t = c.index.result.now in
    let a = c.index_mut-seat.result.now in
    let b = c.join.new.seat in
    let i : c.len-i.result ≡ length left = search rules in
    let at = subst (λ k. t ≡ get_or ts k t) i c.index.ensures in
    let here = subst (λ k. a ≡ get_or c.loop-other.into.items k a) i c.index_mut-seat.ensures.value in
    subst (λ k. Rowing g.V.Journaled.by ts c.args.others.items left c.args.into.now.items (set c.loop-other.into.items k b)) (sym i)
    (rows_next g.V.Journaled.by ts c.args.others.items c.args.into.now.items c.loop-other.others.items left c.loop-other.into.items c.in-Some.other a b t c.in-Some.ensures.items c.requires.others at here
    (record { is = c.join.ensures.seat; grows = c.join.ensures.grows; both = c.join.ensures.both }) c.loop-other.invariant)

pub returns-clause-joined : goal.returns-clause-joined
returns-clause-joined g c =
    rows_last g.V.Journaled.by c.args.turns.now.items c.args.others.items c.args.into.now.items c.loop-other.others.items c.loop-other.into.items (empty_of c.loop-other.others.items (search rules)) c.loop-other.invariant

pub returns-clause-rest : goal.returns-clause-rest
returns-clause-rest g c = c.loop-other.invariant.rest
