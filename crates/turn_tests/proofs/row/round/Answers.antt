use Rattle.std.proofs.Common.{rules, ◌<◌, length}
use Rattle.turn_lock.proofs.Rows.{rest_length, rest_at}
use Rattle.turn_tests.proofs.Rounds.{seen_same, seen_on, seen_rest, seen_set, seen_length}
use Rattle.turn_tests.proofs.row.round.Goals as goal

pub loop-i-init : goal.loop-i-init
loop-i-init g c = seen_same c.args.seats.now.items

pub index-requires : goal.index-requires
index-requires g c =
    let h = rest_length c.args.turns.now.items c.args.seats.now.items c.requires in
    search rules

pub enter-requires-clause-lock : goal.enter-requires-clause-lock
enter-requires-clause-lock g c =
    let ts = c.args.turns.now.items in
    let now = c.loop-i.seats.items in
    let k = seen_length c.args.seats.now.items now c.loop-i.invariant in
    let l : c.loop-i.i < length now = search rules in
    (rest_at ts now (seen_rest ts c.args.seats.now.items now c.loop-i.invariant c.requires) c.loop-i.i c.index.result.now c.index_mut.result.now l c.index.ensures c.index_mut.ensures.value).lock

pub enter-requires-clause-free : goal.enter-requires-clause-free
enter-requires-clause-free g c =
    let ts = c.args.turns.now.items in
    let now = c.loop-i.seats.items in
    let k = seen_length c.args.seats.now.items now c.loop-i.invariant in
    let l : c.loop-i.i < length now = search rules in
    (rest_at ts now (seen_rest ts c.args.seats.now.items now c.loop-i.invariant c.requires) c.loop-i.i c.index.result.now c.index_mut.result.now l c.index.ensures c.index_mut.ensures.value).free

pub returns-in_err-enter : goal.returns-in_err-enter
returns-in_err-enter g c =
    let now = c.loop-i.seats.items in
    let k = seen_length c.args.seats.now.items now c.loop-i.invariant in
    let l : c.loop-i.i < length now = search rules in
    seen_on c.args.seats.now.items now _ c.loop-i.invariant (seen_set now c.loop-i.i c.index_mut.result.now c.enter.new.seat l c.index_mut.ensures.value c.enter.ensures)

pub loop-i-preserved : goal.loop-i-preserved
loop-i-preserved g c =
    let now = c.loop-i.seats.items in
    let k = seen_length c.args.seats.now.items now c.loop-i.invariant in
    let l : c.loop-i.i < length now = search rules in
    seen_on c.args.seats.now.items now _ c.loop-i.invariant (seen_set now c.loop-i.i c.index_mut.result.now c.enter.new.seat l c.index_mut.ensures.value c.enter.ensures)
