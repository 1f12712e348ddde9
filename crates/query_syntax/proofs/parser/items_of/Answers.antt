use Rattle.std.proofs.Common.{◌∙◌, sym}
use Rattle.std.proofs.lemmas.Result.{err_from_is_err_and}
use Rattle.query_syntax.proofs.Lists.{begins_list, goes_on, fails, ends, is_done}
use Rattle.query_syntax.proofs.parser.items_of.Goals as goal

pub loop-init : goal.loop-init
loop-init g c = rw (c.in_ok-push.ensures.items, c.new-items.ensures.items) (begins_list c.args.separator g.T.Item.reading c.args.tokens.now c.in_ok-first.first c.in_ok-first.rest.now c.in_ok-first.ensures)

pub returns-then-not-starts : goal.returns-then-not-starts
returns-then-not-starts g c = rw c.of.ensures (ends c.args.separator g.T.Item.reading c.loop.items.items _ c.loop.rest.now _ (sym c.starts.ensures ∙ c.if-not-starts.true) c.loop.invariant)

pub returns-in_err-item : goal.returns-in_err-item
returns-in_err-item g c =
    let p = err_from_is_err_and c.from_residual-in_err-item.result c.from_residual-in_err-item.ensures.1 in
    rw (p.1, p.2) (fails c.in_err-item.field-0.0 c.args.separator g.T.Item.reading c.loop.items.items _ c.loop.counter c.loop.rest.now _ c.loop-test.true (sym c.starts.ensures ∙ c.if-not-starts.false) (rw c.after_first.ensures at c.in_err-item.ensures) c.loop.invariant)

pub loop-preserved : goal.loop-preserved
loop-preserved g c =
    rw c.in_ok-push-2.ensures.items (goes_on c.args.separator g.T.Item.reading c.loop.items.items _ c.loop.counter c.loop.rest.now c.in_ok-item.item c.in_ok-item.after.now _ c.loop-test.true (sym c.starts.ensures ∙ c.if-not-starts.false) (rw c.after_first.ensures at c.in_ok-item.ensures) c.loop.invariant)

pub returns : goal.returns
returns g c = rw c.of-2.ensures (is_done c.args.separator g.T.Item.reading c.loop.items.items _ c.loop.counter c.loop.rest.now _ c.loop-test.false c.loop.invariant)
