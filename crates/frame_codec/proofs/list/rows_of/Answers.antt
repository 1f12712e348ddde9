use Rattle.std.proofs.lemmas.Result.{err_from_is_err_and}
use Rattle.frame_codec.specs.Reading.{many_at}
use Rattle.frame_codec.proofs.Lists.{goes_on, ends, is_done, one_stands}
use Rattle.frame_codec.proofs.list.rows_of.Goals as goal

pub returns-in_err-row : goal.returns-in_err-row
returns-in_err-row c =
    let p = err_from_is_err_and c.from_residual.result c.from_residual.ensures.1 in
    rw (p.1, p.2) (ends (many_at c.args.columns) c.in_err-row.field-0.0 c.loop.rows.items c.args.count c.loop.counter c.loop.rest.now _ c.requires c.loop-test.true c.in_err-row.ensures c.loop.invariant)

pub loop-preserved : goal.loop-preserved
loop-preserved c =
    rw (c.in_ok-push.ensures.items) (goes_on (many_at c.args.columns) c.loop.rows.items c.args.count c.loop.counter c.loop.rest.now c.in_ok-row.row c.in_ok-row.behind.now _ c.loop-test.true c.in_ok-row.ensures c.loop.invariant)

pub returns : goal.returns
returns c = rw (c.of.ensures) (is_done (many_at c.args.columns) c.loop.rows.items c.args.count c.loop.counter c.loop.rest.now _ c.loop-test.false c.loop.invariant)

pub many_of-requires : goal.many_of-requires
many_of-requires c = one_stands (many_at c.args.columns) c.loop.rows.items c.args.count c.loop.counter c.loop.rest.now _ c.requires c.loop-test.true c.loop.invariant
