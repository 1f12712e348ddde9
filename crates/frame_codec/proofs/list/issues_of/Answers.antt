use Rattle.frame_codec.specs.declared.field.ReadError.TheVariants.{Bad}
use Rattle.std.proofs.lemmas.Result.{err_from_is_err_and}
use Rattle.frame_codec.specs.ServerFields.{issued_at}
use Rattle.frame_codec.proofs.Lists.{goes_on, ends, is_done}
use Rattle.frame_codec.proofs.list.issues_of.Goals as goal

pub returns-in_err-issued : goal.returns-in_err-issued
returns-in_err-issued c =
    let p = err_from_is_err_and c.from_residual.result c.from_residual.ensures.1 in
    rw (p.1, p.2) (ends issued_at Bad c.loop.issues.items c.args.count c.loop.counter c.loop.rest.now _ c.requires c.loop-test.true c.in_err-issued.ensures c.loop.invariant)

pub loop-preserved : goal.loop-preserved
loop-preserved c =
    rw (c.in_ok-push.ensures.items) (goes_on issued_at c.loop.issues.items c.args.count c.loop.counter c.loop.rest.now c.in_ok-issued.issued c.in_ok-issued.behind.now _ c.loop-test.true c.in_ok-issued.ensures c.loop.invariant)

pub returns : goal.returns
returns c = rw (c.of.ensures) (is_done issued_at c.loop.issues.items c.args.count c.loop.counter c.loop.rest.now _ c.loop-test.false c.loop.invariant)
