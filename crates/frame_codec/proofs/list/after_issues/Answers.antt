use Rattle.std.proofs.Common.{ap}
use Rattle.frame_codec.proofs.Lists.{rest_of}
use Rattle.std.proofs.lemmas.Result.{err_from_is_err_and}
use Rattle.frame_codec.specs.ServerFields.{issued_at}
use Rattle.frame_codec.proofs.Lists.{passes_one, stops_at, passed_all}
use Rattle.frame_codec.proofs.list.after_issues.Goals as goal

pub loop-preserved : goal.loop-preserved
loop-preserved c = passes_one issued_at c.args.count c.loop.counter c.loop.rest.now _ _ c.loop-test.true (ap rest_of c.in_ok-rest.ensures) c.loop.invariant

pub returns-in_err-rest : goal.returns-in_err-rest
returns-in_err-rest c =
    let p = err_from_is_err_and c.from_residual.result c.from_residual.ensures.1 in
    rw p.1 (stops_at issued_at c.args.count c.loop.counter c.loop.rest.now _ c.loop-test.true (ap rest_of c.in_err-rest.ensures) c.loop.invariant)

pub returns : goal.returns
returns c = passed_all issued_at c.args.count c.loop.counter c.loop.rest.now _ c.loop-test.false c.loop.invariant
