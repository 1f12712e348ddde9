use Rattle.std.proofs.Common.{◌++◌, map, take}
use Rattle.svc_kit.specs.Templates.{place}
use Rattle.svc_kit.specs.Filled.{pair_of, meaning}
use Rattle.svc_kit.proofs.PutParts.{closed_put, closed_exits}
use Rattle.svc_kit.proofs.fill.put_closed.Goals as goal

pub returns-in_err-put_place-in-Some : goal.returns-in_err-put_place-in-Some
returns-in_err-put_place-in-Some c =
    λ before held. closed_exits (map pair_of c.args.pairs.now) _ c.in_err-put_place-in-Some.field-0.0 c.args.rest.now c.args.at c.in-Some.end _ _ _ c.in-Some.ensures c.from_residual.ensures.1 (c.in_err-put_place-in-Some.ensures before held)

pub returns-in_ok-put-in-Some : goal.returns-in_ok-put-in-Some
returns-in_ok-put-in-Some c =
    λ before held.
    let put = c.in_ok-put_place-in-Some.ensures before held in
    closed_put (map pair_of c.args.pairs.now) _ before c.args.rest.now c.args.at c.in-Some.end _ c.in-Some.ensures put.0
    (c.in_ok-put-in-Some.ensures (before ++ meaning (map pair_of c.args.pairs.now) (place c.args.at (take c.in-Some.end c.args.rest.now))) put.1)
