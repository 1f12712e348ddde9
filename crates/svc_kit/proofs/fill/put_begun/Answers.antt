use Rattle.std.proofs.Common.{[], ◌∷◌, ◌++◌, map}
use Rattle.svc_kit.specs.Filled.{pair_of}
use Rattle.svc_kit.proofs.PutParts.{itself_put}
use Rattle.svc_kit.proofs.fill.put_begun.Goals as goal

pub returns-in_ok-put-in-None-2 : goal.returns-in_ok-put-in-None-2
returns-in_ok-put-in-None-2 c =
    λ before held. itself_put (map pair_of c.args.pairs.now) _ before c.args.piece.now c.args.at _ c.in-None.ensures (c.in_ok-put-in-None-2.ensures (before ++ 64 ∷ []) (c.in_ok-put-in-None.ensures before held))
