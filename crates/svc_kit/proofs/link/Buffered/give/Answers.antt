use Rattle.std.proofs.Common.{arith, drop}
use Rattle.std.proofs.lemmas.Grind.{common_steps}
use Rattle.svc_kit.proofs.Kept.{given}
use Rattle.svc_kit.proofs.link.Buffered.give.Goals as goal

pub returns-clause-bytes : goal.returns-clause-bytes
returns-clause-bytes g c =
    let self = c.args.self.now in
    given (g.L.Link.wire self.link).left self.piece.items c.copy_from_slice.new.self (drop c.min-count.result c.args.into.now) self.from self.to c.min-count.result
    (grind (arith, common_steps)) (grind (arith, common_steps)) (grind (arith, common_steps)) (grind (arith, common_steps))
