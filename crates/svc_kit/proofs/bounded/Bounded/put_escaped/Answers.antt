use Rattle.std.proofs.Common.{List, ℕ, ◌++◌, take, subst, refl}
use Rattle.svc_kit.specs.Bounded.{Holds}
use Rattle.svc_kit.specs.Escape.{escaped}
use Rattle.svc_kit.proofs.Escaping.{escaped_more}
use Rattle.svc_kit.proofs.bounded.Bounded.put_escaped.Goals as goal

pub loop-byte-preserved : goal.loop-byte-preserved
loop-byte-preserved c =
    λ text held.
    subst (λ (t : List ℕ). Holds c.put_escaped_byte.new.self t) (escaped_more text c.args.value.now c.loop-byte.byte-index _ c.loop-byte-test.true refl)
    (c.in_ok-put_escaped_byte.ensures (text ++ escaped (take c.loop-byte.byte-index c.args.value.now)) (c.loop-byte.invariant text held))
