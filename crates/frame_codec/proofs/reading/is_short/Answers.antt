use Rattle.std.proofs.Common.{arith, refl, inr}
use Rattle.frame_codec.proofs.Stops.{short_by_head, bad_by_head, settled}
use Rattle.frame_codec.proofs.reading.is_short.Goals as goal

pub returns-in-Some-clause-short : goal.returns-in-Some-clause-short
returns-in-Some-clause-short c = short_by_head c.args.bytes.now c.in-Some.size c.if-bytes-lt4.false c.in-Some.ensures.told.0 c.in-Some.ensures.told.1

pub returns-in-Some-clause-settled : goal.returns-in-Some-clause-settled
returns-in-Some-clause-settled c =
    let tells = short_by_head c.args.bytes.now c.in-Some.size c.if-bytes-lt4.false c.in-Some.ensures.told.0 c.in-Some.ensures.told.1 in
    λ off. settled c.args.bytes.now (λ i. omega (arith, c.type_inv.bytes i)) (λ short. let on = tells.1 short in cc)

pub returns-in-None-clause-short : goal.returns-in-None-clause-short
returns-in-None-clause-short c = let bad = bad_by_head c.args.bytes.now (c.in-None.ensures.bad refl) in (λ never. absurd cc, λ short. absurd (bad.1 short))

pub returns-in-None-clause-settled : goal.returns-in-None-clause-settled
returns-in-None-clause-settled c = λ off. inr (bad_by_head c.args.bytes.now (c.in-None.ensures.bad refl))
