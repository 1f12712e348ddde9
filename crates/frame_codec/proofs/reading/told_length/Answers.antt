use Rattle.std.proofs.Common.{arith, refl, subst, sym}
use Rattle.frame_codec.specs.Stream.{IsBad}
use Rattle.frame_codec.proofs.Stops.{head_is, unlawful_is_bad}
use Rattle.frame_codec.proofs.reading.told_length.Goals as goal

pub returns-in-Some-clause-told : goal.returns-in-Some-clause-told
returns-in-Some-clause-told c =
    (c.in-Some.ensures.lawful.0 refl, head_is c.args.head.now c.number_of-size.result (λ i. omega (arith, c.type_inv.head i)) c.number_of-size.ensures)

pub returns-in-None-clause-bad : goal.returns-in-None-clause-bad
returns-in-None-clause-bad c =
    let is = head_is c.args.head.now c.number_of-size.result (λ i. omega (arith, c.type_inv.head i)) c.number_of-size.ensures in
    λ _. subst IsBad (sym is) (unlawful_is_bad c.number_of-size.result c.number_of-size.type_inv (λ lawful. let no = c.in-None.ensures.lawful.1 lawful in cc))
