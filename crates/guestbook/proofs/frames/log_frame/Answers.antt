use Rattle.std.proofs.Common.{◌≡◌, ℕ, List, ◌≤◌, ◌++◌, length, arith, subst, sym, ◌∙◌, rules}
use Rattle.std.specs.Prelude.{codes}
use Rattle.std.specs.Fmt.{signed_decimal}
use Rattle.std.proofs.lemmas.Fmt.{length_signed_le}
use Rattle.std.proofs.lemmas.List.{length-append}
use Rattle.frame_codec.specs.declared.frame.ServiceFrame.TheVariants.{Log}
use Rattle.frame_codec.specs.Spelling.{Bytewise, ServiceHasSpelling}
use Rattle.guestbook.proofs.Sayable.{log_has}
use Rattle.guestbook.proofs.frames.log_frame.Goals as goal

pub returns-clause-spelling : goal.returns-clause-spelling
returns-clause-spelling c =
    let text = codes "post " ++ signed_decimal c.args.id in
    let is : c.of.result ≡ text = search rules in
    let fits : Bytewise text = subst Bytewise (c.deref.ensures.value ∙ sym c.of.ensures ∙ is) c.len-size.ensures.fits in
    let few : length (signed_decimal c.args.id) ≤ 21 = length_signed_le 20 c.args.id (omega (arith, c.ranges.id.sfits)) c.ranges.id.sfits in
    subst (λ (t : List ℕ). ServiceHasSpelling (Log t)) (sym is) (log_has text fits (omega (arith, length-append (codes "post ") (signed_decimal c.args.id), few)))
