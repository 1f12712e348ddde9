use Rattle.std.proofs.Common.{ℕ, List, subst, sym, ◌∙◌}
use Rattle.frame_codec.specs.declared.frame.ServiceFrame.TheVariants.{Reply}
use Rattle.frame_codec.specs.Spelling.{Bytewise, ServiceHasSpelling}
use Rattle.guestbook.proofs.Sayable.{reply_has}
use Rattle.guestbook.proofs.frames.reply.Goals as goal

pub returns-clause-spelling : goal.returns-clause-spelling
returns-clause-spelling c =
    let fits = subst Bytewise c.as_slice.ensures c.len-size.ensures.fits in
    let has = reply_has c.args.status c.args.content_type.now c.args.location.now c.args.content c.requires.status c.requires.content_type c.requires.location fits c.requires.content in
    subst (λ (t : List ℕ). ServiceHasSpelling (Reply c.args.status t c.of-2.result c.args.content)) (sym (c.of.ensures ∙ c.in_ok-from_slice.ensures.items))
    (subst (λ (t : List ℕ). ServiceHasSpelling (Reply c.args.status c.args.content_type.now t c.args.content)) (sym (c.of-2.ensures ∙ c.in_ok-from_slice-2.ensures.items)) has)
