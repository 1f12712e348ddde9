use Rattle.std.proofs.Common.{ℕ, List, [], codes, subst, sym, ◌∙◌}
use Rattle.frame_codec.specs.Spelling.{ServiceHasSpelling}
use Rattle.frame_codec.specs.declared.frame.ServiceFrame.TheVariants.{Reply}
use Rattle.play_script.proofs.Sayable.{reply_has}
use Rattle.play_script.proofs.frames.reply.Goals as goal

pub returns-clause-spelling : goal.returns-clause-spelling
returns-clause-spelling c =
    subst (λ (t : List ℕ). ServiceHasSpelling (Reply 200 t c.of.result c.in_ok-bytes-2.field-0)) (sym c.in_ok-bytes.ensures)
    (subst (λ (t : List ℕ). ServiceHasSpelling (Reply 200 (codes "text/plain") t c.in_ok-bytes-2.field-0)) (sym (c.of.ensures ∙ c.new.ensures.items))
    (subst (λ (t : List ℕ). ServiceHasSpelling (Reply 200 (codes "text/plain") [] t)) (sym c.in_ok-bytes-2.ensures) reply_has))
