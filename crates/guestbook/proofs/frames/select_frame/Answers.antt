use Rattle.std.proofs.Common.{List, arith, subst, sym, ◌∙◌}
use Rattle.okws_base.specs.declared.value.Value.{Value}
use Rattle.frame_codec.specs.declared.frame.ServiceFrame.TheVariants.{Call}
use Rattle.frame_codec.specs.Spelling.{ServiceHasSpelling}
use Rattle.guestbook.proofs.Sayable.{select_has}
use Rattle.guestbook.proofs.frames.select_frame.Goals as goal

pub returns-clause-spelling : goal.returns-clause-spelling
returns-clause-spelling c =
    subst (λ (args : List Value). ServiceHasSpelling (Call 0 c.args.session 1 args)) (sym (c.of.ensures ∙ c.new.ensures.items)) (select_has c.args.session (omega arith))
