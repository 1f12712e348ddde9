use Rattle.std.proofs.Common.{ℕ, List, subst, sym}
use Rattle.frame_codec.specs.Spelling.{ServiceHasSpelling}
use Rattle.frame_codec.specs.declared.frame.ServiceFrame.TheVariants.{Log}
use Rattle.play_script.proofs.Sayable.{log_has}
use Rattle.play_script.proofs.frames.log.Goals as goal

pub returns-clause-spelling : goal.returns-clause-spelling
returns-clause-spelling c = subst (λ (t : List ℕ). ServiceHasSpelling (Log t)) (sym c.in_ok-bytes.ensures) log_has
