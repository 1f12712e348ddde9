use Rattle.std.proofs.Common.{rules}
use Rattle.frame_link.proofs.Sends.{gathers_put, gathers_failed}
use Rattle.frame_link.proofs.sending.put_after.Goals as goal

pub returns-then-is_err : goal.returns-then-is_err
returns-then-is_err g c = λ start text before. gathers_failed start _ text _ _ (λ is. search rules) before

pub returns : goal.returns
returns g c = λ start text before. gathers_put start _ _ text _ _ _ (search rules) before c.put.ensures
