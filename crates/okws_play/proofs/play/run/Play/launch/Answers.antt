use Rattle.okws_outer.proofs.Printed.{no_front}
use Rattle.okws_play.proofs.Printing.{front_err}
use Rattle.okws_play.proofs.play.run.Play.launch.Goals as goal

pub returns-in_err-begin-clause-printed : goal.returns-in_err-begin-clause-printed
returns-in_err-begin-clause-printed g c = front_err _ _ _ _ c.from_residual.ensures.0 (no_front _ _)
