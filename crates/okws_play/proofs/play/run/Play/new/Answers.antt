use Rattle.okws_play.proofs.Cells.{new_run}
use Rattle.okws_play.proofs.play.run.Play.new.Goals as goal

pub invariant_of-result : goal.invariant_of-result
invariant_of-result c = new_run _ _ _ _ _ c.requires.sound.few_proxies c.in_ok-columns.ensures c.in_ok-cells.ensures.seats c.in_ok-cells.ensures.stands c.new-2.ensures.items
