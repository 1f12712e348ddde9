use Rattle.site_worker.proofs.Booted.{was_booted}
use Rattle.site_worker.proofs.worker.Worker.dialog.Goals as goal

pub returns-clause-booted : goal.returns-clause-booted
returns-clause-booted g c = was_booted _ _ _ _ _ _ _ _ _ _ _ _ c.dialog.ensures.talked
