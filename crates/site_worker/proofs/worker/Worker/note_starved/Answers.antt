use Rattle.site_worker.proofs.Lives.{noted_starves}
use Rattle.site_worker.proofs.worker.Worker.note_starved.Goals as goal

pub returns-clause-notes : goal.returns-clause-notes
returns-clause-notes g c = rw (← c.self.view_is) (noted_starves c.self.inside.hands c.note_spare.new.self c.self.inside.at_cells c.self.inside.at_launcher c.self.inside.shown c.note_spare.ensures)
