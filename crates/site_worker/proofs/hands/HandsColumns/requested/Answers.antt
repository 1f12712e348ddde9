use Rattle.site_worker.proofs.Asking.{keeps_same, same_still}
use Rattle.site_worker.proofs.hands.HandsColumns.requested.Goals as goal

pub returns-clause-board : goal.returns-clause-board
returns-clause-board g c = rw (← c.self.view_is) (keeps_same g.N.Numbered.site g.N.Numbered.run_seed c.self.inside.seats c.self.inside.seats (same_still c.self.inside.seats))
