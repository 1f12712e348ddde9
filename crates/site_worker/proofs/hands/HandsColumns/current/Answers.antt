use Rattle.site_worker.proofs.Asking.{keeps_current}
use Rattle.site_worker.proofs.hands.HandsColumns.current.Goals as goal

pub returns-clause-board : goal.returns-clause-board
returns-clause-board g c = rw (← c.self.view_is) (keeps_current g.N.Numbered.site g.N.Numbered.run_seed c.self.inside.seats c.current.new.self c.args.service c.current.result c.current.ensures.least c.current.ensures.seen)
