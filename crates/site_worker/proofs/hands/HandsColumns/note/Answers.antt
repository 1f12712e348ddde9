use Rattle.site_worker.proofs.Asking.{keeps_same, notes_same}
use Rattle.site_worker.proofs.hands.HandsColumns.note.Goals as goal

pub returns-clause-board : goal.returns-clause-board
returns-clause-board g c = rw (← c.self.view_is) (keeps_same g.N.Numbered.site g.N.Numbered.run_seed c.self.inside.seats c.note.new.self (notes_same c.note.result c.args.item c.self.inside.seats c.note.new.self c.note.ensures.ok c.note.ensures.err))
