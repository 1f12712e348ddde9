use Rattle.site_worker.proofs.Asking.{heard_same, keeps_same}
use Rattle.site_worker.proofs.hands.HandsHearsNotedLink.hear.Goals as goal

pub returns-clause-may : goal.returns-clause-may
returns-clause-may g c = λ s k leads. c.tell.ensures.told s k leads

pub returns-clause-seen : goal.returns-clause-seen
returns-clause-seen g c = rw (← c.self.view_is) c.tell.ensures.sees.seen

pub returns-clause-board : goal.returns-clause-board
returns-clause-board g c = rw (← c.self.view_is) (keeps_same g.N.Numbered.site g.N.Numbered.run_seed c.self.inside.seats c.tell.new.seats (heard_same c.self.inside.seats c.tell.new.seats c.tell.ensures.sees))
