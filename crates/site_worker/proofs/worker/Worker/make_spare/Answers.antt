use Rattle.std.proofs.lemmas.Result.{on_ok_weaker}
use Rattle.site_worker.proofs.Lives.{spare_made}
use Rattle.site_worker.proofs.worker.Worker.make_spare.Goals as goal

pub returns-clause-ok : goal.returns-clause-ok
returns-clause-ok g c =
    rw (← c.self.view_is) (on_ok_weaker c.make_spare.result (λ e. spare_made c.self.inside.hands c.make_spare.new.self c.self.inside.at_cells c.self.inside.at_launcher c.self.inside.shown c.args.places e) c.make_spare.ensures.ok)
