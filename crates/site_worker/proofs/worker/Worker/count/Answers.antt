use Rattle.std.proofs.Common.{subst}
use Rattle.site_worker.specs.Lives.{Working, life_of}
use Rattle.site_worker.specs.Steering.{Counts}
use Rattle.site_worker.proofs.Counting.{counts_of}
use Rattle.site_worker.proofs.worker.Worker.count.Goals as goal

pub returns : goal.returns
returns g c =
    let now = c.count.new.self in
    subst (λ (x : Working). Counts g.N.Numbered.site c.args.note c.count.result x.life (life_of now c.self.inside.at_cells c.self.inside.at_launcher c.self.inside.shown)) c.self.view_is
    (counts_of g.N.Numbered.site c.args.note c.count.result c.self.inside.hands now c.self.inside.at_cells c.self.inside.at_launcher c.self.inside.shown c.count.ensures.counts)
