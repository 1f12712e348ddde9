use Rattle.std.proofs.Common.{subst}
use Rattle.site_worker.specs.Lives.{Sees, Working, life_of}
use Rattle.site_worker.proofs.Lives.{sees_columns}
use Rattle.site_worker.proofs.worker.Worker.write_log.Goals as goal

pub returns : goal.returns
returns g c =
    let now = c.write_out.new.self in
    subst (λ (x : Working). Sees x.life.seen x.life (life_of now c.self.inside.at_cells c.self.inside.at_launcher c.self.inside.shown)) c.self.view_is
    (sees_columns c.self.inside.hands now c.self.inside.at_cells c.self.inside.at_launcher c.self.inside.shown c.write_out.ensures.seen c.write_out.ensures.same c.write_out.ensures.okd c.write_out.ensures.pubd c.write_out.ensures.oklogd)
