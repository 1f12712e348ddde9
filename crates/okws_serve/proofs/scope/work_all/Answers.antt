use Rattle.okws_serve.proofs.Manned.{works_each}
use Rattle.okws_serve.proofs.scope.work_all.Goals as goal

pub returns : goal.returns
returns g c =
    works_each g.D.Conn.Conn.wire g.N.Numbered.site g.N.Numbered.launcher c.args.posts.now c.work_each.new.all c.work_each.ensures.many (λ i d l. c.work_each.ensures.each i d l)
