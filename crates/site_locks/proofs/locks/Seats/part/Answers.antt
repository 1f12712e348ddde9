use Rattle.site_locks.proofs.Closes.{are_of, of_rests}
use Rattle.site_locks.proofs.locks.Seats.part.Goals as goal

pub returns-clause-rest : goal.returns-clause-rest
returns-clause-rest g c =
    let s = c.self.inside in
    rw (← c.locks.view_is) (of_rests _ _ _ c.locks.invariant.labels (are_of _ g.J.Site.ids s.number s.okd s.proxies.items s.pubd s.oklogd s.board s.own.past s.spare c.locks.invariant.ids_are c.self.invariant.0))
