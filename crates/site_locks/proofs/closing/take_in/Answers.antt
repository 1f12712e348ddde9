use Rattle.std.proofs.Common.{sym, subst}
use Rattle.turn_lock.specs.Rows.{RestRow}
use Rattle.site_locks.specs.Closing.{EndsAre}
use Rattle.site_locks.specs.Sat.{LocksAre}
use Rattle.site_locks.proofs.closing.take_in.Goals as goal

pub join_row-requires-clause-others : goal.join_row-requires-clause-others
join_row-requires-clause-others g c =
    subst (λ (l : LocksAre). RestRow l.proxies c.more.inside.proxies.items) (sym c.locks.view_is)
    (subst (λ (e : EndsAre). RestRow c.args.locks.now.proxies e.proxies) (sym c.more.view_is) c.part-more.ensures.rest.proxies)
