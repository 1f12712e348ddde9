use Rattle.std.proofs.Common.{rules, ◌≡◌, ◌∙◌, ◌<◌, length, sym, subst}
use Rattle.named_columns.specs.Held.{HeldProxy}
use Rattle.turn_lock.specs.Rows.{RowHas}
use Rattle.turn_lock.specs.Seats.{TurnIs, HasSight, sights}
use Rattle.site_locks.specs.Closing.{EndsAre}
use Rattle.site_locks.proofs.Closes.{as_many}
use Rattle.site_locks.proofs.locks.Locks.end.Goals as goal

pub end_row-requires-clause-all : goal.end_row-requires-clause-all
end_row-requires-clause-all g c = λ k l. subst (λ (e : EndsAre). RowHas k e.proxies) (sym c.ends.view_is) (c.requires.all k l).proxies

pub end-requires-clause-all : goal.end-requires-clause-all
end-requires-clause-all g c = λ k l. subst (λ (e : EndsAre). HasSight k (sights e.okd)) (sym c.ends.view_is) (c.requires.all k (subst (λ m. k < m) (c.self.invariant.okd_count ∙ sym c.requires.count) l)).okd

pub end-requires-2-clause-all : goal.end-requires-2-clause-all
end-requires-2-clause-all g c = λ k l. subst (λ (e : EndsAre). HasSight k (sights e.pubd)) (sym c.ends.view_is) (c.requires.all k (subst (λ m. k < m) (c.self.invariant.pubd_count ∙ sym c.requires.count) l)).pubd

pub end-requires-3-clause-all : goal.end-requires-3-clause-all
end-requires-3-clause-all g c = λ k l. subst (λ (e : EndsAre). HasSight k (sights e.oklogd)) (sym c.ends.view_is) (c.requires.all k (subst (λ m. k < m) (c.self.invariant.oklogd_count ∙ sym c.requires.count) l)).oklogd

pub returns-clause-many : goal.returns-clause-many
returns-clause-many g c =
    let many : length c.end_row.new.done.items ≡ length g.N.Numbered.site.proxies = as_many (λ (x : HeldProxy). x.number) (λ (t : TurnIs). t.label) c.end_row.new.done.items c.self.inside.proxies.items c.end_row.ensures.labels ∙ c.self.invariant.declared in
    search rules
