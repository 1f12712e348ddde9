use Rattle.std.proofs.Common.{rules, arith, ◌-◌, map, sym, ap, subst}
use Rattle.turn_lock.specs.Tickets.{AreNew, IsNew}
use Rattle.turn_lock.proofs.Spots.{new-push, is_new}
use Rattle.turn_lock.proofs.queue.Queue.new.Goals as goal

pub returns-clause-ok : goal.returns-clause-ok
returns-clause-ok g c =
    let z = c.in_ok-queue.queue.table.shared.table_id in
    let tag = c.in_ok-queue.queue.table.shared.key.1 in
    let d = c.deal_all.ensures in
    let new = is_new z c.deal_all.new.place (c.args.count - 1) (c.args.count - 1) tag (search rules) d.last (λ e. omega arith) in
    let at = subst (IsNew z tag (c.args.count - 1)) (sym c.seated.ensures.1) new in (
      search rules,
      search rules,
      subst (λ t. AreNew z t 0 (map (λ s. s.place) c.push_reserved.new.self.items)) (ap (λ k. k.1) c.in_ok-queue.ensures.ok.0)
          (subst (λ l. AreNew z tag 0 (map (λ s. s.place) l)) (sym c.push_reserved.ensures.items) (new-push (λ s. s.place) z tag 0 (c.args.count - 1) c.deal_all.new.spots.items c.seated.result (omega arith) d.others.0 at)),
    )
