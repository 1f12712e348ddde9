use Rattle.std.proofs.Common.{rules, arith, ◌∙◌, [], map, sym, ap, subst}
use Rattle.turn_lock.specs.Tickets.{AreNew, IsNew, dealer, dealt, note_number}
use Rattle.turn_lock.proofs.Spots.{new-push, is_new}
use Rattle.turn_lock.proofs.queue.Queue.deal_all.Goals as goal

pub loop-number-preserved : goal.loop-number-preserved
loop-number-preserved g c =
    let i = c.loop-number.invariant in
    let z = c.args.self.now.table.shared.table_id in
    let d = c.deal-new.ensures in
    let t = c.loop-number-test.true in
    let new = is_new z c.deal-new.result c.loop-number.number note_number c.args.self.now.table.shared.key.1 (d.new.0 ∙ i.0 ∙ c.requires.table) (d.new.1 ∙ ap (λ m. (dealt m.0, [])) i.1) (λ e. omega arith) in
    let at = subst (IsNew z c.args.self.now.table.shared.key.1 c.loop-number.number) (sym c.seated.ensures.1) new in (
      search rules,
      d.old.1 ∙ ap (λ m. (dealer m.0, m.1)) i.1,
      subst (λ l. AreNew z c.args.self.now.table.shared.key.1 0 (map (λ s. s.place) l)) (sym c.push_reserved.ensures.items) (new-push (λ s. s.place) z c.args.self.now.table.shared.key.1 0 c.loop-number.number c.loop-number.spots.items c.seated.result (omega arith) i.2 at),
      search rules,
      search rules,
    )
