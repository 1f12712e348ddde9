use Rattle.std.proofs.Common.{reverse, rules, arith, ◌≡◌, [], ◌∷◌, Some, sym, subst, ap}
use Rattle.atomic_table.specs.Table.{opening}
use Rattle.turn_lock.specs.Tickets.{Kept, opening_view}
use Rattle.turn_lock.proofs.Learns.{opens}
use Rattle.turn_lock.proofs.queue.Queue.open.Goals as goal

pub new-requires : goal.new-requires
new-requires g c =
    let e : c.push_reserved.new.self.items ≡ Some c.args.value ∷ [] = search rules in
    let whole = subst (λ l. Kept (λ x. reverse (g.V.Journaled.journal x)) g.V.Journaled.label g.V.Journaled.by c.args.count (opening (0 ∷ 0 ∷ 0 ∷ 0 ∷ 0 ∷ 0 ∷ 0 ∷ 0 ∷ 0 ∷ 0 ∷ []) l (opening_view c.args.count (g.V.Journaled.label c.args.value)))) (sym e)
    (opens _ _ _ _ c.args.value _ (ap reverse c.requires.1) c.requires.0 (omega arith)) in
    subst (λ t. Kept (λ x. reverse (g.V.Journaled.journal x)) g.V.Journaled.label g.V.Journaled.by c.args.count (opening (0 ∷ 0 ∷ 0 ∷ 0 ∷ 0 ∷ 0 ∷ 0 ∷ 0 ∷ 0 ∷ 0 ∷ []) c.push_reserved.new.self.items (opening_view c.args.count t))) (sym c.label-label.ensures) whole
