use Rattle.std.proofs.Common.{◌≡◌, ◌∙◌, ◌∷◌, [], ap, rules, None, Some}
use Rattle.atomic_table.specs.Table.{rest}
use Rattle.turn_lock.proofs.Views.{one_slot}
use Rattle.turn_lock.proofs.queue.Queue.lay.Goals as goal

pub slot_mut-requires : goal.slot_mut-requires
slot_mut-requires g c = (search rules, (None, one_slot _ _ c.requires.out))

pub returns-clause-value : goal.returns-clause-value
returns-clause-value g c =
    let me = c.args.place.now.me in
    let none_left : rest me.1 ≡ [] = ap rest c.requires.out in
    ap (λ l. (me.0, l)) (ap (λ o. (0, o) ∷ rest me.1) c.in-None.ensures.after ∙ ap (λ l. (0, Some c.args.value) ∷ l) none_left)
