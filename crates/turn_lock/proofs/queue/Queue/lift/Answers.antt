use Rattle.std.proofs.Common.{◌≡◌, ◌∙◌, ◌∷◌, [], ap, rules, sym, None, Some}
use Rattle.atomic_table.specs.Table.{rest}
use Rattle.turn_lock.proofs.Views.{one_slot}
use Rattle.turn_lock.proofs.queue.Queue.lift.Goals as goal

pub slot_mut-requires : goal.slot_mut-requires
slot_mut-requires g c = (search rules, (Some c.requires.out.0, one_slot _ _ c.requires.out.1))

pub returns-clause-value : goal.returns-clause-value
returns-clause-value g c =
    let me = c.args.place.now.me in
    let none_left : rest me.1 ≡ [] = ap rest c.requires.out.1 in
    let took = c.in-Some.ensures in (
      c.slot_mut.ensures.value ∙ ap (λ l. (0, c.slot_mut.result.now) ∷ l) none_left ∙ ap (λ o. (0, o) ∷ []) (sym took.value),
      ap (λ l. (me.0, l)) (ap (λ o. (0, o) ∷ rest me.1) took.after ∙ ap (λ l. (0, None) ∷ l) none_left),
    )
