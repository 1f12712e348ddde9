use Rattle.std.proofs.Common.{reverse, rules, ◌∙◌, ◌++◌, ap}
use mathlib.Core.Option.{none}
use Rattle.atomic_table.specs.Table.{step}
use Rattle.turn_lock.proofs.Moves.{joins}
use Rattle.turn_lock.proofs.Learns.{meets}
use Rattle.turn_lock.proofs.Closes.{after_meet}
use Rattle.turn_lock.proofs.queue.Queue.see.Goals as goal

pub join_seat-requires : goal.join_seat-requires
join_seat-requires g c = (search rules, search rules, search rules, search rules, joins _ _ _ _ _ _ _ _ c.requires.rest.1.0)

pub load-requires : goal.load-requires
load-requires g c =
    let m = c.join_seat.ensures.2 in
    (search rules, search rules, meets _ _ _ _ _ _ _ c.args.note.me.0.part (c.args.note.me.0.olds ++ c.args.place.now.me.0.olds) (ap (λ x. x.0.stage) m ∙ c.requires.rest.0.0) (ap (λ x. x.0.olds) m))

pub returns-clause-seen : goal.returns-clause-seen
returns-clause-seen g c = after_meet (λ x. reverse (g.V.Journaled.journal x)) g.V.Journaled.label g.V.Journaled.by 0 (step 0 0 0 0 none) 0 c.join_seat.new.seat.me c.load.new.seat.me c.args.place.now.me.0 c.args.note.me.0 c.args.place.now.me.1 c.join_seat.ensures.2 c.requires.rest.0.0 c.requires.note c.load.ensures.2
