use Rattle.std.proofs.Common.{rules, ◌≡◌, ap, ◌∙◌, None}
use Rattle.std.specs.Arc.{arc_value}
use Rattle.std.specs.Prelude.{option_map}
use Rattle.service_cell.specs.Standing.{Standing}
use Rattle.service_cell.specs.Tied.{opened}
use Rattle.service_cell.proofs.Hearing.{at_once_heard}
use Rattle.service_cell.proofs.cell.Cell.supersede_at_once.Goals as goal

pub invariant_of-self-2 : goal.invariant_of-self-2
invariant_of-self-2 g c =
    let shut : opened c.self.inside.speaking ≡ None = ap (λ (x : Standing). x.open_dialog) c.self.view_is ∙ c.requires.closed in
    record {
      tied = search rules;
      heard = at_once_heard (arc_value c.self.inside.config) c.self.inside.seed c.self.inside.service c.self.inside.events.past c.finish.new.events.past c.worker.result c.args.shown c.new-items.result.past (opened c.self.inside.speaking) (option_map g.L.Link.wire c.self.inside.wire) c.self.inside.sent (rw (c.make_room.ensures.past, c.none.ensures) at c.finish.ensures.past) c.new-items.ensures.past shut c.self.invariant.heard;
    }
