use Rattle.std.proofs.Common.{rules, ◌≡◌, ◌≢◌, ap, ◌∙◌, Some, None}
use Rattle.monitor_model.specs.Cell.{incarnation}
use Rattle.std.specs.Arc.{arc_value}
use Rattle.std.specs.declared.result.Result.TheVariants.{Ok, Err}
use Rattle.frame_codec.specs.declared.frame.ServerFrame.TheVariants as frame
use Rattle.service_cell.specs.Steps.{crash_end}
use Rattle.service_cell.specs.Standing.{Standing}
use Rattle.service_cell.specs.Tied.{opened}
use Rattle.service_cell.proofs.Hearing.{opening_is_heard, ended_heard, there_is}
use Rattle.service_cell.proofs.Stepping.{opening_crashed}
use Rattle.service_cell.proofs.cell.Cell.open.Goals as goal

pub invariant_of-self-in-Ok-hear_opening : goal.invariant_of-self-in-Ok-hear_opening
invariant_of-self-in-Ok-hear_opening g c =
    let there : incarnation c.self.inside.events.past ≢ 0 = there_is _ _ (ap (λ (x : Standing). x.past) c.self.view_is) c.requires.there in
    let shut : opened c.self.inside.speaking ≡ None = ap (λ (x : Standing). x.open_dialog) c.self.view_is ∙ c.requires.closed in
    record {
      tied = search rules;
      heard = rw c.make_room.ensures.past (opening_is_heard g.L.Link.wire (arc_value c.self.inside.config) c.self.inside.seed c.self.inside.service c.self.inside.events.past (opened c.self.inside.speaking) c.self.inside.wire c.in-Some.link (g.L.Link.wire c.hear_opening.new.link) c.self.inside.sent
          c.in-Ok.pushes.items c.args.head c.args.content c.hear_opening.new.items.past c.hear_opening.new.due (Ok c.in-Ok-hear_opening.field-0) there shut c.in-Some.is c.self.invariant.heard c.in-Ok-hear_opening.ensures.opens);
    }

pub invariant_of-self-in-Err : goal.invariant_of-self-in-Err
invariant_of-self-in-Err g c =
    let there : incarnation c.self.inside.events.past ≢ 0 = there_is _ _ (ap (λ (x : Standing). x.past) c.self.view_is) c.requires.there in
    let shut : opened c.self.inside.speaking ≡ None = ap (λ (x : Standing). x.open_dialog) c.self.view_is ∙ c.requires.closed in
    record {
      tied = search rules;
      heard = ended_heard (arc_value c.self.inside.config) c.self.inside.seed c.self.inside.service c.self.inside.events.past c.finish.new.events.past c.worker-worker.result c.hear_opening.new.items.past c.hear_opening.new.due c.end_of.result (crash_end c.in-Err.cause) (opened c.self.inside.speaking) (Some (g.L.Link.wire c.hear_opening.new.link)) c.self.inside.sent (rw c.make_room.ensures.past at c.finish.ensures.past) c.end_of.ensures.end shut
          (opening_is_heard g.L.Link.wire (arc_value c.self.inside.config) c.self.inside.seed c.self.inside.service c.self.inside.events.past (opened c.self.inside.speaking) c.self.inside.wire c.in-Some.link (g.L.Link.wire c.hear_opening.new.link) c.self.inside.sent
          c.in-Ok.pushes.items c.args.head c.args.content c.hear_opening.new.items.past c.hear_opening.new.due (Err c.in-Err.cause) there shut c.in-Some.is c.self.invariant.heard c.in-Err.ensures.opens);
    }

pub returns-in-Err-clause-opens : goal.returns-in-Err-clause-opens
returns-in-Err-clause-opens g c =
    opening_crashed (g.C.Columns.asker c.args.columns.now) c.args.request (frame.Request c.args.head c.args.content) c.args.self.now _ (g.C.Columns.seen c.args.columns.now) (g.C.Columns.seen c.drain.new.self) c.in-Ok.pushes.items c.in-Err.cause
    (g.L.Link.wire c.in-Some.link) (g.L.Link.wire c.hear_opening.new.link) c.hear_opening.new.items.past c.hear_opening.new.due (search rules) (search rules) (search rules) c.in-Err.ensures.opens
