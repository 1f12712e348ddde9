use Rattle.std.proofs.Common.{◌∙◌}
use Rattle.std.specs.Prelude.{option_map}
use Rattle.launch_crew.specs.Crews.{running_at}
use Rattle.site_cells.specs.Row.{link_at}
use Rattle.launch_crew.proofs.Ended.{linked_map}
use Rattle.launch_crew.proofs.Finishing.{ends_of_child}
use Rattle.launch_crew.proofs.Stopping.{emptied_alike, ended_alike, has_stopped}
use Rattle.launch_crew.proofs.crew.Crew.empty.Goals as goal

pub release-requires-clause-stopped : goal.release-requires-clause-stopped
release-requires-clause-stopped g c = has_stopped c.args.service c.args.self.now.staff c.stop.result c.stop.new.self c.stop.ensures

pub returns-clause-empties : goal.returns-clause-empties
returns-clause-empties g c =
    let link = option_map g.F.Link.Link.wire c.retire-link.result in
    record {
      sat_is = c.retire-link.ensures.columns;
      only = c.retire-link.ensures.only;
      running_is = c.release.ensures.running ∙ emptied_alike c.args.service c.args.self.now.staff c.stop.result c.stop.new.self c.stop.ensures;
      link = link;
      family_is = c.release.ensures.family ∙ ended_alike c.args.service c.args.self.now.staff c.stop.result c.stop.new.self link c.stop.ensures;
      none = c.retire-link.ensures.empty;
      last = c.retire-link.ensures.last;
      behind = c.retire-link.ensures.behind;
      own_is = c.retire-link.ensures.own;
      room = c.retire-link.ensures.room;
      link_is = linked_map g.F.Link.Link.wire c.retire-link.result ∙ c.retire-link.ensures.link;
      unlinked = c.retire-link.ensures.unlinked;
    }

pub returns-clause-ended : goal.returns-clause-ended
returns-clause-ended g c = λ attended.
    let s = c.args.service in
    let a = c.args.self.now.recorder in
    let t = c.args.self.now.staff in
    let link = option_map g.F.Link.Link.wire c.retire-link.result in
    ends_of_child g.N.Numbered.site g.N.Numbered.run_seed s a.watch c.retire-link.new.self.watch t.family c.release.new.self.family (running_at t.running s) link (link_at a.watch s)
    (c.release.ensures.family ∙ ended_alike s t c.stop.result c.stop.new.self link c.stop.ensures)
    (linked_map g.F.Link.Link.wire c.retire-link.result ∙ c.retire-link.ensures.link)
    (attended s) c.retire-link.ensures.last c.retire-link.ensures.empty c.retire-link.ensures.holds c.retire-link.ensures.out
