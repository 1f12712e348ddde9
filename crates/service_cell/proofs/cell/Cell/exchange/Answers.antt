use Rattle.std.proofs.Common.{rules, ◌≢◌, ap, Some}
use Rattle.monitor_model.specs.Cell.{incarnation}
use Rattle.std.specs.Arc.{arc_value}
use Rattle.service_cell.specs.Steps.{crash_end}
use Rattle.service_cell.specs.Tied.{opened}
use Rattle.service_cell.specs.declared.exchange.Exchanged.TheVariants as exchanged
use Rattle.service_cell.proofs.Hearing.{exchanged_heard, ended_heard}
use Rattle.service_cell.proofs.Stepping.{crashed}
use Rattle.service_cell.proofs.cell.Cell.exchange.Goals as goal

pub returns-in-Crashed-clause-steps : goal.returns-in-Crashed-clause-steps
returns-in-Crashed-clause-steps g c =
    crashed (g.C.Columns.asker c.args.columns.now) c.args.self.now _ c.in-Some.speaking.request c.in-Some.speaking.worker c.in-Some.speaking.items.past c.in-Some.speaking.items.newest c.exchange-exchanged.new.items.past c.exchange-exchanged.new.due (g.C.Columns.seen c.args.columns.now) (g.C.Columns.seen c.exchange-exchanged.new.columns) c.in-Crashed.cause
    (g.L.Link.wire c.in-Some-wire.link) (g.L.Link.wire c.exchange-exchanged.new.link)
    (record { worker = (g.C.Columns.asker c.args.columns.now).worker; service = c.self.inside.service; incarnation = c.self.inside.incarnation })
    (search rules) (search rules) (search rules) (search rules) c.in-Crashed.ensures.exchanged

pub invariant_of-self-in-Goes-2 : goal.invariant_of-self-in-Goes-2
invariant_of-self-in-Goes-2 g c =
    let there : incarnation c.self.inside.events.past ≢ 0 = search rules in
    record {
      tied = search rules;
      heard = exchanged_heard g.L.Link.wire (arc_value c.self.inside.config) c.self.inside.seed c.self.inside.service c.self.inside.events.past c.self.inside.speaking c.in-Some.speaking c.self.inside.wire c.in-Some-wire.link (g.L.Link.wire c.exchange-exchanged.new.link) c.self.inside.sent
          (g.C.Columns.asker c.args.columns.now).config (record { worker = (g.C.Columns.asker c.args.columns.now).worker; service = c.self.inside.service; incarnation = c.self.inside.incarnation }) c.exchange-exchanged.new.items.past c.exchange-exchanged.new.due (g.C.Columns.seen c.args.columns.now) (g.C.Columns.seen c.exchange-exchanged.new.columns) exchanged.Goes there (search rules) c.in-Some-wire.is c.self.invariant.heard c.in-Goes.ensures.exchanged;
    }

pub invariant_of-self-in-Crashed : goal.invariant_of-self-in-Crashed
invariant_of-self-in-Crashed g c =
    let there : incarnation c.self.inside.events.past ≢ 0 = search rules in
    record {
      tied = search rules;
      heard = ended_heard (arc_value c.self.inside.config) c.self.inside.seed c.self.inside.service c.self.inside.events.past c.finish.new.events.past c.in-Some.speaking.worker c.exchange-exchanged.new.items.past c.exchange-exchanged.new.due c.end_of-end.result (crash_end c.in-Crashed.cause) (opened c.take.new.self) (Some (g.L.Link.wire c.exchange-exchanged.new.link)) c.self.inside.sent c.finish.ensures.past c.end_of-end.ensures.end (ap opened c.take.ensures.after)
          (exchanged_heard g.L.Link.wire (arc_value c.self.inside.config) c.self.inside.seed c.self.inside.service c.self.inside.events.past c.self.inside.speaking c.in-Some.speaking c.self.inside.wire c.in-Some-wire.link (g.L.Link.wire c.exchange-exchanged.new.link) c.self.inside.sent
          (g.C.Columns.asker c.args.columns.now).config (record { worker = (g.C.Columns.asker c.args.columns.now).worker; service = c.self.inside.service; incarnation = c.self.inside.incarnation }) c.exchange-exchanged.new.items.past c.exchange-exchanged.new.due (g.C.Columns.seen c.args.columns.now) (g.C.Columns.seen c.exchange-exchanged.new.columns) (exchanged.Crashed c.in-Crashed.cause) there (search rules) c.in-Some-wire.is c.self.invariant.heard c.in-Crashed.ensures.exchanged);
    }
