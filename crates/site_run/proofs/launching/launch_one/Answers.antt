use Rattle.std.proofs.Common.{Bool, false, ap, ◌∙◌, subst}
use Rattle.site_locks.specs.Sat.{Sat}
use Rattle.okld_launch.specs.Ups.{launch_up_if}
use Rattle.site_run.specs.Tied.{IsNotedWhere}
use Rattle.site_run.proofs.Noted.{launch_noted}
use Rattle.site_run.proofs.Opened.{launch_opened, turn_behind}
use Rattle.site_run.proofs.launching.launch_one.Goals as goal

pub returns-clause-launches : goal.returns-clause-launches
returns-clause-launches g c = λ h.
    let by = c.launch_by-launched.ensures.goes in
    launch_noted g.N.Numbered.site c.args.seat.now.number c.args.service c.launch_by-launched.result.0 c.launch_by-launched.result.1 c.args.seats.now.own c.note_entered.new.seats.own c.note_where.new.seats.own c.args.seat.now.seen by.before by.after
    c.launch_by-launched.new.seat.seen by.turn by.goes (ap (λ (s : Sat). s.own) c.note_entered.ensures.notes)
    (subst (λ (b : Bool). IsNotedWhere b c.note_entered.new.seats.own c.note_where.new.seats.own) c.starved.ensures.is c.note_where.ensures.notes) h

pub returns-clause-more : goal.returns-clause-more
returns-clause-more g c =
    let by = c.launch_by-launched.ensures.goes in
    turn_behind g.N.Numbered.site c.args.seat.now.number c.launch_by-launched.result.1 c.args.seat.now.seen by.before by.after (launch_up_if c.launch_by-launched.result.0) false c.launch_by-launched.new.seat.seen by.turn

pub returns-clause-opens : goal.returns-clause-opens
returns-clause-opens g c = λ os many opens alone.
    let C = g.N.Numbered.site in
    let n = c.args.seat.now.number in
    let by = c.launch_by-launched.ensures.goes in
    launch_opened C n c.args.service c.launch_by-launched.result.0 c.launch_by-launched.result.1 c.starved.result c.args.seats.now.own c.note_entered.new.seats.own c.note_where.new.seats.own c.args.seat.now.seen by.before by.after
    c.launch_by-launched.new.seat.seen os c.starved.ensures.opens c.requires.retry by.turn by.goes (ap (λ (s : Sat). s.own) c.note_entered.ensures.notes) c.note_where.ensures.notes many opens alone
