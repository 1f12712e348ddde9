use Rattle.std.proofs.Common.{◌∙◌, ℕ, sym, ap, subst}
use Rattle.okws_base.specs.Turns.{GrowsBy}
use Rattle.monitor_model.specs.declared.record.CellEvent.{CellEvent}
use Rattle.service_cell.specs.Dialogs.{Dialogs}
use Rattle.site_cells.specs.Held.{by_event, events_in}
use Rattle.turn_lock.specs.Seats.{SeatIs}
use Rattle.site_cells.specs.Turns.{GivesLast}
use Rattle.site_cells.proofs.EnteredEvents.{found_on}
use Rattle.site_cells.proofs.Stays.{given}
use Rattle.site_cells.proofs.turns.talk.Goals as goal

pub give-requires-clause-adds : goal.give-requires-clause-adds
give-requires-clause-adds g c =
    given (by_event g.N.Numbered.launcher) c.args.seat.now c.take-cell.new.seat c.take-cell.result.holder c.take-cell.result.entered c.dialog-spoken.new.self.entered c.take-cell.ensures.holder c.take-cell.ensures.seat c.dialog-spoken.ensures.adds

pub returns-clause-talked : goal.returns-clause-talked
returns-clause-talked g c =
    let who = g.C.Columns.asker c.args.columns.now in
    let before = c.take-cell.result.standing in
    let after = c.dialog-spoken.new.self.standing in
    let shows = g.C.Columns.shows c.dialog-spoken.new.columns in
    let seen = g.C.Columns.seen c.args.columns.now in
    let now = g.C.Columns.seen c.dialog-spoken.new.columns in
    let here = subst (λ (s : ℕ). Dialogs who (shows s) c.args.head c.args.content c.args.wanted before seen c.dialog-spoken.result after now) c.take-cell.ensures.label c.dialog-spoken.ensures.dialogs in
    record {
      before = before;
      after = after;
      found = record {
        service_is = c.take-cell.ensures.label;
        grows = found_on g.N.Numbered.launcher who.worker c.args.seat.now.seen c.take-cell.result.entered before.past c.keeps.ensures
            (subst (λ (m : ℕ). GrowsBy (by_event g.N.Numbered.launcher) m c.args.seat.now.seen c.take-cell.result.entered) (sym c.requires.worker) c.take-cell.ensures.grows);
      };
      talks = here;
      seen_is = ap (λ (a : SeatIs CellEvent). events_in a.seen) c.give.ensures.seat ∙ sym c.dialog-spoken.ensures.past;
    }

pub returns-clause-gives : goal.returns-clause-gives
returns-clause-gives g c =
    subst (GivesLast c.dialog-spoken.result c.fill_where.new.reply) (c.dialog-spoken.ensures.past ∙ sym (ap (λ (a : SeatIs CellEvent). events_in a.seen) c.give.ensures.seat)) c.fill_where.ensures
