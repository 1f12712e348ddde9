use Rattle.std.proofs.Common.{List, map, sym, subst}
use Rattle.monitor_model.specs.declared.record.CellEvent.{CellEvent}
use Rattle.site_cells.specs.Held.{by_event}
use Rattle.turn_lock.specs.Seats.{SeatIs}
use Rattle.turn_lock.specs.Rows.{JoinedRow}
use Rattle.site_cells.specs.Closing.{cell_seat}
use Rattle.site_cells.proofs.Joins.{told_both, has_other, has_still}
use Rattle.site_cells.proofs.Seated.{joined_seats}
use Rattle.site_cells.proofs.closing.CellEnds.join.Goals as goal

pub returns-clause-told : goal.returns-clause-told
returns-clause-told g c =
    let k = g.N.Numbered.launcher in
    let os = c.into_row.result.items in
    let now = c.join_row.new.into.items in
    let joined = subst (λ (x : List (SeatIs CellEvent)). JoinedRow (by_event k) (map cell_seat os) x (map cell_seat now)) c.self.view_is (joined_seats (by_event k) os c.self.inside.seats.items now c.join_row.ensures.joined) in
    told_both k c.args.other.number os c.args.self.now (map cell_seat now) c.args.other c.into_row.ensures.alone (sym c.into_row.ensures.seen) joined

pub returns-clause-has : goal.returns-clause-has
returns-clause-has g c =
    let k = g.N.Numbered.launcher in
    let os = c.into_row.result.items in
    let now = c.join_row.new.into.items in
    let joined = joined_seats (by_event k) os c.self.inside.seats.items now c.join_row.ensures.joined in
    has_other k c.args.other.number os (map cell_seat c.self.inside.seats.items) (map cell_seat now) c.args.other c.into_row.ensures.alone (sym c.into_row.ensures.seen) joined

pub returns-clause-still : goal.returns-clause-still
returns-clause-still g c =
    let k = g.N.Numbered.launcher in
    let os = c.into_row.result.items in
    let now = c.join_row.new.into.items in
    let joined = subst (λ (x : List (SeatIs CellEvent)). JoinedRow (by_event k) (map cell_seat os) x (map cell_seat now)) c.self.view_is (joined_seats (by_event k) os c.self.inside.seats.items now c.join_row.ensures.joined) in
    has_still k c.args.other.number os c.args.self.now (map cell_seat now) c.args.other c.into_row.ensures.alone (sym c.into_row.ensures.seen) joined
