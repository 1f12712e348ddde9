use Rattle.std.proofs.Common.{◌≡◌, ◌∙◌, List, ap, subst, sym}
use Rattle.turn_lock.specs.Seats.{SeatIs}
use Rattle.launch_turns.specs.declared.deed.Deed.{Deed}
use Rattle.site_run.specs.Meeting.{AllBooted}
use Rattle.site_run.specs.Opening.{IsAlone, Opens}
use Rattle.site_run.proofs.Told.{launches_told}
use Rattle.site_run.proofs.Waiting.{alone_same, grown_twice}
use Rattle.site_run.proofs.launching.launch_first.Goals as goal

pub returns-clause-launches : goal.returns-clause-launches
returns-clause-launches g c = λ h.
    let n = c.args.seat.now.number in
    let a = c.launch_row.new.seat in
    let b = c.meet_cells.new.seat in
    let d = c.okd_by.new.seat in
    let number = ap (λ (x : SeatIs Deed). x.number) c.launch_row.ensures.seat in
    launches_told n c.launch_row.new.seats.own a.seen d.seen (grown_twice n a b d number c.meet_cells.ensures.seat c.meet_cells.ensures.grows c.okd_by.ensures.grows) (c.launch_row.ensures.launches h)

pub returns-clause-opens : goal.returns-clause-opens
returns-clause-opens g c = λ h alone.
    let n = c.args.seat.now.number in
    let a = c.launch_row.new.seat in
    let b = c.meet_cells.new.seat in
    let d = c.okd_by.new.seat in
    let number = ap (λ (x : SeatIs Deed). x.number) c.launch_row.ensures.seat in
    let same : d.seen ≡ a.seen = alone_same n a.seen d.seen (grown_twice n a b d number c.meet_cells.ensures.seat c.meet_cells.ensures.grows c.okd_by.ensures.grows) alone in
    let it = c.launch_row.ensures.opens h (subst (IsAlone n) same alone) in
    (it.0, it.1, subst (Opens n it.0 c.launch_row.new.seats.own) (sym same) it.2)

pub returns-clause-booted : goal.returns-clause-booted
returns-clause-booted g c = λ alone s l.
    let n = c.args.seat.now.number in
    let a = c.launch_row.new.seat in
    let b = c.meet_cells.new.seat in
    let d = c.okd_by.new.seat in
    let number = ap (λ (x : SeatIs Deed). x.number) c.launch_row.ensures.seat in
    let same : d.seen ≡ a.seen = alone_same n a.seen d.seen (grown_twice n a b d number c.meet_cells.ensures.seat c.meet_cells.ensures.grows c.okd_by.ensures.grows) alone in
    subst (λ (deeds : List Deed). AllBooted s deeds c.meet_cells.new.rows.items) (sym same) (c.meet_cells.ensures.booted s l)
