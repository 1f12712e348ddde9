use Rattle.std.proofs.Common.{rules, arith, ◌≡◌, ◌∙◌, ◌<◌, ◌+◌, refl, ap, subst}
use Rattle.okws_base.specs.Turns.{GrowsBy}
use Rattle.turn_lock.proofs.Grows.{grows_on, grows-same}
use Rattle.turn_lock.specs.Seats.{SeatIs}
use Rattle.launch_turns.specs.Deeds.{by_deed}
use Rattle.launch_turns.specs.Standing.{BootsStand}
use Rattle.launch_turns.specs.declared.deed.Deed.{Deed}
use Rattle.site_run.specs.Meeting.{AllGo, MeetsCell}
use Rattle.site_run.proofs.Taken.{all_same, booted_next, sees_on, stands_before}
use Rattle.site_run.proofs.meeting.meet_cells.Goals as goal

pub loop-service-init : goal.loop-service-init
loop-service-init g c = record {
  seat = refl;
  grows = grows-same by_deed c.args.seat.now.number c.args.seat.now.seen;
  met = all_same g.N.Numbered.launcher c.args.rows.now.items;
  booted = λ s l. absurd (omega (arith, l));
  room = refl;
}

pub loop-service-preserved : goal.loop-service-preserved
loop-service-preserved g c =
    let n = g.N.Numbered.launcher in
    let inv = c.loop-service.invariant in
    let first = c.args.seat.now in
    let seat = c.loop-service.seat in
    let later = c.cell_by-note.new.seat in
    let note = c.cell_by-note.result in
    let s = c.loop-service.service in
    let olds = c.args.rows.now.items in
    let xs = c.loop-service.rows.items in
    let zs = c.meet_cell.new.rows.items in
    let number : seat.number ≡ first.number = ap (λ (x : SeatIs Deed). x.number) inv.seat in
    let grows : GrowsBy by_deed first.number first.seen later.seen
    = grows_on by_deed first.number first.seen seat.seen later.seen inv.grows (subst (λ k. GrowsBy by_deed k seat.seen later.seen) number c.cell_by-note.ensures.grows) in
    let met : AllGo (MeetsCell n s note.seen) xs zs = subst (λ k. AllGo (MeetsCell n k note.seen) xs zs) c.cell_by-note.ensures.here c.meet_cell.ensures.met in
    let stand : BootsStand s first.seen note.seen = stands_before s first.number first.seen later.seen note.seen grows c.cell_by-note.ensures.stand in
    record {
      seat = c.cell_by-note.ensures.seat ∙ ap (λ (x : SeatIs Deed). record x { seen = later.seen }) inv.seat;
      grows = grows;
      met = sees_on n s note.seen olds xs zs met inv.met;
      booted = λ r l. booted_next n s note.seen olds xs zs met first.seen stand inv.booted r (omega (arith, l));
      room = c.meet_cell.ensures.room ∙ inv.room;
    }
