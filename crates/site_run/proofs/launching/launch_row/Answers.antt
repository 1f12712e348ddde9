use Rattle.std.proofs.Common.{rules, arith, ◌≡◌, ◌∙◌, ◌+◌, sym, ap, subst}
use Rattle.turn_lock.specs.Seats.{SeatIs}
use Rattle.site_locks.specs.Sat.{Sat}
use Rattle.launch_turns.specs.declared.deed.Deed.{Deed}
use Rattle.site_run.specs.Tied.{OnlyLaunches}
use Rattle.site_run.proofs.Opened.{OpensTo, next_opened}
use Rattle.site_run.proofs.launching.launch_row.Goals as goal

pub loop-service-preserved : goal.loop-service-preserved
loop-service-preserved g c =
    let inv = c.loop-service.invariant in
    let one = c.launch_one.ensures in
    let seat = c.loop-service.seat in
    let seats = c.loop-service.seats in
    let later = c.launch_one.new.seat in
    let now = c.launch_one.new.seats in
    let n = c.args.seat.now.number in
    let number : seat.number ≡ n = ap (λ (x : SeatIs Deed). x.number) inv.seat in
    record {
      seat = one.seat ∙ ap (λ (x : SeatIs Deed). record x { seen = later.seen }) inv.seat;
      seats = one.seats ∙ ap (λ (x : Sat). record x { own = now.own; spare = now.spare }) inv.seats;
      launches = λ h. subst (λ k. OnlyLaunches k now.own later.seen) number (one.launches (subst (λ k. OnlyLaunches k seats.own seat.seen) (sym number) (inv.launches h)));
      opens = λ h. subst (λ k. OpensTo k (c.loop-service.service + 1) now.own later.seen) number
          (next_opened seat.number c.loop-service.service seats.own now.own seat.seen later.seen one.more one.opens (subst (λ k. OpensTo k c.loop-service.service seats.own seat.seen) (sym number) (inv.opens h)));
      enough = let e = inv.enough in let s = one.spends in search (rules, arith);
    }
