use Rattle.std.proofs.Common.{◌≡◌, ◌∙◌, ℕ, arith, refl, ap, subst}
use Rattle.std.specs.Prelude.{is_some}
use Rattle.launch_turns.specs.Looking.{Stands, stands_dead, stands_down, stands_up}
use Rattle.launch_turns.proofs.Counted.{stands_more, under}
use Rattle.launch_turns.proofs.looking.standing_of.Goals as goal

pub loop-service-init : goal.loop-service-init
loop-service-init g c = record { up = refl; down = refl; dead = refl }

pub and-next-requires-clause-up : goal.and-next-requires-clause-up
and-next-requires-clause-up g c =
    let l = c.args.launcher.now in
    under (stands_up l.crew.sat.okd) c.loop-service.service c.args.services c.loop-service.standing.up c.loop-service.invariant.up c.loop-service-test.true c.ranges.services.fits

pub and-next-requires-clause-down : goal.and-next-requires-clause-down
and-next-requires-clause-down g c =
    let l = c.args.launcher.now in
    under (stands_down l.crew.sat.okd l.journal.past) c.loop-service.service c.args.services c.loop-service.standing.down c.loop-service.invariant.down c.loop-service-test.true c.ranges.services.fits

pub and-next-requires-clause-dead : goal.and-next-requires-clause-dead
and-next-requires-clause-dead g c =
    let l = c.args.launcher.now in
    under (stands_dead l.crew.sat.okd l.journal.past) c.loop-service.service c.args.services c.loop-service.standing.dead c.loop-service.invariant.dead c.loop-service-test.true c.ranges.services.fits

pub loop-service-preserved : goal.loop-service-preserved
loop-service-preserved g c =
    let l = c.args.launcher.now in
    stands_more l.crew.sat.okd l.journal.past c.loop-service.service _ c.loop-service.standing c.and-next.result c.is_up-up.result c.is_some-given_up.result c.loop-service.invariant
    c.is_up-up.ensures (c.is_some-given_up.ensures ∙ ap is_some c.given_up.ensures) c.and-next.ensures.up c.and-next.ensures.down c.and-next.ensures.dead (omega arith)

pub returns : goal.returns
returns g c =
    let l = c.args.launcher.now in
    let all : c.loop-service.service ≡ c.args.services = omega (arith, c.loop-service.auto.service-end, c.loop-service-test.false) in
    subst (λ (n : ℕ). Stands l.crew.sat.okd l.journal.past n c.loop-service.standing) all c.loop-service.invariant
