use Rattle.site_locks.specs.Steps.{SeesOkd}
use Rattle.site_locks.proofs.Seeing.{okd_same}
use Rattle.site_worker.proofs.Asking.{past_on}
use Rattle.site_worker.proofs.hands.Hands.meet.Goals as goal

pub returns-clause-okd : goal.returns-clause-okd
returns-clause-okd g c =
    let s = c.self.inside.seats in
    let now = c.meet_okd.new.self in
    let grows = c.meet_okd.ensures.grows in
    rw (← c.self.view_is) (past_on s.okd now.okd (grows.0, grows.2))

pub returns-clause-seen : goal.returns-clause-seen
returns-clause-seen g c =
    let s = c.self.inside.seats in
    let now = c.meet_okd.new.self in
    let sees : SeesOkd now.okd s now = record { grows = c.meet_okd.ensures.grows; is = c.meet_okd.ensures.only } in
    rw (← c.self.view_is) (okd_same s now now.okd sees)
