use Rattle.std.proofs.Common.{arith}
use Rattle.grant_column.proofs.head.Head.new.Goals as goal

pub invariant_of-result : goal.invariant_of-result
invariant_of-result g c =
    let fresh = c.in_ok-grants.ensures in
    rw c.new-2.ensures.past (record { standing_is = fresh.standing_is; last_is = fresh.last_is; places_are = rw fresh.places_are (omega arith) })
