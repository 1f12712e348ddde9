use Rattle.std.proofs.Common.{◌≡◌, ◌+◌, ◌≤◌, ◌++◌, length, map, reverse}
use Rattle.std.specs.Prelude.{vec_len, vec_capacity}
use Rattle.site_locks.specs.Closing.{Gathering}
use Rattle.site_locks.specs.Sat.{Sat}
use Rattle.site_locks.proofs.closing.close.Given as goal

abbrev pub invariant-loop-more : goal.invariant-loop-more
invariant-loop-more g l =
    Gathering l.locks l.fn.seats.items l.seats.items l.ends
    × (l.owns.items ++ reverse (map (λ (s : Sat). s.own) l.seats.items) ≡ reverse (map (λ (s : Sat). s.own) l.fn.seats.items))
    × (vec_len l.seats + vec_len l.owns ≤ vec_capacity l.owns)

abbrev pub decreases-loop-more : goal.decreases-loop-more
decreases-loop-more g l = length l.seats.items
