use Rattle.std.proofs.Common.{◌≡◌, ◌+◌, ◌≤◌, length}
use Rattle.std.specs.Prelude.{vec_len, vec_capacity}
use Rattle.site_locks.specs.Made.{AreFreshFrom, DealsFrom}
use Rattle.site_locks.proofs.making.Made.share.Given as goal

abbrev pub invariant-loop-number : goal.invariant-loop-number
invariant-loop-number g l =
    DealsFrom l.locks l.number (length l.deck.okd) l.deck × (l.number + length l.deck.okd ≡ l.count)
    × AreFreshFrom (length g.N.Numbered.site.proxies) 0 l.seats.items × (vec_len l.seats ≡ l.number) × (l.count ≤ vec_capacity l.seats)
