-- Locks that were made, and seats that have seen nothing.
use Rattle.std.specs.Prelude.{◌≡◌, ℕ, suc, ◌+◌, List, [], ◌∷◌, length, replicate}
use Rattle.okws_base.specs.declared.journal.Entry.{Entry}
use Rattle.okws_plan.specs.declared.configuration.Config.{Config}
use Rattle.okws_plan.specs.declared.event.OkdEvent.{OkdEvent}
use Rattle.okws_plan.specs.declared.event.ProxyEvent.{ProxyEvent}
use Rattle.okws_plan.specs.declared.event.PubdEvent.{PubdEvent}
use Rattle.okws_plan.specs.declared.event.LogEvent.{LogEvent}
use Rattle.turn_lock.specs.Board.{none_begun}
use Rattle.turn_lock.specs.BoardSeats.{SeatIs as BoardSeat, AreFresh as AreFreshAtBoard}
use Rattle.turn_lock.specs.Rows.{FreshRows}
use Rattle.turn_lock.specs.Seats.{SeatIs, AreFresh}
use Rattle.site_locks.specs.Sat.{LocksAre, AreLocks, Sat, ids_of}

-- What number k has seen before it did anything, in a run of so many proxies. It has no spare place in its own list.
abbrev pub fresh : ℕ → ℕ → Sat
fresh proxies k = record { number = k; okd = []; proxies = replicate proxies []; pubd = []; oklogd = []; board = none_begun; drawn = []; own = []; spare = 0 }

-- The same of numbers that rise by one from k.
abbrev pub AreFreshFrom : ℕ → ℕ → List Sat → Type 0
AreFreshFrom proxies k [] = Unit {0}
AreFreshFrom proxies k (s ∷ more) = (s ≡ fresh proxies k) × AreFreshFrom proxies (suc k) more

-- The seats that are not given to a number yet: one of each number at each lock and at the board, by number, the last first.
pub record DeckIs : Type 0 where
  pub okd : List (SeatIs (Entry OkdEvent))
  pub rows : List (List (SeatIs (Entry ProxyEvent)))
  pub pubd : List (SeatIs (Entry PubdEvent))
  pub oklogd : List (SeatIs (Entry LogEvent))
  pub board : List BoardSeat

-- They are so many fresh ones, from number k on.
pub record DealsFrom (l : LocksAre) (k m : ℕ) (d : DeckIs) : Type 0 where
  pub okd_fresh : AreFresh l.okd.id 0 k d.okd
  pub rows_fresh : FreshRows l.proxies k d.rows
  pub pubd_fresh : AreFresh l.pubd.id 0 k d.pubd
  pub oklogd_fresh : AreFresh l.oklogd.id 0 k d.oklogd
  pub board_fresh : AreFreshAtBoard l.board.id k d.board
  pub okd_many : length d.okd ≡ m
  pub rows_many : length d.rows ≡ m
  pub pubd_many : length d.pubd ≡ m
  pub oklogd_many : length d.oklogd ≡ m
  pub board_many : length d.board ≡ m

-- The locks of a run of this site, where number n launches, with a fresh seat of each of `count` numbers.
pub record IsMade (C : Config) (n count : ℕ) (l : LocksAre) (d : DeckIs) : Type 0 where
  pub locks : AreLocks C n (ids_of l) l
  pub count_is : count ≡ n + 1
  pub deals : DealsFrom l 0 count d
