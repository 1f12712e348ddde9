-- The locks of a run, the seats of one number at them, and what a number has seen.
use Rattle.std.specs.Prelude.{◌≡◌, ℕ, suc, ◌+◌, ◌≤◌, List, [], ◌∷◌, map, length, false}
use Rattle.atomic_table.specs.Seated.{TableId}
use Rattle.okws_base.specs.Turns.{up_to_own}
use Rattle.okws_base.specs.declared.journal.Entry.{Entry}
use Rattle.okws_plan.specs.declared.configuration.Config.{Config}
use Rattle.okws_plan.specs.declared.event.OkdEvent.{OkdEvent}
use Rattle.okws_plan.specs.declared.event.ProxyEvent.{ProxyEvent}
use Rattle.okws_plan.specs.declared.event.PubdEvent.{PubdEvent}
use Rattle.okws_plan.specs.declared.event.LogEvent.{LogEvent}
use Rattle.monitor_model.specs.declared.record.Own.{Own}
use Rattle.monitor_model.specs.Seen.{Seen}
use Rattle.turn_lock.specs.Board.{services}
use Rattle.turn_lock.specs.BoardSeats.{BoardIs}
use Rattle.turn_lock.specs.BoardSeats.{SeatIs as BoardSeat}
use Rattle.named_columns.specs.Launched.{by_entry}
use Rattle.turn_lock.specs.Rows.{AllCount}
use Rattle.turn_lock.specs.Seats.{TurnIs, SeatIs}

-- Which locks and which board a run has.
pub record LockIds : Type 0 where
  pub okd : TableId
  pub proxies : List TableId
  pub pubd : TableId
  pub oklogd : TableId
  pub board : TableId

-- No table.
abbrev pub no_table : TableId
no_table = record { words = 0; slots = 0; views_name = 0; atom = 0; block = 0; offset = 0; slot_names = [] }

-- No locks.
abbrev pub no_locks : LockIds
no_locks = record { okd = no_table; proxies = []; pubd = no_table; oklogd = no_table; board = no_table }

-- The locks and the board.
pub record LocksAre : Type 0 where
  pub okd : TurnIs
  pub proxies : List TurnIs
  pub pubd : TurnIs
  pub oklogd : TurnIs
  pub board : BoardIs

-- Which they are.
abbrev pub ids_of : LocksAre → LockIds
ids_of l = record { okd = l.okd.id; proxies = map (λ (t : TurnIs). t.id) l.proxies; pubd = l.pubd.id; oklogd = l.oklogd.id; board = l.board.id }

-- Numbers that rise by one from k.
abbrev pub RiseFrom : ℕ → List ℕ → Type 0
RiseFrom k [] = Unit {0}
RiseFrom k (n ∷ more) = (n ≡ k) × RiseFrom (suc k) more

-- The locks of a run of this site, made for the numbers from 0 to n, which is the launcher's: one for each proxy, whose label is its number.
pub record AreLocks (C : Config) (n : ℕ) (z : LockIds) (l : LocksAre) : Type 0 where
  pub ids_are : ids_of l ≡ z
  pub okd_count : l.okd.count ≡ n + 1
  pub proxies_count : AllCount (n + 1) l.proxies
  pub pubd_count : l.pubd.count ≡ n + 1
  pub oklogd_count : l.oklogd.count ≡ n + 1
  pub board_count : l.board.count ≡ n + 1
  pub labels : RiseFrom 0 (map (λ (t : TurnIs). t.label) l.proxies)
  pub declared : length l.proxies ≡ length C.proxies
  pub few : length C.services ≤ services

-- A seat of number n at this lock, which holds no turn and took in no other; the lock's value has this label.
pub record AtLock {E : Type 0} (z : TableId) (label n : ℕ) (a : SeatIs E) : Type 0 where
  pub lock_is : a.lock ≡ z
  pub number_is : a.number ≡ n
  pub free : a.held ≡ false
  pub label_is : a.label ≡ label
  pub alone : a.olds ≡ []

-- The same at each lock of a row, whose labels go up from `label`.
abbrev pub AtRow : {E : Type 0} → List TableId → ℕ → ℕ → List (SeatIs E) → Type 0
AtRow [] label n [] = Unit {0}
AtRow [] label n (a ∷ more) = ⊥
AtRow (z ∷ zs) label n [] = ⊥
AtRow (z ∷ zs) label n (a ∷ more) = AtLock z label n a × AtRow zs (suc label) n more

-- A seat of number n at this board, into which no other was joined.
pub record AtBoard (z : TableId) (n : ℕ) (a : BoardSeat) : Type 0 where
  pub board_is : a.board ≡ z
  pub number_is : a.number ≡ n
  pub alone : a.olds ≡ []
  pub services_are : length a.seen ≡ services

-- Seats of number n at the locks and at the board.
pub record AreSeats (z : LockIds) (n : ℕ) (okd : SeatIs (Entry OkdEvent)) (proxies : List (SeatIs (Entry ProxyEvent))) (pubd : SeatIs (Entry PubdEvent)) (oklogd : SeatIs (Entry LogEvent)) (board : BoardSeat) : Type 0 where
  pub okd_at : AtLock z.okd 0 n okd
  pub proxies_at : AtRow z.proxies 0 n proxies
  pub pubd_at : AtLock z.pubd 0 n pubd
  pub oklogd_at : AtLock z.oklogd 0 n oklogd
  pub board_at : AtBoard z.board n board

-- What a number has seen of each column, the newest first, what it has seen on the board of each service, the connection numbers that it drew, the last one first, its own items, and how many more of these it may note without memory.
pub record Sat : Type 0 where
  pub number : ℕ
  pub okd : List (Entry OkdEvent)
  pub proxies : List (List (Entry ProxyEvent))
  pub pubd : List (Entry PubdEvent)
  pub oklogd : List (Entry LogEvent)
  pub board : List ℕ
  pub drawn : List ℕ
  pub own : List Own
  pub spare : ℕ

-- The same, of its seats, its own list and its spare places there.
abbrev pub sat_of : ℕ → SeatIs (Entry OkdEvent) → List (SeatIs (Entry ProxyEvent)) → SeatIs (Entry PubdEvent) → SeatIs (Entry LogEvent) → BoardSeat → List Own → ℕ → Sat
sat_of n okd proxies pubd oklogd board mine places = record {
  number = n;
  okd = okd.seen;
  proxies = map (λ (a : SeatIs (Entry ProxyEvent)). a.seen) proxies;
  pubd = pubd.seen;
  oklogd = oklogd.seen;
  board = board.seen;
  drawn = board.drawn;
  own = mine;
  spare = places;
}

-- What a number had seen of each column at its own last entry there, and its own items.
abbrev pub seen_of : Sat → Seen
seen_of s = record {
  okd = up_to_own by_entry s.number s.okd;
  proxies = map (up_to_own by_entry s.number) s.proxies;
  pubd = up_to_own by_entry s.number s.pubd;
  oklogd = up_to_own by_entry s.number s.oklogd;
  launcher = [];
  own = s.own;
}
