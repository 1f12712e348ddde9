-- Closing the locks of a run with the seats of all numbers.
use Rattle.std.specs.Prelude.{◌≡◌, ◌⊎◌, ℕ, suc, List, [], ◌∷◌, ◌++◌, false}
use Rattle.okws_base.specs.Turns.{GrowsBy}
use Rattle.okws_base.specs.declared.journal.Entry.{Entry}
use Rattle.okws_plan.specs.declared.event.OkdEvent.{OkdEvent}
use Rattle.okws_plan.specs.declared.event.ProxyEvent.{ProxyEvent}
use Rattle.okws_plan.specs.declared.event.PubdEvent.{PubdEvent}
use Rattle.okws_plan.specs.declared.event.LogEvent.{LogEvent}
use Rattle.turn_lock.specs.Board.{UpTo, drawn_by, AllSaw as PartsSaw, AllDrew as PartsDrew}
use Rattle.turn_lock.specs.BoardSeats.{SeatIs as BoardSeat, parts}
use Rattle.named_columns.specs.Launched.{by_entry}
use Rattle.turn_lock.specs.Rows.{RestRow, RowHas, IsJoined, JoinedRow, GrownRow}
use Rattle.turn_lock.specs.Seats.{SeatIs, AllGrow, HasSight, sights}
use Rattle.site_locks.specs.Sat.{LocksAre, AreSeats, Sat, ids_of, sat_of}

-- The journal of a column goes on from what each number had seen there by entries of others alone.
abbrev pub AllGrown : {E : Type 0} → (Sat → List (Entry E)) → List Sat → List (Entry E) → Type 0
AllGrown seen [] J = Unit {0}
AllGrown seen (s ∷ ss) J = GrowsBy by_entry s.number (seen s) J × AllGrown seen ss J

-- The same for number n at each proxy.
abbrev pub RowGrown : ℕ → List (List (Entry ProxyEvent)) → List (List (Entry ProxyEvent)) → Type 0
RowGrown n [] [] = Unit {0}
RowGrown n [] (J ∷ Js) = ⊥
RowGrown n (K ∷ Ks) [] = ⊥
RowGrown n (K ∷ Ks) (J ∷ Js) = GrowsBy by_entry n K J × RowGrown n Ks Js

-- The same for each number.
abbrev pub RowsGrown : List Sat → List (List (Entry ProxyEvent)) → Type 0
RowsGrown [] Js = Unit {0}
RowsGrown (s ∷ ss) Js = RowGrown s.number s.proxies Js × RowsGrown ss Js

-- No number has seen on the board what was not raised; the last of `count` numbers raised just what stands there at the end.
abbrev pub AllSaw : ℕ → List ℕ → List Sat → Type 0
AllSaw count greatest [] = Unit {0}
AllSaw count greatest (s ∷ ss) = UpTo s.board greatest × (suc s.number ≡ count → s.board ≡ greatest) × AllSaw count greatest ss

-- Each number drew just those connection numbers that `hand` tells of it.
abbrev pub AllDrew : (ℕ → ℕ) → ℕ → List Sat → Type 0
AllDrew hand total [] = Unit {0}
AllDrew hand total (s ∷ ss) = (s.drawn ≡ drawn_by hand s.number total) × AllDrew hand total ss

-- One of these has the number.
abbrev pub SomeIs : ℕ → List Sat → Type 0
SomeIs k [] = ⊥
SomeIs k (s ∷ ss) = (s.number ≡ k) ⊎ SomeIs k ss

-- The seats into which those of all numbers are joined.
pub record EndsAre : Type 0 where
  pub okd : SeatIs (Entry OkdEvent)
  pub proxies : List (SeatIs (Entry ProxyEvent))
  pub pubd : SeatIs (Entry PubdEvent)
  pub oklogd : SeatIs (Entry LogEvent)
  pub board : BoardSeat

-- The seats of one number at these locks.
pub record AreOf (l : LocksAre) (s : Sat) (e : EndsAre) : Type 0 where
  pub seats : AreSeats (ids_of l) s.number e.okd e.proxies e.pubd e.oklogd e.board
  pub sat_is : s ≡ sat_of s.number e.okd e.proxies e.pubd e.oklogd e.board s.own s.spare

-- They are at these locks, and hold no turn.
pub record RestAt (l : LocksAre) (e : EndsAre) : Type 0 where
  pub okd : (e.okd.lock ≡ l.okd.id) × (e.okd.held ≡ false)
  pub proxies : RestRow l.proxies e.proxies
  pub pubd : (e.pubd.lock ≡ l.pubd.id) × (e.pubd.held ≡ false)
  pub oklogd : (e.oklogd.lock ≡ l.oklogd.id) × (e.oklogd.held ≡ false)
  pub board : e.board.board ≡ l.board.id

-- The seats of a number were joined into these.
pub record TakesIn (s : Sat) (other old new : EndsAre) : Type 0 where
  pub okd : IsJoined by_entry other.okd old.okd new.okd
  pub proxies : JoinedRow by_entry other.proxies old.proxies new.proxies
  pub pubd : IsJoined by_entry other.pubd old.pubd new.pubd
  pub oklogd : IsJoined by_entry other.oklogd old.oklogd new.oklogd
  pub board : new.board ≡ record { board = old.board.board; number = old.board.number; seen = old.board.seen; drawn = old.board.drawn; olds = parts other.board ++ old.board.olds }

-- Seats that have the number, or took in one that has it, at each lock.
pub record HasAll (k : ℕ) (e : EndsAre) : Type 0 where
  pub okd : HasSight k (sights e.okd)
  pub proxies : RowHas k e.proxies
  pub pubd : HasSight k (sights e.pubd)
  pub oklogd : HasSight k (sights e.oklogd)

-- Of the numbers `all`, the seats of those of `left` are still to be joined, and `one` took in the others'.
pub record Gathering (l : LocksAre) (all left : List Sat) (one : EndsAre) : Type 0 where
  pub rest : RestAt l one
  pub okd : (J : List (Entry OkdEvent)) → AllGrow by_entry (sights one.okd) J → AllGrown (λ s. s.okd) left J → AllGrown (λ s. s.okd) all J
  pub proxies : (Js : List (List (Entry ProxyEvent))) → GrownRow by_entry one.proxies Js → RowsGrown left Js → RowsGrown all Js
  pub pubd : (J : List (Entry PubdEvent)) → AllGrow by_entry (sights one.pubd) J → AllGrown (λ s. s.pubd) left J → AllGrown (λ s. s.pubd) all J
  pub oklogd : (J : List (Entry LogEvent)) → AllGrow by_entry (sights one.oklogd) J → AllGrown (λ s. s.oklogd) left J → AllGrown (λ s. s.oklogd) all J
  pub saw : (n : ℕ) (greatest : List ℕ) → PartsSaw n greatest (parts one.board) → AllSaw n greatest left → AllSaw n greatest all
  pub drew : (hand : ℕ → ℕ) (total : ℕ) → PartsDrew hand total (parts one.board) → AllDrew hand total left → AllDrew hand total all
  pub numbers : (k : ℕ) → SomeIs k all → HasAll k one ⊎ SomeIs k left
