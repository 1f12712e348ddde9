-- The board and its seats as contracts see them.
use Rattle.std.specs.Prelude.{◌≡◌, ◌≢◌, ℕ, suc, ◌+◌, ◌<◌, List, [], ◌∷◌, length}
use Rattle.atomic_table.specs.Seated.{TableId}
use Rattle.atomic_table.specs.declared.shared.Seat.{Seat}
use Rattle.turn_lock.specs.declared.board_rule.View.{View}
use Rattle.turn_lock.specs.declared.board_rule.Part.{Part}
use Rattle.turn_lock.specs.Board.{services, most_drawn, spent_number, none_begun, part_of, AllSaw, AllDrew}

-- A board: which one it is, and for how many seats it was made. The seat with the last number is the launcher's.
pub record BoardIs : Type 0 where
  pub id : TableId
  pub count : ℕ

-- A seat: its board, its number, the numbers that it has seen, one for each service, those that it drew, the last one first, and the parts of the seats that were joined into it.
pub record SeatIs : Type 0 where
  pub board : TableId
  pub number : ℕ
  pub seen : List ℕ
  pub drawn : List ℕ
  pub olds : List Part

-- The seat of a place at the table.
abbrev pub seat_of : Seat ℕ View → SeatIs
seat_of p = record { board = p.table_id; number = p.me.0.part.number; seen = p.me.0.part.seen; drawn = p.me.0.part.drawn; olds = p.me.0.olds }

-- What a seat has seen and drawn, and what was joined into it.
abbrev pub parts : SeatIs → List Part
parts a = part_of a.number a.seen a.drawn ∷ a.olds

-- The last number drawn, if any, is below the limit, so one more may be drawn.
abbrev pub MayDraw : List ℕ → Type 0
MayDraw [] = Unit {0}
MayDraw (x ∷ xs) = x < most_drawn

-- What every seat keeps.
pub record IsSeat (p : Seat ℕ View) : Type 0 where
  pub numbered : p.me.0.part.number ≢ spent_number
  pub length_is : length p.me.0.part.seen ≡ services
  pub room : MayDraw p.me.0.part.drawn → 0 < p.me.0.room
  pub none_out : p.me.1 ≡ []

-- A seat that has seen and drawn nothing.
pub record IsFresh (z : TableId) (number : ℕ) (a : SeatIs) : Type 0 where
  pub board : a.board ≡ z
  pub number_is : a.number ≡ number
  pub seen : a.seen ≡ none_begun
  pub drawn : a.drawn ≡ []
  pub alone : a.olds ≡ []

-- Fresh seats, whose numbers fall by one, to `last` at the end.
abbrev pub AreFresh : TableId → ℕ → List SeatIs → Type 0
AreFresh z last [] = Unit {0}
AreFresh z last (a ∷ as') = IsFresh z (length as' + last) a × AreFresh z last as'

-- Fresh seats, whose numbers rise by one from k.
abbrev pub AreRising : TableId → ℕ → List SeatIs → Type 0
AreRising z k [] = Unit {0}
AreRising z k (a ∷ as') = IsFresh z k a × AreRising z (suc k) as'

-- The seats are the board's.
abbrev pub AllAt : TableId → List SeatIs → Type 0
AllAt z [] = Unit {0}
AllAt z (a ∷ as') = (a.board ≡ z) × AllAt z as'

-- No seat has seen a number above these, which are what the launcher's seat raised last.
abbrev pub SeatsSaw : ℕ → List ℕ → List SeatIs → Type 0
SeatsSaw n greatest [] = Unit {0}
SeatsSaw n greatest (a ∷ as') = AllSaw n greatest (parts a) × SeatsSaw n greatest as'

-- Each seat drew just the numbers below the count that `hand` tells of it.
abbrev pub SeatsDrew : (ℕ → ℕ) → ℕ → List SeatIs → Type 0
SeatsDrew hand count [] = Unit {0}
SeatsDrew hand count (a ∷ as') = AllDrew hand count (parts a) × SeatsDrew hand count as'

-- Of the seats `all`, those of `left` are still to be joined, and `one` took in the others.
pub record Gathering (z : TableId) (all left : List SeatIs) (one : SeatIs) : Type 0 where
  pub table : one.board ≡ z
  pub left_at : AllAt z left
  pub saw : (n : ℕ) (greatest : List ℕ) → AllSaw n greatest (parts one) → SeatsSaw n greatest left → SeatsSaw n greatest all
  pub drew : (hand : ℕ → ℕ) (count : ℕ) → AllDrew hand count (parts one) → SeatsDrew hand count left → SeatsDrew hand count all
