-- Locks in a row, whose number is known at run time, and seats of one number at each of them.
use Rattle.std.specs.Prelude.{◌≡◌, ◌⊎◌, ℕ, ◌+◌, ◌<◌, ◌≤◌, List, [], ◌∷◌, ◌++◌, map, reverse, length, false}
use Rattle.okws_base.specs.Turns.{of, GrowsBy, Behind}
use Rattle.turn_lock.specs.Seats.{TurnIs, SeatIs, IsFresh, AllGrow, HasSight, sight, sights}

-- A seat at this lock, with the label of the lock's value, which holds no turn.
pub record RestsAt {E : Type 0} (t : TurnIs) (a : SeatIs E) : Type 0 where
  pub lock : a.lock ≡ t.id
  pub label_is : a.label ≡ t.label
  pub free : a.held ≡ false

-- The same at each lock of a row.
abbrev pub RestRow : {E : Type 0} → List TurnIs → List (SeatIs E) → Type 0
RestRow [] [] = Unit {0}
RestRow [] (a ∷ as') = ⊥
RestRow (t ∷ ts) [] = ⊥
RestRow (t ∷ ts) (a ∷ as') = RestsAt t a × RestRow ts as'

-- Each of these rows of seats rests at the row of locks.
abbrev pub RestRows : {E : Type 0} → List TurnIs → List (List (SeatIs E)) → Type 0
RestRows ts [] = Unit {0}
RestRows ts (r ∷ rs) = RestRow ts r × RestRows ts rs

-- A fresh seat of this number at each lock of a row.
abbrev pub IsFreshRow : {E : Type 0} → List TurnIs → ℕ → List (SeatIs E) → Type 0
IsFreshRow [] n [] = Unit {0}
IsFreshRow [] n (a ∷ as') = ⊥
IsFreshRow (t ∷ ts) n [] = ⊥
IsFreshRow (t ∷ ts) n (a ∷ as') = IsFresh t.id t.label n a × IsFreshRow ts n as'

-- Rows of fresh seats, whose numbers fall by one, to `last` at the end.
abbrev pub FreshRows : {E : Type 0} → List TurnIs → ℕ → List (List (SeatIs E)) → Type 0
FreshRows ts last [] = Unit {0}
FreshRows ts last (r ∷ rs) = IsFreshRow ts (length rs + last) r × FreshRows ts last rs

-- Each of the rows has one more seat at its end.
abbrev pub Beside : {S : Type 0} → List (List S) → List S → List (List S) → Type 0
Beside [] [] [] = Unit {0}
Beside [] [] (q ∷ qs) = ⊥
Beside [] (a ∷ as') qs = ⊥
Beside (r ∷ rs) [] qs = ⊥
Beside (r ∷ rs) (a ∷ as') [] = ⊥
Beside (r ∷ rs) (a ∷ as') (q ∷ qs) = (q ≡ r ++ a ∷ []) × Beside rs as' qs

-- Of the rows `all`, those of `left` are to get one more seat, of `seats` those of `left_seats`, and `longer` are the others, turned round.
pub record Extending {S : Type 0} (all left : List (List S)) (seats left_seats : List S) (longer : List (List S)) : Type 0 where
  pub done : List (List S)
  pub done_seats : List S
  pub all_is : all ≡ left ++ done
  pub seats_is : seats ≡ left_seats ++ done_seats
  pub beside : Beside done done_seats (reverse longer)

-- Each of these journals is empty.
abbrev pub AllNone : {E : Type 0} → List (List E) → Type 0
AllNone [] = Unit {0}
AllNone (J ∷ Js) = (J ≡ []) × AllNone Js

-- Each lock was made for this many seats.
abbrev pub AllCount : ℕ → List TurnIs → Type 0
AllCount n [] = Unit {0}
AllCount n (t ∷ ts) = (t.count ≡ n) × AllCount n ts

-- A seat that took in another.
pub record IsJoined {E : Type 0} (by : E → ℕ) (other old new : SeatIs E) : Type 0 where
  pub is : new ≡ record { lock = old.lock; number = old.number; seen = new.seen; held = old.held; label = old.label; olds = sight other ∷ other.olds ++ old.olds }
  pub grows : GrowsBy by old.number old.seen new.seen
  pub both : Behind other.seen new.seen

-- The same at each lock of a row.
abbrev pub JoinedRow : {E : Type 0} → (E → ℕ) → List (SeatIs E) → List (SeatIs E) → List (SeatIs E) → Type 0
JoinedRow by [] [] [] = Unit {0}
JoinedRow by [] [] (b ∷ bs) = ⊥
JoinedRow by [] (a ∷ as') bs = ⊥
JoinedRow by (o ∷ os) [] bs = ⊥
JoinedRow by (o ∷ os) (a ∷ as') [] = ⊥
JoinedRow by (o ∷ os) (a ∷ as') (b ∷ bs) = IsJoined by o a b × JoinedRow by os as' bs

-- Each seat of the row has the number, or took in one that has it.
abbrev pub RowHas : {E : Type 0} → ℕ → List (SeatIs E) → Type 0
RowHas k [] = Unit {0}
RowHas k (a ∷ as') = HasSight k (sights a) × RowHas k as'

-- The journal of each lock goes on from what its seat has seen, and each that this took in, by entries of others alone.
abbrev pub GrownRow : {E : Type 0} → (E → ℕ) → List (SeatIs E) → List (List E) → Type 0
GrownRow by [] [] = Unit {0}
GrownRow by [] (J ∷ Js) = ⊥
GrownRow by (a ∷ as') [] = ⊥
GrownRow by (a ∷ as') (J ∷ Js) = AllGrow by (sights a) J × GrownRow by as' Js

-- The same for each row of seats.
abbrev pub GrownRows : {E : Type 0} → (E → ℕ) → List (List (SeatIs E)) → List (List E) → Type 0
GrownRows by [] Js = Unit {0}
GrownRows by (r ∷ rs) Js = GrownRow by r Js × GrownRows by rs Js

-- No entry of these journals names a number from n on.
abbrev pub NoneFrom : {E : Type 0} → (E → ℕ) → ℕ → List (List E) → Type 0
NoneFrom by n [] = Unit {0}
NoneFrom by n (J ∷ Js) = ((k : ℕ) → n ≤ k → of by k J ≡ []) × NoneFrom by n Js

-- A row is joined from its end: of the seats `all`, those of `left` are still to be joined.
pub record Rowing {E : Type 0} (by : E → ℕ) (ts : List TurnIs) (all left start now : List (SeatIs E)) : Type 0 where
  pub done : List (SeatIs E)
  pub before : List (SeatIs E)
  pub old : List (SeatIs E)
  pub new : List (SeatIs E)
  pub all_is : all ≡ left ++ done
  pub start_is : start ≡ before ++ old
  pub now_is : now ≡ before ++ new
  pub alike : length before ≡ length left
  pub joined : JoinedRow by done old new
  pub rest : RestRow ts now

-- A row is ended from its end: `ts` and `left` are still to be ended, and `Js` are the journals of the others.
pub record Ending {E : Type 0} (by : E → ℕ) (n : ℕ) (ts all_ts : List TurnIs) (left all : List (SeatIs E)) (Js : List (List E)) (labels : List ℕ) : Type 0 where
  pub rest : RestRow ts left
  pub counts : AllCount n ts
  pub covers : (k : ℕ) → k < n → RowHas k left
  pub ended : List (SeatIs E)
  pub ended_ts : List TurnIs
  pub all_is : all ≡ left ++ ended
  pub all_ts_is : all_ts ≡ ts ++ ended_ts
  pub told : GrownRow by ended Js
  pub none : NoneFrom by n Js
  pub labelled : map (λ t. t.label) ended_ts ≡ labels

-- Some row has the number at each lock.
abbrev pub SomeRowHas : {E : Type 0} → ℕ → List (List (SeatIs E)) → Type 0
SomeRowHas k [] = ⊥
SomeRowHas k (r ∷ rs) = RowHas k r ⊎ SomeRowHas k rs

-- Of the rows `all`, those of `left` are still to be joined, and `one` took in the others.
pub record RowsGathering {E : Type 0} (by : E → ℕ) (ts : List TurnIs) (all left : List (List (SeatIs E))) (one : List (SeatIs E)) : Type 0 where
  pub one_rests : RestRow ts one
  pub left_rest : RestRows ts left
  pub told : (Js : List (List E)) → GrownRow by one Js → GrownRows by left Js → GrownRows by all Js
  pub numbers : (k : ℕ) → SomeRowHas k all → RowHas k one ⊎ SomeRowHas k left
