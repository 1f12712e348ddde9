-- Locks and seats as contracts see them. Journals have the newest entry first.
use Rattle.std.specs.Prelude.{◌≡◌, ◌≢◌, ◌⊎◌, ℕ, ◌+◌, List, [], ◌∷◌, map, reverse, length, Bool, true, false, None}
use Rattle.std.specs.Prelude.{Option as Maybe}
use Rattle.atomic_table.specs.Seated.{TableId}
use Rattle.atomic_table.specs.declared.shared.Seat.{Seat}
use Rattle.turn_lock.specs.declared.rule.View.{View}
use Rattle.turn_lock.specs.declared.rule.Part.{Part}
use Rattle.turn_lock.specs.declared.rule.Stage.{Stage}
use Rattle.turn_lock.specs.declared.rule.Stage.TheVariants.{Idle, Waits, Holds}
use Rattle.okws_base.specs.Turns.{of, GrowsBy}
use Rattle.turn_lock.specs.Tickets.{note_number, parts_of}

-- A lock: which one it is, how many seats it was made for, and the label of its value.
pub record TurnIs : Type 0 where
  pub id : TableId
  pub count : ℕ
  pub label : ℕ

-- The lock of a table, by the table's key: the count, and the label.
abbrev pub turn_of : TableId → ℕ × ℕ → TurnIs
turn_of id key = record { id = id; count = key.0; label = key.1 }

-- A number, and what was seen under it.
pub record Sight (E : Type 0) : Type 0 where
  pub number : ℕ
  pub seen : List E

-- A seat: its lock, its number, what it has seen, whether it holds the turn, the label of the lock's value, and what was joined into it.
pub record SeatIs (E : Type 0) : Type 0 where
  pub lock : TableId
  pub number : ℕ
  pub seen : List E
  pub held : Bool
  pub label : ℕ
  pub olds : List (Sight E)

-- A note: its lock, and what it has seen.
pub record NoteIs (E : Type 0) : Type 0 where
  pub lock : TableId
  pub seen : List E

-- The journal goes on from what each has seen, by entries of others alone.
abbrev pub AllGrow : {E : Type 0} → (E → ℕ) → List (Sight E) → List E → Type 0
AllGrow by [] J = Unit {0}
AllGrow by (m ∷ ms) J = GrowsBy by m.number m.seen J × AllGrow by ms J

-- One of them has the number.
abbrev pub HasSight : {E : Type 0} → ℕ → List (Sight E) → Type 0
HasSight k [] = ⊥
HasSight k (m ∷ ms) = (m.number ≡ k) ⊎ HasSight k ms

-- What a seat and those that were joined into it have seen.
abbrev pub sight : {E : Type 0} → SeatIs E → Sight E
sight a = record { number = a.number; seen = a.seen }

-- What a seat has seen, and then what each that was joined into it had.
abbrev pub sights : {E : Type 0} → SeatIs E → List (Sight E)
sights a = sight a ∷ a.olds

-- A part's number and what it has seen, the newest first.
abbrev pub sight_of : {E : Type 0} → Part E → Sight E
sight_of p = record { number = p.number; seen = reverse p.seen }

-- A seat at this stage holds the turn.
abbrev pub is_held : Stage → Bool
is_held Idle = false
is_held (Waits t) = false
is_held (Holds t) = true

-- The entries of each number that were seen are all that there are.
abbrev pub AllComplete : {E : Type 0} → (E → ℕ) → List (Part E) → Type 0
AllComplete by [] = Unit {0}
AllComplete by (p ∷ ps) = (of by p.number p.seen ≡ p.own) × AllComplete by ps

-- What is out with a seat at a stage.
abbrev pub IsOut : {X : Type 0} → Stage → List (ℕ × Maybe X) → Type 0
IsOut Idle m = m ≡ []
IsOut (Waits t) m = ⊥
IsOut (Holds t) m = m ≡ (0, None) ∷ []

module _ {X E : Type 0} where
  abbrev pub seat_of : Seat (Maybe X) (View E) → SeatIs E
  seat_of p = record {
    lock = p.table_id;
    number = p.me.0.part.number;
    seen = reverse p.me.0.part.seen;
    held = is_held p.me.0.stage;
    label = p.me.0.tag;
    olds = map sight_of p.me.0.olds;
  }

  pub record IsSeat (by : E → ℕ) (p : Seat (Maybe X) (View E)) : Type 0 where
    pub numbered : p.me.0.part.number ≢ note_number
    pub complete : AllComplete by (parts_of p.me.0)
    pub out : IsOut p.me.0.stage p.me.1

  abbrev pub note_is : Seat (Maybe X) (View E) → NoteIs E
  note_is p = record { lock = p.table_id; seen = reverse p.me.0.part.seen }

  pub record IsNoteSpot (p : Seat (Maybe X) (View E)) : Type 0 where
    pub idle : p.me.0.stage ≡ Idle
    pub none : p.me.1 ≡ []
    pub alone : p.me.0.olds ≡ []

-- A seat that has seen nothing, and holds no turn.
pub record IsFresh {E : Type 0} (z : TableId) (label number : ℕ) (a : SeatIs E) : Type 0 where
  pub lock : a.lock ≡ z
  pub number_is : a.number ≡ number
  pub seen : a.seen ≡ []
  pub label_is : a.label ≡ label
  pub free : a.held ≡ false
  pub alone : a.olds ≡ []

-- Fresh seats, whose numbers fall by one, to `last` at the end.
abbrev pub AreFresh : {E : Type 0} → TableId → ℕ → ℕ → List (SeatIs E) → Type 0
AreFresh z label last [] = Unit {0}
AreFresh z label last (a ∷ as') = IsFresh z label (length as' + last) a × AreFresh z label last as'

-- The seats are the lock's, and none holds the turn.
abbrev pub AllRest : {E : Type 0} → TableId → List (SeatIs E) → Type 0
AllRest z [] = Unit {0}
AllRest z (a ∷ as') = (a.lock ≡ z) × (a.held ≡ false) × AllRest z as'

-- One of the seats has the number, or took in one that has it.
abbrev pub SomeHas : {E : Type 0} → ℕ → List (SeatIs E) → Type 0
SomeHas k [] = ⊥
SomeHas k (a ∷ as') = HasSight k (sights a) ⊎ SomeHas k as'

-- The journal goes on from what each of the seats has seen, and each that it took in, by entries of others alone.
abbrev pub AllClosed : {E : Type 0} → (E → ℕ) → List (SeatIs E) → List E → Type 0
AllClosed by [] J = Unit {0}
AllClosed by (a ∷ as') J = AllGrow by (sights a) J × AllClosed by as' J

-- Of the seats `all`, those of `left` are still to be joined, and `one` took in the others.
pub record Gathering {E : Type 0} (by : E → ℕ) (z : TableId) (all left : List (SeatIs E)) (one : SeatIs E) : Type 0 where
  pub table : one.lock ≡ z
  pub free : one.held ≡ false
  pub left_rest : AllRest z left
  pub told : (J : List E) → AllGrow by (sights one) J → AllClosed by left J → AllClosed by all J
  pub numbers : (k : ℕ) → SomeHas k all → HasSight k (sights one) ⊎ SomeHas k left
