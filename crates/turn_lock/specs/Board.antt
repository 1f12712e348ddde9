-- The rule of the board's words: the first is the count of numbers drawn, each of the others the greatest incarnation of one service.
use Rattle.std.specs.Prelude.{◌≡◌, ◌≢◌, ◌⊎◌, ℕ, zero, suc, ◌+◌, ◌-◌, ◌^◌, ◌<◌, ◌≤◌, ◌==◌, nat_lt, nat_le, if◌then◌else◌, List, [], ◌∷◌, ◌++◌, slice_index, slice_set, replicate}
use mathlib.Core.Option as maybe
use lib.ListN.{get_elem?}
use Rattle.atomic_table.specs.Table.{State, Me, Step}
use Rattle.turn_lock.specs.declared.board_rule.View.{View}
use Rattle.turn_lock.specs.declared.board_rule.Part.{Part}

-- Words of services.
abbrev pub services : ℕ
services = 64

-- A seat that drew a number from here on draws no more: so many can be counted in a word of 64 bits, with room for each seat.
abbrev pub most_drawn : ℕ
most_drawn = 2 ^ 62

-- The number of a seat that was joined into another: above those of all seats.
abbrev pub spent_number : ℕ
spent_number = 65535

-- Each number is at most the one in its place.
abbrev pub UpTo : List ℕ → List ℕ → Type 0
UpTo [] gs = Unit {0}
UpTo (x ∷ xs) [] = ⊥
UpTo (x ∷ xs) (g ∷ gs) = (x ≤ g) × UpTo xs gs

-- Each number is below the bound.
abbrev pub AllUnder : ℕ → List ℕ → Type 0
AllUnder bound [] = Unit {0}
AllUnder bound (x ∷ xs) = (x < bound) × AllUnder bound xs

-- The numbers below a count that seat m drew, the greatest first, where `hand` tells which seat drew each.
abbrev pub drawn_by : (ℕ → ℕ) → ℕ → ℕ → List ℕ
drawn_by hand m zero = []
drawn_by hand m (suc d) = if hand d == m then d ∷ drawn_by hand m d else drawn_by hand m d

-- The numbers from r on below a count, the greatest first.
unfoldable pub from_on : ℕ → ℕ → List ℕ
from_on r zero = []
from_on r (suc d) = if nat_le r d then d ∷ from_on r d else []

-- What stands behind the words: the greatest numbers, the count of numbers drawn, which seat drew each, and which view has the seat of a number.
pub record World : Type 0 where
  pub greatest : List ℕ
  pub count : ℕ
  pub hand : ℕ → ℕ
  pub owner : ℕ → ℕ

-- The part of a seat that was joined into another.
pub record IsSpent (p : Part) : Type 0 where
  pub is : p.number ≡ spent_number
  pub none : p.drawn ≡ []

module _ (n : ℕ) (w : World) (i : ℕ) where
  -- A part that this view has: its numbers are all that were drawn under its number, and where it is the launcher's, it has seen the greatest numbers.
  pub record Owns (p : Part) : Type 0 where
    pub below : p.number < n
    pub owner_is : w.owner p.number ≡ i
    pub all : drawn_by w.hand p.number w.count ≡ p.drawn
    pub launcher : suc p.number ≡ n → p.seen ≡ w.greatest

  -- What was seen is at most what stands on the board.
  pub record Fits (p : Part) : Type 0 where
    pub behind : UpTo p.seen w.greatest
    pub owned : IsSpent p ⊎ Owns p

  -- Old parts fit, and none has the number of the seat itself.
  abbrev pub AllFit : ℕ → List Part → Type 0
  AllFit number [] = Unit {0}
  AllFit number (p ∷ ps) = Fits p × (p.number < n → p.number ≢ number) × AllFit number ps

  -- A number of a seat that is not given out yet.
  pub record Spare (k : ℕ) : Type 0 where
    pub owner_is : w.owner k ≡ i
    pub none : drawn_by w.hand k w.count ≡ []

  -- What one view knows.
  pub record Knows (v : View) : Type 0 where
    pub fits : Fits v.part
    pub olds_fit : AllFit v.part.number v.olds
    pub spares : (k : ℕ) → v.spare ≤ k → k < n → k ≢ v.part.number → Spare k

-- The room of all views.
abbrev pub total : List View → ℕ
total [] = 0
total (v ∷ vs) = v.room + total vs

-- The rule, for n seats: no word wraps, since each seat draws at most one number from the limit on.
pub record Kept (n : ℕ) (s : State ℕ View) : Type 0 where
  pub world : World
  pub words : s.words ≡ world.count ∷ world.greatest
  pub few : n ≤ spent_number
  pub narrow : AllUnder (2 ^ 32) world.greatest
  pub seated : (k : ℕ) → k < world.count → world.hand k < n
  pub counted : (world.count - most_drawn) + total s.views ≤ n
  pub each : (i : ℕ) (v : View) → get_elem? s.views i ≡ maybe.some v → Knows n world i v

-- A part of these fields.
abbrev pub part_of : ℕ → List ℕ → List ℕ → Part
part_of number seen drawn = record { number = number; seen = seen; drawn = drawn }

-- A view of these fields.
abbrev pub view_of : Part → List Part → ℕ → ℕ → View
view_of part olds spare room = record { part = part; olds = olds; spare = spare; room = room }

-- Nothing was begun yet.
abbrev pub none_begun : List ℕ
none_begun = replicate services 0

-- The first seat has the last number, which is the launcher's, and all others to give.
abbrev pub opening_view : ℕ → View
opening_view n = view_of (part_of (n - 1) none_begun []) [] 0 n

-- The number of service s was seen.
abbrev pub saw : ℕ → ℕ → View → View
saw s r v = view_of (part_of v.part.number (slice_set v.part.seen s r) v.part.drawn) v.olds v.spare v.room

-- The number r was drawn.
abbrev pub with_number : ℕ → View → View
with_number r v = view_of (part_of v.part.number v.part.seen (r ∷ v.part.drawn)) v.olds v.spare (if nat_lt r most_drawn then v.room else v.room - 1)

-- All numbers from r on below the limit were drawn.
abbrev pub with_rest : ℕ → View → View
with_rest r v = view_of (part_of v.part.number v.part.seen (from_on r most_drawn ++ v.part.drawn)) v.olds v.spare v.room

-- The next number is given to a new seat, which may draw.
abbrev pub dealer : View → View
dealer v = view_of v.part v.olds (v.spare + 1) (v.room - 1)

-- The new seat.
abbrev pub dealt : View → View
dealt v = view_of (part_of v.spare v.part.seen []) [] spent_number 1

-- The second's parts become old parts of the first.
abbrev pub joined : View → View → View
joined v w = view_of v.part (w.part ∷ w.olds ++ v.olds) v.spare v.room

-- What a seat has seen, in a view that has no number.
abbrev pub glimpse_of : View → View
glimpse_of v = view_of (part_of spent_number v.part.seen []) [] spent_number 0

-- The old parts but the one that was joined last.
abbrev pub but_last : List Part → List Part
but_last [] = []
but_last (p ∷ ps) = ps

-- What a join leaves of the second.
abbrev pub spent_view : View
spent_view = view_of (part_of spent_number [] []) [] spent_number 0

-- A view's own part, and then those that were joined into it.
abbrev pub parts_of : View → List Part
parts_of v = v.part ∷ v.olds

-- A seat's view; it holds no slot.
abbrev pub M : Type 0
M = Me ℕ View

-- A look at the word of a service: it is at least what the seat has seen of it.
abbrev pub looked : Step ℕ → M → ℕ → M → Type 0
looked st m r m' = (m' ≡ (saw (st.word - 1) r m.0, m.1)) × (slice_index m.0.part.seen (st.word - 1) ≤ r) × (r < 2 ^ 32)

-- The launcher's seat writes the word of a service.
abbrev pub raised : Step ℕ → M → ℕ → M → Type 0
raised st m r m' = m' ≡ (saw (st.word - 1) st.first m.0, m.1)

-- The seat draws the number that it found, which is above all that it drew.
abbrev pub drew : Step ℕ → M → ℕ → M → Type 0
drew st m r m' = (m' ≡ (with_number r m.0, m.1)) × AllUnder r m.0.part.drawn

-- The seat draws all numbers that are left below the limit, from the one that it found on, which is above all that it drew.
abbrev pub drew_rest : Step ℕ → M → ℕ → M → Type 0
drew_rest st m r m' = (m' ≡ (with_rest r m.0, m.1)) × AllUnder r m.0.part.drawn

-- What the part that was joined last has seen is at most this.
abbrev pub LastSaw : List Part → List ℕ → Type 0
LastSaw [] seen = Unit {0}
LastSaw (p ∷ ps) seen = UpTo p.seen seen

-- The launcher's seat has seen at least what the part has that was joined last, and lets it go.
abbrev pub compared : Step ℕ → M → ℕ → M → Type 0
compared st m r m' = (m' ≡ (view_of m.0.part (but_last m.0.olds) m.0.spare m.0.room, m.1)) × LastSaw m.0.olds m.0.part.seen

-- The parts' seen numbers are at most these, and those of the launcher's part are these.
abbrev pub AllSaw : ℕ → List ℕ → List Part → Type 0
AllSaw n greatest [] = Unit {0}
AllSaw n greatest (p ∷ ps) = UpTo p.seen greatest × (suc p.number ≡ n → p.seen ≡ greatest) × AllSaw n greatest ps

-- Each part's drawn numbers are those below the count that `hand` tells of its number.
abbrev pub AllDrew : (ℕ → ℕ) → ℕ → List Part → Type 0
AllDrew hand count [] = Unit {0}
AllDrew hand count (p ∷ ps) = (p.drawn ≡ drawn_by hand p.number count) × AllDrew hand count ps
