-- The rule of a ticket lock over a journaled value.
use Rattle.std.specs.Prelude.{◌≡◌, ◌≢◌, ◌⊎◌, ℕ, suc, ◌+◌, ◌-◌, ◌<◌, ◌≤◌, nat_lt, if◌then◌else◌, List, [], ◌∷◌, ◌++◌, length, drop, Bool, true, false, Option, Some, None}
use mathlib.Core.Option as maybe
use lib.ListN.{get_elem?}
use Rattle.atomic_table.specs.Table.{State, Me, Step}
use Rattle.atomic_table.specs.Seated.{TableId}
use Rattle.atomic_table.specs.declared.shared.Seat.{Seat}
use Rattle.okws_base.specs.Turns.{of, AllBy}
use Rattle.turn_lock.specs.declared.rule.View.{View}
use Rattle.turn_lock.specs.declared.rule.Part.{Part}
use Rattle.turn_lock.specs.declared.rule.Stage.{Stage}
use Rattle.turn_lock.specs.declared.rule.Stage.TheVariants.{Idle, Waits, Holds}

-- the number of a seat that takes no turn
abbrev pub note_number : ℕ
note_number = 65535

-- No ticket above this one is drawn: it is the greatest word.
abbrev pub last_ticket : ℕ
last_ticket = 18446744073709551615

-- The journal begins with what was seen, the oldest entry first.
abbrev pub StartsWith : {E : Type 0} → List E → List E → Type 0
StartsWith {E} log seen = (rest : List E) × (log ≡ seen ++ rest)

-- the ghosts behind the rule
pub record World (X E : Type 0) : Type 0 where
  pub log : List E
  pub tag : ℕ
  pub serving : ℕ
  pub tickets : ℕ
  pub bells : List ℕ
  pub home : maybe.Option X
  -- which seat has a ticket, and which has a number
  pub turn : ℕ → ℕ
  pub owner : ℕ → ℕ

-- What stands in the table's slot: nothing while the slot's content is out with a seat.
abbrev pub shelf : {X : Type 0} → maybe.Option X → maybe.Option (Option X)
shelf maybe.none = maybe.none
shelf (maybe.some x) = maybe.some (Some x)

-- The value is out with a seat.
abbrev pub is_out : {X : Type 0} → maybe.Option X → Bool
is_out maybe.none = true
is_out (maybe.some x) = false

-- A seat at this stage has drawn this ticket.
abbrev pub HasTicket : ℕ → Stage → Type 0
HasTicket t Idle = ⊥
HasTicket t (Waits u) = u ≡ t
HasTicket t (Holds u) = u ≡ t

-- How many tickets a seat at this stage has.
abbrev pub ticketed : Stage → ℕ
ticketed Idle = 0
ticketed (Waits u) = 1
ticketed (Holds u) = 1

-- how many views have a ticket
abbrev pub with_ticket : {E : Type 0} → List (View E) → ℕ
with_ticket [] = 0
with_ticket (v ∷ vs) = ticketed v.stage + with_ticket vs

-- The part of a note, under whose number nothing is entered.
pub record IsNote {E : Type 0} (p : Part E) : Type 0 where
  pub is : p.number ≡ note_number
  pub none : p.own ≡ []

module _ {E : Type 0} (by : E → ℕ) (n : ℕ) (log : List E) (owner : ℕ → ℕ) (i : ℕ) where
  pub record Owns (p : Part E) : Type 0 where
    pub below : p.number < n
    pub owner_is : owner p.number ≡ i
    pub all : of by p.number log ≡ p.own

  -- what is seen begins the journal, and the own entries are all that the journal has of the number
  pub record Fits (p : Part E) : Type 0 where
    pub begins : StartsWith log p.seen
    pub owned : IsNote p ⊎ Owns p

  -- old parts fit, and none has the number of the seat itself, unless as a note
  abbrev pub AllFit : ℕ → List (Part E) → Type 0
  AllFit number [] = Unit {0}
  AllFit number (p ∷ ps) = Fits p × (p.number < n → p.number ≢ number) × AllFit number ps

  pub record Spare (k : ℕ) : Type 0 where
    pub owner_is : owner k ≡ i
    pub none : of by k log ≡ []

module _ {X E : Type 0} (by : E → ℕ) (n : ℕ) (w : World X E) where
  pub record Turned (i t number : ℕ) : Type 0 where
    pub drawn : t < w.tickets
    pub own_turn : w.turn t ≡ i
    pub numbered : number < n

  pub record Waiting (t : ℕ) : Type 0 where
    pub not_past : w.serving ≤ t
    pub not_now : is_out w.home ≡ true → w.serving < t

  pub record Holding (t : ℕ) (seen : List E) : Type 0 where
    pub now : t ≡ w.serving
    pub out : is_out w.home ≡ true
    pub knows : seen ≡ w.log

  abbrev pub Stands : ℕ → Part E → Stage → Type 0
  Stands i p Idle = Unit {0}
  Stands i p (Waits t) = Turned i t p.number × Waiting t
  Stands i p (Holds t) = Turned i t p.number × Holding t p.seen

  pub record Knows (i : ℕ) (v : View E) : Type 0 where
    pub tagged : v.part.number ≢ note_number → v.tag ≡ w.tag
    pub stands : Stands i v.part v.stage
    pub fits : Fits by n w.log w.owner i v.part
    pub olds_fit : AllFit by n w.log w.owner i v.part.number v.olds
    pub spares : (k : ℕ) → v.spare ≤ k → k < n → k ≢ v.part.number → Spare by n w.log w.owner i k

module _ {X E : Type 0} (journal : X → List E) (label : X → ℕ) (by : E → ℕ) (n : ℕ) where
  pub record Kept (s : State (Option X) (View E)) : Type 0 where
    pub world : World X E
    pub words : s.words ≡ world.serving ∷ world.tickets ∷ world.bells
    pub homes : s.homes ≡ shelf world.home ∷ []
    pub few : n ≤ note_number
    pub few_tickets : world.tickets ≤ last_ticket
    pub unmade : (k : ℕ) → n ≤ k → of by k world.log ≡ []
    pub logged : (x : X) → world.home ≡ maybe.some x → journal x ≡ world.log
    pub labelled : (x : X) → world.home ≡ maybe.some x → label x ≡ world.tag
    pub ordered : world.serving ≤ world.tickets
    pub counted : world.serving + with_ticket s.views ≡ world.tickets
    pub out_drawn : is_out world.home ≡ true → world.serving < world.tickets
    pub had : (t : ℕ) → world.serving ≤ t → t < world.tickets → (v : View E) × (get_elem? s.views (world.turn t) ≡ maybe.some v) × HasTicket t v.stage
    pub each : (i : ℕ) (v : View E) → get_elem? s.views i ≡ maybe.some v → Knows by n world i v

module _ {E : Type 0} where
  abbrev pub part_of : ℕ → List E → List E → Part E
  part_of number seen own = record { number = number; seen = seen; own = own }

  abbrev pub view_of : Stage → Part E → List (Part E) → ℕ → ℕ → View E
  view_of stage part olds spare tag = record { stage = stage; part = part; olds = olds; spare = spare; tag = tag }

  abbrev pub staged : Stage → View E → View E
  staged stage v = view_of stage v.part v.olds v.spare v.tag

  -- the turn, with the journal so far
  abbrev pub holding : ℕ → List E → View E → View E
  holding t log v = view_of (Holds t) (part_of v.part.number log v.part.own) v.olds v.spare v.tag

  -- the turn is given up, and what was added to the journal is the seat's own
  abbrev pub given : List E → View E → View E
  given log v = view_of Idle (part_of v.part.number log (v.part.own ++ drop (length v.part.seen) log)) v.olds v.spare v.tag

  -- the journal goes on with entries of this number
  abbrev pub Goes : (E → ℕ) → ℕ → List E → List E → Type 0
  Goes by k seen log = (added : List E) × (log ≡ seen ++ added) × AllBy by k added

  abbrev pub longer : List E → List E → List E
  longer xs ys = if nat_lt (length xs) (length ys) then ys else xs

  -- a note has a number above those of the seats, no entries, and has seen the same
  abbrev pub note_of : View E → View E
  note_of v = view_of Idle (part_of note_number v.part.seen []) [] note_number v.tag

  -- the next number is given to a new seat
  abbrev pub dealer : View E → View E
  dealer v = view_of v.stage v.part v.olds (v.spare + 1) v.tag

  abbrev pub dealt : View E → View E
  dealt v = view_of Idle (part_of v.spare v.part.seen []) [] note_number v.tag

  -- the second's parts become old parts of the first
  abbrev pub joined : View E → View E → View E
  joined v w = view_of v.stage v.part (w.part ∷ w.olds ++ v.olds) v.spare v.tag

  abbrev pub spent_view : View E
  spent_view = view_of Idle (part_of note_number [] []) [] note_number 0

  abbrev pub with_seen : List E → List (Part E) → View E → View E
  with_seen seen olds v = view_of v.stage (part_of v.part.number seen v.part.own) olds v.spare v.tag

  abbrev pub parts_of : View E → List (Part E)
  parts_of v = v.part ∷ v.olds

module _ {X E : Type 0} (journal : X → List E) (label : X → ℕ) (by : E → ℕ) where
  abbrev pub Sat : Type 0
  Sat = Me (Option X) (View E)

  abbrev pub drawn : Step (Option X) → Sat → ℕ → Sat → Type 0
  drawn st m r m' = (r ≡ st.first → m' ≡ (staged (Waits st.first) m.0, m.1)) × (r ≢ st.first → m' ≡ m)

  -- the seat has the turn and the value, in whose journal it has seen all, and its own entries are all of its number
  abbrev pub Gets : ℕ → Sat → Sat → Type 0
  Gets t m m' = (x : X) × (m' ≡ (holding t (journal x) m.0, (0, Some x) ∷ m.1)) × StartsWith (journal x) m.0.part.seen × (of by m.0.part.number (journal x) ≡ m.0.part.own) × (label x ≡ m.0.tag)

  abbrev pub looked : Step (Option X) → Sat → ℕ → Sat → Type 0
  looked st m r m' = (t : ℕ) → m.0.stage ≡ Waits t → (r ≡ t → Gets t m m') × (r ≢ t → m' ≡ m)

  abbrev pub served : Step (Option X) → Sat → ℕ → Sat → Type 0
  served st m r m' = (x : X) → m.1 ≡ (0, Some x) ∷ [] → m' ≡ (given (journal x) m.0, [])

  -- both seen lists begin what is seen then, and the entries of the own number in it are the first of the own ones
  abbrev pub KnowsBoth : List E → List E → Part E → Type 0
  KnowsBoth xs ys p = StartsWith p.seen xs × StartsWith p.seen ys × StartsWith p.own (of by p.number p.seen)

  -- after a join: what the other had seen is seen, and its parts are kept
  abbrev pub learned : Step (Option X) → Sat → ℕ → Sat → Type 0
  learned st m r m' = (q : Part E) (qs : List (Part E)) → m.0.stage ≡ Idle → m.0.olds ≡ q ∷ qs
      → (m' ≡ (with_seen (longer m.0.part.seen q.seen) (q ∷ qs) m.0, m.1)) × KnowsBoth m.0.part.seen q.seen m'.0.part

  -- the same, and the other part is let go
  abbrev pub met : Step (Option X) → Sat → ℕ → Sat → Type 0
  met st m r m' = (q : Part E) (qs : List (Part E)) → m.0.stage ≡ Idle → m.0.olds ≡ q ∷ qs
      → (m' ≡ (with_seen (longer m.0.part.seen q.seen) qs m.0, m.1)) × KnowsBoth m.0.part.seen q.seen m'.0.part

-- the first seat has the last number, and all others to give
abbrev pub opening_view : {E : Type 0} → ℕ → ℕ → View E
opening_view n tag = view_of Idle (part_of (n - 1) [] []) [] 0 tag

module _ {X E : Type 0} where
  -- a seat that takes turns, and has no turn now
  abbrev pub IsFree : Seat (Option X) (View E) → Type 0
  IsFree p = (p.me.0.stage ≡ Idle) × (p.me.0.part.number ≢ note_number) × (p.me.1 ≡ [])

  -- the seat has the turn, and its value was taken out
  abbrev pub HasTurn : Seat (Option X) (View E) → Type 0
  HasTurn p = (t : ℕ) × (p.me.0.stage ≡ Holds t) × (p.me.1 ≡ (0, None) ∷ [])

  abbrev pub IsSamePlace : Seat (Option X) (View E) → Seat (Option X) (View E) → Type 0
  IsSamePlace p q = (q.table_id ≡ p.table_id) × (q.id ≡ p.id)

  abbrev pub number_of : Seat (Option X) (View E) → ℕ
  number_of p = p.me.0.part.number

  abbrev pub seen_of : Seat (Option X) (View E) → List E
  seen_of p = p.me.0.part.seen

  abbrev pub own_of : Seat (Option X) (View E) → List E
  own_of p = p.me.0.part.own

  -- what was joined into it, and what it may give, stay
  abbrev pub IsSameRest : Seat (Option X) (View E) → Seat (Option X) (View E) → Type 0
  IsSameRest p q = (q.me.0.part.number ≡ p.me.0.part.number) × (q.me.0.olds ≡ p.me.0.olds) × (q.me.0.spare ≡ p.me.0.spare) × (q.me.0.tag ≡ p.me.0.tag)

  -- a seat that has seen and entered nothing
  abbrev pub IsNew : TableId → ℕ → ℕ → Seat (Option X) (View E) → Type 0
  IsNew z tag number p = (p.table_id ≡ z) × IsFree p × (p.me.0.part ≡ part_of number [] []) × (p.me.0.olds ≡ []) × (p.me.0.tag ≡ tag)

module _ {E : Type 0} where
  abbrev pub HasNumber : ℕ → List (Part E) → Type 0
  HasNumber k [] = ⊥
  HasNumber k (p ∷ ps) = (p.number ≡ k) ⊎ HasNumber k ps

  -- the journal begins with what each part has seen, and the entries of its number are its own
  abbrev pub AllTold : (E → ℕ) → List E → List (Part E) → Type 0
  AllTold by log [] = Unit {0}
  AllTold by log (p ∷ ps) = StartsWith log p.seen × (of by p.number log ≡ p.own) × AllTold by log ps

module _ {X E : Type 0} where
  -- seats that have seen and entered nothing, numbered from k on
  abbrev pub AreNew : TableId → ℕ → ℕ → List (Seat (Option X) (View E)) → Type 0
  AreNew z tag k [] = Unit {0}
  AreNew z tag k (p ∷ ps) = IsNew z tag k p × AreNew z tag (suc k) ps

  -- a seat that has no turn
  abbrev pub Rests : Seat (Option X) (View E) → Type 0
  Rests p = (p.me.0.stage ≡ Idle) × (p.me.1 ≡ [])
