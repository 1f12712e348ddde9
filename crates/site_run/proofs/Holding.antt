-- The seats of all numbers, at the beginning of a run and at its end.
use Rattle.std.proofs.Common.{◌≡◌, ◌⊎◌, inl, inr, ℕ, suc, ◌+◌, ◌<◌, ◌≤◌, ◌*◌, List, [], ◌∷◌, ◌++◌, length, reverse, set, get_or, refl, sym, ap, ◌∙◌, subst, arith}
use Rattle.std.proofs.lemmas.List.{length-reverse, length-set, reverse-append, reverse-reverse}
use mathlib.Core.Logic.{dite}
use native.Mathlib.Decide.{ℕ_discrete}
use Rattle.atomic_table.specs.Seated.{TableId}
use Rattle.okws_base.specs.declared.limit.TheConstants.{MOST_DOORS}
use Rattle.okws_base.specs.Turns.{of}
use Rattle.okws_outer.specs.Doors.{Entrance}
use Rattle.okws_plan.specs.declared.configuration.Config.{Config}
use Rattle.turn_lock.specs.BoardSeats.{BoardIs, AllAt, AreRising}
use Rattle.turn_lock.specs.BoardSeats.{SeatIs as Place}
use Rattle.site_cells.specs.Closing.{HasNumber}
use Rattle.site_cells.specs.Row.{CellsSeen, IsNew, AreNew}
use Rattle.site_locks.specs.Closing.{SomeIs}
use Rattle.site_locks.specs.Made.{fresh, AreFreshFrom}
use Rattle.site_locks.specs.Sat.{Sat}
use Rattle.turn_lock.specs.Seats.{TurnIs, SeatIs, IsFresh, AreFresh, AllRest, SomeHas}
use Rattle.worker_lives.proofs.Waiting.{leads_blank}
use Rattle.site_run.specs.Places.{AllIdle}
use Rattle.site_run.specs.Rooms.{AreOffered}
use Rattle.site_worker.specs.declared.worker.TheConstants.{TURN_ITEMS}
use Rattle.launch_turns.specs.Deeds.{by_deed}
use Rattle.launch_turns.specs.declared.deed.Deed.{Deed}
use Rattle.site_run.specs.Rows.{AreChairs, spare_first}
use Rattle.site_run.specs.Opening.{items_first, seen_first}
use Rattle.site_run.specs.Tied.{AreUnused, OnlyLaunches}
use Rattle.site_run.specs.Whole.{AreNewFrom, AreNamed, IsReady}
use Rattle.site_run.proofs.Seating.{first_seat, push_length}
use Rattle.site_run.proofs.Tying.{unused_spare}

new_push : (cells k m : ℕ) (as' : List CellsSeen) (a : CellsSeen) → m ≡ length as' + k → AreNewFrom cells k as' → IsNew cells m a → AreNewFrom cells k (as' ++ a ∷ [])
new_push cells k m [] a e h i = (subst (λ x. IsNew cells x a) (let q : m ≡ k = omega arith in q) i, tt)
new_push cells k m (b ∷ as') a e h i = (h.0, new_push cells (suc k) m as' a (omega arith) h.1 i)

-- seats at cells whose numbers fall, turned round
pub new_turned : (cells k : ℕ) (as' : List CellsSeen) → AreNew cells k as' → AreNewFrom cells k (reverse as')
new_turned cells k [] h = tt
new_turned cells k (a ∷ as') h =
    let n = length-reverse as' in
    subst (AreNewFrom cells k) (sym (reverse-append (a ∷ []) as')) (new_push cells k (length as' + k) (reverse as') a (omega arith) (new_turned cells k as' h.1) h.0)

-- the last of them has the greatest number
pub new_pop : (cells k m : ℕ) (as' : List CellsSeen) (a : CellsSeen) → m ≡ length as' + k → AreNewFrom cells k (as' ++ a ∷ []) → AreNewFrom cells k as' × IsNew cells m a
new_pop cells k m [] a e h = (tt, subst (λ x. IsNew cells x a) (let q : k ≡ m = omega arith in q) h.0)
new_pop cells k m (b ∷ as') a e h = let rest = new_pop cells (suc k) m as' a (omega arith) h.1 in ((h.0, rest.0), rest.1)

-- the last of fresh seats at columns has the greatest number
pub seats_pop : (proxies k m : ℕ) (ss : List Sat) (s : Sat) → m ≡ length ss + k → AreFreshFrom proxies k (ss ++ s ∷ []) → AreFreshFrom proxies k ss × (s ≡ fresh proxies m)
seats_pop proxies k m [] s e h = (tt, h.0 ∙ ap (fresh proxies) (let q : k ≡ m = omega arith in q))
seats_pop proxies k m (r ∷ ss) s e h = let rest = seats_pop proxies (suc k) m ss s (omega arith) h.1 in ((h.0, rest.0), rest.1)

-- fresh seats at the launcher, whose numbers rise by one from k
abbrev pub TurnsFrom : TableId → ℕ → ℕ → List (SeatIs Deed) → Type 0
TurnsFrom z label k [] = Unit {0}
TurnsFrom z label k (a ∷ as') = IsFresh z label k a × TurnsFrom z label (suc k) as'

turns_push : (z : TableId) (label k m : ℕ) (as' : List (SeatIs Deed)) (a : SeatIs Deed) → m ≡ length as' + k → TurnsFrom z label k as' → IsFresh z label m a → TurnsFrom z label k (as' ++ a ∷ [])
turns_push z label k m [] a e h i = (subst (λ x. IsFresh z label x a) (let q : m ≡ k = omega arith in q) i, tt)
turns_push z label k m (b ∷ as') a e h i = (h.0, turns_push z label (suc k) m as' a (omega arith) h.1 i)

-- those whose numbers fall, turned round
turns_turned : (z : TableId) (label k : ℕ) (as' : List (SeatIs Deed)) → AreFresh z label k as' → TurnsFrom z label k (reverse as')
turns_turned z label k [] h = tt
turns_turned z label k (a ∷ as') h =
    let n = length-reverse as' in
    subst (TurnsFrom z label k) (sym (reverse-append (a ∷ []) as')) (turns_push z label k (length as' + k) (reverse as') a (omega arith) (turns_turned z label k as' h.1) h.0)

-- fresh seats of numbers in a row are seats
chairs_from : (t : TurnIs) (proxies cells k : ℕ) (ss : List Sat) (cs : List CellsSeen) (as' : List (SeatIs Deed))
    → length cs ≡ length ss → length as' ≡ length ss → AreFreshFrom proxies k ss → AreNewFrom cells k cs → TurnsFrom t.id t.label k as' → AreChairs t cells k ss cs as'
chairs_from t proxies cells k [] [] [] p q h i j = tt
chairs_from t proxies cells k [] [] (a ∷ as') p q h i j = absurd (omega arith)
chairs_from t proxies cells k [] (c ∷ cs) as' p q h i j = absurd (omega arith)
chairs_from t proxies cells k (s ∷ ss) [] as' p q h i j = absurd (omega arith)
chairs_from t proxies cells k (s ∷ ss) (c ∷ cs) [] p q h i j = absurd (omega arith)
chairs_from t proxies cells k (s ∷ ss) (c ∷ cs) (a ∷ as') p q h i j =
    let n = i.0 in let f = j.0 in (
      record {
        sat_number = ap (λ (x : Sat). x.number) h.0;
        cells_number = n.number_is;
        cells_are = n.cells_are;
        seat_number = f.number_is;
        rests = record { lock = f.lock; label_is = f.label_is; free = f.free };
      },
      chairs_from t proxies cells (suc k) ss cs as' (omega arith) (omega arith) h.1 i.1 j.1,
    )

pub first_chairs : (t : TurnIs) (proxies cells : ℕ) (ss : List Sat) (cs : List CellsSeen) (as' : List (SeatIs Deed))
    → length cs ≡ length ss → length as' ≡ length ss → AreFreshFrom proxies 0 ss → AreNewFrom cells 0 cs → AreFresh t.id t.label 0 (reverse as') → AreChairs t cells 0 ss cs as'
first_chairs t proxies cells ss cs as' p q h i j =
    chairs_from t proxies cells 0 ss cs as' p q h i (subst (TurnsFrom t.id t.label 0) (reverse-reverse as') (turns_turned t.id t.label 0 (reverse as') j))

-- they are unused
unused_from : (C : Config) (z : TableId) (label k : ℕ) (ss : List Sat) (cs : List CellsSeen) (as' : List (SeatIs Deed))
    → length cs ≡ length ss → length as' ≡ length ss → AreFreshFrom (length C.proxies) k ss → AreNewFrom (length C.services) k cs → TurnsFrom z label k as' → AreUnused C k ss cs as'
unused_from C z label k [] [] [] p q h i j = tt
unused_from C z label k [] [] (a ∷ as') p q h i j = absurd (omega arith)
unused_from C z label k [] (c ∷ cs) as' p q h i j = absurd (omega arith)
unused_from C z label k (s ∷ ss) [] as' p q h i j = absurd (omega arith)
unused_from C z label k (s ∷ ss) (c ∷ cs) [] p q h i j = absurd (omega arith)
unused_from C z label k (s ∷ ss) (c ∷ cs) (a ∷ as') p q h i j =
    let own_is : s.own ≡ [] = ap (λ (x : Sat). x.own) h.0 in
    let seen_is : a.seen ≡ [] = j.0.seen in (
      record {
        sat_is = h.0 ∙ ap (λ (x : Sat). record (fresh (length C.proxies) k) { own = x.own; spare = x.spare }) (sym h.0);
        cells = i.0;
        seat = j.0.number_is;
        launches = subst (λ items. OnlyLaunches k items a.seen) (sym own_is) (subst (λ past. OnlyLaunches k [] past) (sym seen_is) (record { entered = refl; only = refl; lead = leads_blank k; ends = refl }));
        none = λ l. own_is;
        turns = λ l. ap (of by_deed k) seen_is;
      },
      unused_from C z label (suc k) ss cs as' (omega arith) (omega arith) h.1 i.1 j.1,
    )

pub first_unused : (C : Config) (t : TurnIs) (ss : List Sat) (cs : List CellsSeen) (as' : List (SeatIs Deed))
    → length cs ≡ length ss → length as' ≡ length ss → AreFreshFrom (length C.proxies) 0 ss → AreNewFrom (length C.services) 0 cs → AreFresh t.id t.label 0 (reverse as') → AreUnused C 0 ss cs as'
first_unused C t ss cs as' p q h i j =
    unused_from C t.id t.label 0 ss cs as' p q h i (subst (TurnsFrom t.id t.label 0) (reverse-reverse as') (turns_turned t.id t.label 0 (reverse as') j))

-- places that are fresh are at their board
pub rising_at : (z : TableId) (k : ℕ) (as' : List Place) → AreRising z k as' → AllAt z as'
rising_at z k [] h = tt
rising_at z k (a ∷ as') h = (h.0.board, rising_at z (suc k) as' h.1)

module _ (t : TurnIs) (cells : ℕ) where
  -- at the end the workers' seats at the launcher rest there
  pub chairs_rest_all : (k : ℕ) (ss : List Sat) (cs : List CellsSeen) (as' : List (SeatIs Deed)) → AreChairs t cells k ss cs as' → AllRest t.id as'
  chairs_rest_all k [] [] [] h = tt
  chairs_rest_all k [] [] (a ∷ as') h = absurd h
  chairs_rest_all k [] (c ∷ cs) as' h = absurd h
  chairs_rest_all k (s ∷ ss) [] as' h = absurd h
  chairs_rest_all k (s ∷ ss) (c ∷ cs) [] h = absurd h
  chairs_rest_all k (s ∷ ss) (c ∷ cs) (a ∷ as') h = (h.0.rests.lock, h.0.rests.free, chairs_rest_all (suc k) ss cs as' h.1)

  -- each number has its seats
  pub chairs_have : (k j : ℕ) (ss : List Sat) (cs : List CellsSeen) (as' : List (SeatIs Deed)) → k ≤ j → j < length ss + k → AreChairs t cells k ss cs as'
      → SomeIs j ss × HasNumber j cs × SomeHas j as'
  chairs_have k j [] [] [] l u h = absurd (omega arith)
  chairs_have k j [] [] (a ∷ as') l u h = absurd h
  chairs_have k j [] (c ∷ cs) as' l u h = absurd h
  chairs_have k j (s ∷ ss) [] as' l u h = absurd h
  chairs_have k j (s ∷ ss) (c ∷ cs) [] l u h = absurd h
  chairs_have k j (s ∷ ss) (c ∷ cs) (a ∷ as') l u h = dite (ℕ_discrete k j)
      (λ e. (inl (h.0.sat_number ∙ e), inl (h.0.cells_number ∙ e), inl (inl (h.0.seat_number ∙ e))))
      (λ ne. let r = chairs_have (suc k) j ss cs as' (omega arith) (omega arith) h.1 in (inr r.0, inr r.1, inr r.2))

-- one more number has its seats at the columns
pub some_push : (j : ℕ) (ss : List Sat) (s : Sat) → SomeIs j ss ⊎ (s.number ≡ j) → SomeIs j (ss ++ s ∷ [])
some_push j [] s (inl h) = absurd h
some_push j [] s (inr e) = inl e
some_push j (r ∷ ss) s (inl (inl e)) = inl e
some_push j (r ∷ ss) s (inl (inr h)) = inr (some_push j ss s (inl h))
some_push j (r ∷ ss) s (inr e) = inr (some_push j ss s (inr e))

-- and at the cells
pub has_push : (j : ℕ) (cs : List CellsSeen) (c : CellsSeen) → HasNumber j cs ⊎ (c.number ≡ j) → HasNumber j (cs ++ c ∷ [])
has_push j [] c (inl h) = absurd h
has_push j [] c (inr e) = inl e
has_push j (d ∷ cs) c (inl (inl e)) = inl e
has_push j (d ∷ cs) c (inl (inr h)) = inr (has_push j cs c (inl h))
has_push j (d ∷ cs) c (inr e) = inr (has_push j cs c (inr e))

spare_there : (ss : List Sat) (s : Sat) → 0 < length ss → spare_first (set ss 0 s) ≡ s.spare
spare_there [] s l = absurd (omega arith)
spare_there (x ∷ ss) s l = refl

-- number 0 did nothing, and saw nothing at the launcher
items_none : (proxies : ℕ) (ss : List Sat) (r s : Sat) → AreFreshFrom proxies 0 ss → r ≡ get_or ss 0 r → s ≡ record r { spare = s.spare } → items_first (set ss 0 s) ≡ []
items_none proxies [] r s h p e = refl
items_none proxies (x ∷ ss) r s h p e = ap (λ (z : Sat). z.own) e ∙ (ap (λ (z : Sat). z.own) p ∙ ap (λ (z : Sat). z.own) h.0)

seen_none : (z : TableId) (label : ℕ) (as' : List (SeatIs Deed)) → TurnsFrom z label 0 as' → seen_first as' ≡ []
seen_none z label [] h = refl
seen_none z label (a ∷ as') h = h.0.seen

-- a run whose launcher was hired is ready, and number 0 has spare places
pub ready : (C : Config) (n doors : ℕ) (t : TurnIs) (b : BoardIs) (cell_turns : List TurnIs) (all ss : List Sat) (r first : Sat) (s : Sat) (all_cs cs : List CellsSeen) (c : CellsSeen) (as' : List (SeatIs Deed))
    (es : List Entrance) (places : List Place) (last : Place) (all_room seats_room all_cells_room cells_room turns_room doors_room desks_room : ℕ)
    → r ≡ get_or ss 0 r → first ≡ record r { spare = first.spare } → length C.services * TURN_ITEMS ≤ first.spare
    → AreNamed C n cell_turns all all_cs all_room all_cells_room → all ≡ ss ++ s ∷ [] → all_cs ≡ cs ++ c ∷ [] → n ≡ doors + 1 → n + 1 ≤ seats_room → n + 1 ≤ cells_room
    → t.count ≡ n → length as' ≡ n → n ≤ turns_room → AreFresh t.id t.label 0 (reverse as')
    → 0 < doors → doors ≤ MOST_DOORS → length es ≡ doors → AllIdle es → AreOffered doors b places last → doors ≤ doors_room → doors ≤ desks_room
    → IsReady C n t b cell_turns (record { seats = set ss 0 first; cells = cs; turns = as'; seats_room = seats_room; cells_room = cells_room; turns_room = turns_room })
    (record { entrances = es; places = places; doors_room = doors_room; desks_room = desks_room })
ready C n doors t b cell_turns all ss r first s all_cs cs c as' es places last all_room seats_room all_cells_room cells_room turns_room doors_room desks_room here given enough named e f d sr cr count many tr fresh some few doors_are idle offered dr kr =
    let seats_many : length ss ≡ n = (let l = push_length ss s in let q = ap length e in let m = named.seats_many in omega arith) in
    let cells_many : length cs ≡ n = (let l = push_length cs c in let q = ap length f in let m = named.cells_many in omega arith) in
    let seats = seats_pop (length C.proxies) 0 n ss s (omega arith) (subst (AreFreshFrom (length C.proxies) 0) e named.seats_fresh) in
    let cells = new_pop (length C.services) 0 n cs c (omega arith) (subst (AreNewFrom (length C.services) 0) f named.cells_new) in
    let places_many = offered.many in
    let board = offered.count_is in
    record {
      held = record {
        seated = first_seat t (length C.services) 0 ss r first cs as' here (ap (λ (x : Sat). x.number) given) (first_chairs t (length C.proxies) (length C.services) ss cs as' (omega arith) (omega arith) seats.0 cells.0 fresh);
        seats_many = length-set ss 0 first ∙ seats_many;
        seats_roomy = sr;
        cells_roomy = cr;
        doors_many = omega arith;
        some = omega arith;
        few = omega (arith, few);
        places_many = omega arith;
        places_at = rising_at b.id 0 places offered.rising;
        turn_count = count;
        numbers_count = omega arith;
        cells_count = named.counts;
        services = named.services;
      };
      unopened = record {
        items_are = items_none (length C.proxies) ss r first seats.0 here given;
        seen_is = seen_none t.id t.label as' (subst (TurnsFrom t.id t.label 0) (reverse-reverse as') (turns_turned t.id t.label 0 (reverse as') fresh));
      };
      unused = unused_spare C ss r first cs as' here given (first_unused C t ss cs as' (omega arith) (omega arith) seats.0 cells.0 fresh);
      spare = subst (λ k. length C.services * TURN_ITEMS ≤ k) (sym (spare_there ss first (omega arith))) enough;
      turns_roomy = tr;
      placed = record { idle = idle; fresh = offered.rising; alike = omega arith };
      roomy = record { doors = omega arith; desks = omega arith };
    }
