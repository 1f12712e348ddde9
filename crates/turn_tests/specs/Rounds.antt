-- What rounds over a row of locks leave as it was.
use Rattle.std.specs.Prelude.{◌≡◌, List, [], ◌∷◌}
use Rattle.turn_lock.specs.Seats.{SeatIs}

-- At each lock the seat is as it was, but for what it has seen.
abbrev pub SeenRow : {E : Type 0} → List (SeatIs E) → List (SeatIs E) → Type 0
SeenRow [] [] = Unit {0}
SeenRow [] (b ∷ bs) = ⊥
SeenRow (a ∷ as') [] = ⊥
SeenRow (a ∷ as') (b ∷ bs) = (b ≡ record { lock = a.lock; number = a.number; seen = b.seen; held = a.held; label = a.label; olds = a.olds }) × SeenRow as' bs

-- The same for each row of seats.
abbrev pub SeenRows : {E : Type 0} → List (List (SeatIs E)) → List (List (SeatIs E)) → Type 0
SeenRows [] [] = Unit {0}
SeenRows [] (q ∷ qs) = ⊥
SeenRows (r ∷ rs) [] = ⊥
SeenRows (r ∷ rs) (q ∷ qs) = SeenRow r q × SeenRows rs qs
