-- Seats, by what they have seen of the cells' events.
use Rattle.std.proofs.Common.{inl, inr, ℕ, List, [], ◌∷◌, map, ap, ◌∙◌}
use Rattle.std.proofs.lemmas.List.{map-append}
use Rattle.monitor_model.specs.declared.record.CellEvent.{CellEvent}
use Rattle.site_cells.specs.Held.{events_in}
use Rattle.turn_lock.specs.Seats.{SeatIs, Sight, AllGrow, HasSight, sight, sights}
use Rattle.turn_lock.specs.Rows.{RowHas, GrownRow, IsJoined, JoinedRow, NoneFrom}
use Rattle.site_cells.specs.Closing.{cell_sight, cell_seat}
use Rattle.site_cells.proofs.EnteredEvents.{events_grow, events_none, events_behind}

module _ (by : CellEvent → ℕ) where
  all_grow : (ms : List (Sight CellEvent)) (E : List CellEvent) → AllGrow by ms E → AllGrow by (map cell_sight ms) (events_in E)
  all_grow [] E h = tt
  all_grow (m ∷ ms) E h = (events_grow by m.number m.seen E h.0, all_grow ms E h.1)

  pub grown_seats : (as' : List (SeatIs CellEvent)) (Es : List (List CellEvent)) → GrownRow by as' Es → GrownRow by (map cell_seat as') (map events_in Es)
  grown_seats [] [] h = tt
  grown_seats [] (E ∷ Es) h = absurd h
  grown_seats (a ∷ as') [] h = absurd h
  grown_seats (a ∷ as') (E ∷ Es) h = (all_grow (sights a) E h.0, grown_seats as' Es h.1)

  pub none_seats : (n : ℕ) (Es : List (List CellEvent)) → NoneFrom by n Es → NoneFrom by n (map events_in Es)
  none_seats n [] h = tt
  none_seats n (E ∷ Es) h = ((λ k least. events_none by k E (h.0 k least)), none_seats n Es h.1)

  is_joined : (o a b : SeatIs CellEvent) → IsJoined by o a b → IsJoined by (cell_seat o) (cell_seat a) (cell_seat b)
  is_joined o a b j = record {
    is = ap cell_seat j.is
        ∙ ap (λ (ms : List (Sight CellEvent)). record { lock = a.lock; number = a.number; seen = events_in b.seen; held = a.held; label = a.label; olds = sight (cell_seat o) ∷ ms }) (map-append cell_sight o.olds a.olds);
    grows = events_grow by a.number a.seen b.seen j.grows;
    both = events_behind o.seen b.seen j.both;
  }

  pub joined_seats : (os as' bs : List (SeatIs CellEvent)) → JoinedRow by os as' bs → JoinedRow by (map cell_seat os) (map cell_seat as') (map cell_seat bs)
  joined_seats [] [] [] j = tt
  joined_seats [] [] (b ∷ bs) j = absurd j
  joined_seats [] (a ∷ as') bs j = absurd j
  joined_seats (o ∷ os) [] bs j = absurd j
  joined_seats (o ∷ os) (a ∷ as') [] j = absurd j
  joined_seats (o ∷ os) (a ∷ as') (b ∷ bs) j = (is_joined o a b j.0, joined_seats os as' bs j.1)

has_sight : (k : ℕ) (ms : List (Sight CellEvent)) → HasSight k (map cell_sight ms) → HasSight k ms
has_sight k [] h = h
has_sight k (m ∷ ms) (inl h) = inl h
has_sight k (m ∷ ms) (inr h) = inr (has_sight k ms h)

-- the seats have the numbers that they have by what was seen of the events
pub has_seats : (k : ℕ) (as' : List (SeatIs CellEvent)) → RowHas k (map cell_seat as') → RowHas k as'
has_seats k [] h = tt
has_seats k (a ∷ as') h = (has_sight k (sights a) h.0, has_seats k as' h.1)
