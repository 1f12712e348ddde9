-- A note of one of a row's locks.
use Rattle.std.proofs.Common.{◌≡◌, ℕ, ◌<◌, List, length, get_or, ap, ◌∙◌, arith}
use Rattle.std.proofs.lemmas.List.{length-map}
use Rattle.monitor_model.specs.declared.record.CellEvent.{CellEvent}
use Rattle.turn_lock.specs.Seats.{TurnIs, SeatIs, NoteIs}
use Rattle.turn_lock.proofs.Rows.{rest_length, rest_at}
use Rattle.site_cells.specs.Row.{CellsSeen, AreLocks, AreSeats}
use Rattle.site_cells.specs.Notes.{IsNoteAt}
use Rattle.site_cells.proofs.Places.{events_at, seen_of, within}

-- a note is of a cell at which the row has a seat
pub note_short : (names : List TurnIs) (n : ℕ) (as' : List (SeatIs CellEvent)) (seen : CellsSeen) → AreSeats names n as' → seen_of n as' ≡ seen → (s : ℕ) (m : NoteIs CellEvent) → IsNoteAt names s m → (s < length as') × (s < length seen.cells)
note_short names n as' seen seats is s m h =
    let a = ap (λ (x : CellsSeen). length x.cells) is in
    let k = length-map as' events_at in
    let r = rest_length names as' seats.rest in
    let w = h.within in
    (omega arith, omega arith)

module _ (names ts : List TurnIs) (gates n : ℕ) (as' : List (SeatIs CellEvent)) (seen : CellsSeen) (locks : AreLocks names ts gates) (seats : AreSeats names n as') (is : seen_of n as' ≡ seen) (s : ℕ) (m : NoteIs CellEvent) where
  -- the note that a seat of the row makes
  pub note_made : s < length seen.cells → (a : SeatIs CellEvent) → a ≡ get_or as' s a → m.lock ≡ a.lock → IsNoteAt names s m
  note_made short a a_is at =
      let w = (within names ts gates n as' seen locks seats is s short).0 in
      let r = rest_length names as' seats.rest in
      record {
        within = omega arith;
        here = λ t t_is. at ∙ (rest_at names as' seats.rest s t a w t_is a_is).lock;
      }

  pub note_lock : IsNoteAt names s m → (t : TurnIs) → t ≡ get_or ts s t → m.lock ≡ t.id
  note_lock h t t_is = h.here t (t_is ∙ ap (λ l. get_or l s t) locks.named)
