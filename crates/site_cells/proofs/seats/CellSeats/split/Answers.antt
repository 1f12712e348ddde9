use Rattle.std.proofs.Common.{rules, ◌<◌, List, length, ap, ◌∙◌}
use Rattle.std.specs.Prelude.{vec_len}
use Rattle.site_cells.specs.Held.{events_in}
use Rattle.turn_lock.specs.Seats.{NoteIs}
use Rattle.monitor_model.specs.declared.record.CellEvent.{CellEvent}
use Rattle.site_cells.proofs.Places.{within, rests, seen_here, seats_still, same_here, still_same}
use Rattle.site_cells.proofs.Notes.{note_made}
use Rattle.site_cells.proofs.seats.CellSeats.split.Goals as goal

pub index-lock-requires : goal.index-lock-requires
index-lock-requires g c =
    let names = g.C.CellNames.cell_turns in
    let ts = c.locks.inside.turns.items in
    let gates = vec_len c.locks.inside.gates in
    let n = c.self.inside.number in
    let seats = c.self.inside.seats.items in
    let s = c.args.service in
    let l : s < length ts = (within names ts gates n seats c.args.self.now c.locks.invariant c.self.invariant c.self.view_is s c.requires).1 in
    search rules

pub split-requires : goal.split-requires
split-requires g c =
    let names = g.C.CellNames.cell_turns in
    let ts = c.locks.inside.turns.items in
    let gates = vec_len c.locks.inside.gates in
    let n = c.self.inside.number in
    let seats = c.self.inside.seats.items in
    let s = c.args.service in
    record { lock = (rests names ts gates n seats c.args.self.now c.locks.invariant c.self.invariant c.self.view_is s c.requires c.index-lock.result.now c.index_mut-seat.result.now c.index-lock.ensures c.index_mut-seat.ensures.value).lock }

pub invariant_of-self : goal.invariant_of-self
invariant_of-self g c =
    let names = g.C.CellNames.cell_turns in
    let ts = c.locks.inside.turns.items in
    let gates = vec_len c.locks.inside.gates in
    let n = c.self.inside.number in
    let seats = c.self.inside.seats.items in
    let s = c.args.service in
    seats_still names ts gates n seats c.args.self.now c.locks.invariant c.self.invariant c.self.view_is s c.requires c.index-lock.result.now c.index_mut-seat.result.now c.index-lock.ensures c.index_mut-seat.ensures.value c.split.new.seat (still_same c.index_mut-seat.result.now c.split.new.seat c.split.ensures.seat)

pub invariant_of-result : goal.invariant_of-result
invariant_of-result g c =
    let names = g.C.CellNames.cell_turns in
    let ts = c.locks.inside.turns.items in
    let gates = vec_len c.locks.inside.gates in
    let n = c.self.inside.number in
    let seats = c.self.inside.seats.items in
    let s = c.args.service in
    note_made names ts gates n seats c.args.self.now c.locks.invariant c.self.invariant c.self.view_is s c.split.result c.requires c.index_mut-seat.result.now c.index_mut-seat.ensures.value (ap (λ (m : NoteIs CellEvent). m.lock) c.split.ensures.note)

pub returns-clause-note : goal.returns-clause-note
returns-clause-note g c =
    let names = g.C.CellNames.cell_turns in
    let ts = c.locks.inside.turns.items in
    let gates = vec_len c.locks.inside.gates in
    let n = c.self.inside.number in
    let seats = c.self.inside.seats.items in
    let s = c.args.service in
    ap (λ (l : List CellEvent). record { service = s; seen = l }) (ap (λ (m : NoteIs CellEvent). events_in m.seen) c.split.ensures.note ∙ seen_here names ts gates n seats c.args.self.now c.locks.invariant c.self.invariant c.self.view_is s c.requires c.index-lock.result.now c.index_mut-seat.result.now c.index-lock.ensures c.index_mut-seat.ensures.value)

pub returns-clause-same : goal.returns-clause-same
returns-clause-same g c =
    let names = g.C.CellNames.cell_turns in
    let ts = c.locks.inside.turns.items in
    let gates = vec_len c.locks.inside.gates in
    let n = c.self.inside.number in
    let seats = c.self.inside.seats.items in
    let s = c.args.service in
    same_here names ts gates n seats c.args.self.now c.locks.invariant c.self.invariant c.self.view_is s c.requires c.index-lock.result.now c.index_mut-seat.result.now c.index-lock.ensures c.index_mut-seat.ensures.value c.split.new.seat (still_same c.index_mut-seat.result.now c.split.new.seat c.split.ensures.seat) c.split.ensures.seat
