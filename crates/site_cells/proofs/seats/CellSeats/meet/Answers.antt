use Rattle.std.proofs.Common.{rules, ◌≡◌, ◌∙◌, ℕ, ◌<◌, List, length, set, sym, subst}
use Rattle.std.specs.Prelude.{vec_len}
use Rattle.okws_base.specs.Turns.{GrowsBy, Behind}
use Rattle.site_cells.specs.Held.{by_event, events_in}
use Rattle.monitor_model.specs.declared.record.CellEvent.{CellEvent}
use Rattle.site_cells.specs.Row.{OnlyAt, seen_at, link_at}
use Rattle.site_cells.specs.Notes.{CellNoteIs}
use Rattle.site_cells.proofs.Places.{within, rests, number_here, seen_here, seats_still, seen_then, link_here, link_then, only_here, seen_of}
use Rattle.site_cells.proofs.EnteredEvents.{events_grow, events_behind, booted_if}
use Rattle.site_cells.proofs.Notes.{note_short, note_lock}
use Rattle.site_cells.proofs.seats.CellSeats.meet.Goals as goal

pub index_mut-seat-requires : goal.index_mut-seat-requires
index_mut-seat-requires g c =
    let names = g.C.CellNames.cell_turns in
    let n = c.self.inside.number in
    let seats = c.self.inside.seats.items in
    let s = c.note.inside.service in
    let l : s < length seats = (note_short names n seats c.args.self.now c.self.invariant c.self.view_is s c.note.inside.note c.note.invariant).0 in
    search rules

pub index-lock-requires : goal.index-lock-requires
index-lock-requires g c =
    let names = g.C.CellNames.cell_turns in
    let ts = c.locks.inside.turns.items in
    let gates = vec_len c.locks.inside.gates in
    let n = c.self.inside.number in
    let seats = c.self.inside.seats.items in
    let s = c.note.inside.service in
    let l : s < length ts = (within names ts gates n seats c.args.self.now c.locks.invariant c.self.invariant c.self.view_is s (note_short names n seats c.args.self.now c.self.invariant c.self.view_is s c.note.inside.note c.note.invariant).1).1 in
    search rules

pub meet-requires-clause-lock : goal.meet-requires-clause-lock
meet-requires-clause-lock g c =
    let names = g.C.CellNames.cell_turns in
    let ts = c.locks.inside.turns.items in
    let gates = vec_len c.locks.inside.gates in
    let n = c.self.inside.number in
    let seats = c.self.inside.seats.items in
    let s = c.note.inside.service in
    ((rests names ts gates n seats c.args.self.now c.locks.invariant c.self.invariant c.self.view_is s (note_short names n seats c.args.self.now c.self.invariant c.self.view_is s c.note.inside.note c.note.invariant).1 c.index-lock.result.now c.index_mut-seat.result.now c.index-lock.ensures c.index_mut-seat.ensures.value).lock, note_lock names ts gates n seats c.args.self.now c.locks.invariant c.self.invariant c.self.view_is s c.note.inside.note c.note.invariant c.index-lock.result.now c.index-lock.ensures)

pub meet-requires-clause-free : goal.meet-requires-clause-free
meet-requires-clause-free g c =
    let names = g.C.CellNames.cell_turns in
    let ts = c.locks.inside.turns.items in
    let gates = vec_len c.locks.inside.gates in
    let n = c.self.inside.number in
    let seats = c.self.inside.seats.items in
    let s = c.note.inside.service in
    (rests names ts gates n seats c.args.self.now c.locks.invariant c.self.invariant c.self.view_is s (note_short names n seats c.args.self.now c.self.invariant c.self.view_is s c.note.inside.note c.note.invariant).1 c.index-lock.result.now c.index_mut-seat.result.now c.index-lock.ensures c.index_mut-seat.ensures.value).free

pub invariant_of-self : goal.invariant_of-self
invariant_of-self g c =
    let names = g.C.CellNames.cell_turns in
    let ts = c.locks.inside.turns.items in
    let gates = vec_len c.locks.inside.gates in
    let n = c.self.inside.number in
    let seats = c.self.inside.seats.items in
    let s = c.note.inside.service in
    seats_still names ts gates n seats c.args.self.now c.locks.invariant c.self.invariant c.self.view_is s (note_short names n seats c.args.self.now c.self.invariant c.self.view_is s c.note.inside.note c.note.invariant).1 c.index-lock.result.now c.index_mut-seat.result.now c.index-lock.ensures c.index_mut-seat.ensures.value c.meet.new.seat c.meet.ensures.seat

pub returns-clause-met : goal.returns-clause-met
returns-clause-met g c =
    let names = g.C.CellNames.cell_turns in
    let ts = c.locks.inside.turns.items in
    let gates = vec_len c.locks.inside.gates in
    let n = c.self.inside.number in
    let seats = c.self.inside.seats.items in
    let s = c.note.inside.service in
    subst (λ (x : CellNoteIs). Behind x.seen (seen_at (seen_of n (set seats s c.meet.new.seat)) x.service)) c.note.view_is
    (subst (Behind (events_in c.note.inside.note.seen)) (seen_then names ts gates n seats c.args.self.now c.locks.invariant c.self.invariant c.self.view_is s (note_short names n seats c.args.self.now c.self.invariant c.self.view_is s c.note.inside.note c.note.invariant).1 c.index-lock.result.now c.index_mut-seat.result.now c.index-lock.ensures c.index_mut-seat.ensures.value c.meet.new.seat c.meet.ensures.seat) (events_behind c.note.inside.note.seen c.meet.new.seat.seen c.meet.ensures.met))

pub returns-clause-grows : goal.returns-clause-grows
returns-clause-grows g c =
    let names = g.C.CellNames.cell_turns in
    let ts = c.locks.inside.turns.items in
    let gates = vec_len c.locks.inside.gates in
    let n = c.self.inside.number in
    let seats = c.self.inside.seats.items in
    let s = c.note.inside.service in
    let launcher = g.N.Numbered.launcher in
    let grows = events_grow (by_event launcher) c.index_mut-seat.result.now.number c.index_mut-seat.result.now.seen c.meet.new.seat.seen c.meet.ensures.grows in
    subst (λ (x : CellNoteIs). GrowsBy (by_event launcher) c.args.self.now.number (seen_at c.args.self.now x.service) (seen_at (seen_of n (set seats s c.meet.new.seat)) x.service)) c.note.view_is
    (subst (λ (x : ℕ × List CellEvent × List CellEvent). GrowsBy (by_event launcher) x.0 x.1 x.2) (λ i. (number_here names ts gates n seats c.args.self.now c.locks.invariant c.self.invariant c.self.view_is s (note_short names n seats c.args.self.now c.self.invariant c.self.view_is s c.note.inside.note c.note.invariant).1 c.index-lock.result.now c.index_mut-seat.result.now c.index-lock.ensures c.index_mut-seat.ensures.value i, seen_here names ts gates n seats c.args.self.now c.locks.invariant c.self.invariant c.self.view_is s (note_short names n seats c.args.self.now c.self.invariant c.self.view_is s c.note.inside.note c.note.invariant).1 c.index-lock.result.now c.index_mut-seat.result.now c.index-lock.ensures c.index_mut-seat.ensures.value i, seen_then names ts gates n seats c.args.self.now c.locks.invariant c.self.invariant c.self.view_is s (note_short names n seats c.args.self.now c.self.invariant c.self.view_is s c.note.inside.note c.note.invariant).1 c.index-lock.result.now c.index_mut-seat.result.now c.index-lock.ensures c.index_mut-seat.ensures.value c.meet.new.seat c.meet.ensures.seat i)) grows)

pub returns-clause-link : goal.returns-clause-link
returns-clause-link g c =
    let names = g.C.CellNames.cell_turns in
    let ts = c.locks.inside.turns.items in
    let gates = vec_len c.locks.inside.gates in
    let n = c.self.inside.number in
    let seats = c.self.inside.seats.items in
    let s = c.note.inside.service in
    let launcher = g.N.Numbered.launcher in
    subst (λ (x : CellNoteIs). c.args.self.now.number ≡ launcher → link_at (seen_of n (set seats s c.meet.new.seat)) x.service ≡ link_at c.args.self.now x.service) c.note.view_is
    (λ launches.
    sym (link_then names ts gates n seats c.args.self.now c.locks.invariant c.self.invariant c.self.view_is s (note_short names n seats c.args.self.now c.self.invariant c.self.view_is s c.note.inside.note c.note.invariant).1 c.index-lock.result.now c.index_mut-seat.result.now c.index-lock.ensures c.index_mut-seat.ensures.value c.meet.new.seat c.meet.ensures.seat)
    ∙ (booted_if launcher c.index_mut-seat.result.now.number c.index_mut-seat.result.now.seen c.meet.new.seat.seen c.meet.ensures.grows (number_here names ts gates n seats c.args.self.now c.locks.invariant c.self.invariant c.self.view_is s (note_short names n seats c.args.self.now c.self.invariant c.self.view_is s c.note.inside.note c.note.invariant).1 c.index-lock.result.now c.index_mut-seat.result.now c.index-lock.ensures c.index_mut-seat.ensures.value ∙ launches)
    ∙ link_here names ts gates n seats c.args.self.now c.locks.invariant c.self.invariant c.self.view_is s (note_short names n seats c.args.self.now c.self.invariant c.self.view_is s c.note.inside.note c.note.invariant).1 c.index-lock.result.now c.index_mut-seat.result.now c.index-lock.ensures c.index_mut-seat.ensures.value))

pub returns-clause-only : goal.returns-clause-only
returns-clause-only g c =
    let names = g.C.CellNames.cell_turns in
    let ts = c.locks.inside.turns.items in
    let gates = vec_len c.locks.inside.gates in
    let n = c.self.inside.number in
    let seats = c.self.inside.seats.items in
    let s = c.note.inside.service in
    subst (λ (x : CellNoteIs). OnlyAt x.service c.args.self.now (seen_of n (set seats s c.meet.new.seat))) c.note.view_is (only_here names ts gates n seats c.args.self.now c.locks.invariant c.self.invariant c.self.view_is s (note_short names n seats c.args.self.now c.self.invariant c.self.view_is s c.note.inside.note c.note.invariant).1 c.index-lock.result.now c.index_mut-seat.result.now c.index-lock.ensures c.index_mut-seat.ensures.value c.meet.new.seat c.meet.ensures.seat)
