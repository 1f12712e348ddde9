use Rattle.std.proofs.Common.{rules, ℕ, ◌<◌, List, length, sym, ◌∙◌, subst}
use Rattle.std.specs.Prelude.{vec_len}
use Rattle.monitor_model.specs.declared.record.CellEvent.{CellEvent}
use Rattle.site_cells.specs.Turns.{GivesLast, HasTalked}
use Rattle.site_cells.proofs.Places.{within, rests, label_here, number_here, seen_here, seats_still, seen_then, only_here}
use Rattle.site_cells.proofs.seats.CellSeats.dialog.Goals as goal

pub index-lock-requires : goal.index-lock-requires
index-lock-requires g c =
    let names = g.C.CellNames.cell_turns in
    let ts = c.locks.inside.turns.items in
    let gates = vec_len c.locks.inside.gates in
    let n = c.self.inside.number in
    let seats = c.self.inside.seats.items in
    let s = c.args.service in
    let l : s < length ts = (within names ts gates n seats c.args.self.now c.locks.invariant c.self.invariant c.self.view_is s c.requires.service).1 in
    search rules

pub index-gate-requires : goal.index-gate-requires
index-gate-requires g c =
    let names = g.C.CellNames.cell_turns in
    let ts = c.locks.inside.turns.items in
    let gates = vec_len c.locks.inside.gates in
    let n = c.self.inside.number in
    let seats = c.self.inside.seats.items in
    let s = c.args.service in
    let l : s < gates = (within names ts gates n seats c.args.self.now c.locks.invariant c.self.invariant c.self.view_is s c.requires.service).2 in
    search rules

pub talk-requires-clause-lock : goal.talk-requires-clause-lock
talk-requires-clause-lock g c =
    let names = g.C.CellNames.cell_turns in
    let ts = c.locks.inside.turns.items in
    let gates = vec_len c.locks.inside.gates in
    let n = c.self.inside.number in
    let seats = c.self.inside.seats.items in
    let s = c.args.service in
    (rests names ts gates n seats c.args.self.now c.locks.invariant c.self.invariant c.self.view_is s c.requires.service c.index-lock.result.now c.index_mut-seat.result.now c.index-lock.ensures c.index_mut-seat.ensures.value).lock

pub talk-requires-clause-free : goal.talk-requires-clause-free
talk-requires-clause-free g c =
    let names = g.C.CellNames.cell_turns in
    let ts = c.locks.inside.turns.items in
    let gates = vec_len c.locks.inside.gates in
    let n = c.self.inside.number in
    let seats = c.self.inside.seats.items in
    let s = c.args.service in
    (rests names ts gates n seats c.args.self.now c.locks.invariant c.self.invariant c.self.view_is s c.requires.service c.index-lock.result.now c.index_mut-seat.result.now c.index-lock.ensures c.index_mut-seat.ensures.value).free

pub talk-requires-clause-worker : goal.talk-requires-clause-worker
talk-requires-clause-worker g c =
    let names = g.C.CellNames.cell_turns in
    let ts = c.locks.inside.turns.items in
    let gates = vec_len c.locks.inside.gates in
    let n = c.self.inside.number in
    let seats = c.self.inside.seats.items in
    let s = c.args.service in
    c.requires.worker ∙ sym (number_here names ts gates n seats c.args.self.now c.locks.invariant c.self.invariant c.self.view_is s c.requires.service c.index-lock.result.now c.index_mut-seat.result.now c.index-lock.ensures c.index_mut-seat.ensures.value)

pub talk-requires-clause-declared : goal.talk-requires-clause-declared
talk-requires-clause-declared g c =
    let names = g.C.CellNames.cell_turns in
    let ts = c.locks.inside.turns.items in
    let gates = vec_len c.locks.inside.gates in
    let n = c.self.inside.number in
    let seats = c.self.inside.seats.items in
    let s = c.args.service in
    subst (λ (x : ℕ). x < length (g.W.Columns.asker c.args.columns.now).config.services) (sym (label_here names ts gates n seats c.args.self.now c.locks.invariant c.self.invariant c.self.view_is s c.requires.service c.index-lock.result.now c.index_mut-seat.result.now c.index-lock.ensures c.index_mut-seat.ensures.value)) c.requires.declared

pub invariant_of-self : goal.invariant_of-self
invariant_of-self g c =
    let names = g.C.CellNames.cell_turns in
    let ts = c.locks.inside.turns.items in
    let gates = vec_len c.locks.inside.gates in
    let n = c.self.inside.number in
    let seats = c.self.inside.seats.items in
    let s = c.args.service in
    seats_still names ts gates n seats c.args.self.now c.locks.invariant c.self.invariant c.self.view_is s c.requires.service c.index-lock.result.now c.index_mut-seat.result.now c.index-lock.ensures c.index_mut-seat.ensures.value c.talk.new.seat c.talk.ensures.seat

pub returns-clause-talked : goal.returns-clause-talked
returns-clause-talked g c =
    let names = g.C.CellNames.cell_turns in
    let ts = c.locks.inside.turns.items in
    let gates = vec_len c.locks.inside.gates in
    let n = c.self.inside.number in
    let seats = c.self.inside.seats.items in
    let s = c.args.service in
    subst (λ (x : ℕ × List CellEvent × List CellEvent). HasTalked g.N.Numbered.launcher (g.W.Columns.asker c.args.columns.now) (g.W.Columns.shows c.talk.new.columns x.0) c.args.head c.args.content c.args.wanted x.0 x.1 (g.W.Columns.seen c.args.columns.now) c.talk.result x.2 (g.W.Columns.seen c.talk.new.columns)) (λ i. (label_here names ts gates n seats c.args.self.now c.locks.invariant c.self.invariant c.self.view_is s c.requires.service c.index-lock.result.now c.index_mut-seat.result.now c.index-lock.ensures c.index_mut-seat.ensures.value i, seen_here names ts gates n seats c.args.self.now c.locks.invariant c.self.invariant c.self.view_is s c.requires.service c.index-lock.result.now c.index_mut-seat.result.now c.index-lock.ensures c.index_mut-seat.ensures.value i, seen_then names ts gates n seats c.args.self.now c.locks.invariant c.self.invariant c.self.view_is s c.requires.service c.index-lock.result.now c.index_mut-seat.result.now c.index-lock.ensures c.index_mut-seat.ensures.value c.talk.new.seat c.talk.ensures.seat i)) c.talk.ensures.talked

pub returns-clause-gives : goal.returns-clause-gives
returns-clause-gives g c =
    let names = g.C.CellNames.cell_turns in
    let ts = c.locks.inside.turns.items in
    let gates = vec_len c.locks.inside.gates in
    let n = c.self.inside.number in
    let seats = c.self.inside.seats.items in
    let s = c.args.service in
    subst (GivesLast c.talk.result c.talk.new.reply) (seen_then names ts gates n seats c.args.self.now c.locks.invariant c.self.invariant c.self.view_is s c.requires.service c.index-lock.result.now c.index_mut-seat.result.now c.index-lock.ensures c.index_mut-seat.ensures.value c.talk.new.seat c.talk.ensures.seat) c.talk.ensures.gives

pub returns-clause-only : goal.returns-clause-only
returns-clause-only g c =
    let names = g.C.CellNames.cell_turns in
    let ts = c.locks.inside.turns.items in
    let gates = vec_len c.locks.inside.gates in
    let n = c.self.inside.number in
    let seats = c.self.inside.seats.items in
    let s = c.args.service in
    only_here names ts gates n seats c.args.self.now c.locks.invariant c.self.invariant c.self.view_is s c.requires.service c.index-lock.result.now c.index_mut-seat.result.now c.index-lock.ensures c.index_mut-seat.ensures.value c.talk.new.seat c.talk.ensures.seat
