use Rattle.std.proofs.Common.{rules, ℕ, ◌<◌, List, length, sym, ap, ◌∙◌, subst}
use Rattle.std.specs.Prelude.{IfSome, option_map, vec_len}
use Rattle.monitor_model.specs.declared.record.CellEvent.{CellEvent}
use Rattle.monitor_model.specs.Cell.{CellLaw, incarnation, last_booted}
use Rattle.site_cells.specs.Held.{IsLinkOf, events_in}
use Rattle.site_cells.specs.Turns.{HasRetired}
use Rattle.site_cells.proofs.Stays.{retired_none, retired_last, last_grown}
use Rattle.site_cells.proofs.Places.{within, rests, label_here, number_here, seen_here, seats_still, seen_then, link_here, link_then, only_here}
use Rattle.site_cells.proofs.seats.CellSeats.retire.Goals as goal

pub index-lock-requires : goal.index-lock-requires
index-lock-requires g c =
    let names = g.C.CellNames.cell_turns in
    let ts = c.locks.inside.turns.items in
    let gates = vec_len c.locks.inside.gates in
    let n = c.self.inside.number in
    let seats = c.self.inside.seats.items in
    let s = c.args.service in
    let l : s < length ts = (within names ts gates n seats c.args.self.now c.locks.invariant c.self.invariant c.self.view_is s c.requires.service).1 in
    search rules

pub retire-requires-clause-lock : goal.retire-requires-clause-lock
retire-requires-clause-lock g c =
    let names = g.C.CellNames.cell_turns in
    let ts = c.locks.inside.turns.items in
    let gates = vec_len c.locks.inside.gates in
    let n = c.self.inside.number in
    let seats = c.self.inside.seats.items in
    let s = c.args.service in
    (rests names ts gates n seats c.args.self.now c.locks.invariant c.self.invariant c.self.view_is s c.requires.service c.index-lock.result.now c.index_mut-seat.result.now c.index-lock.ensures c.index_mut-seat.ensures.value).lock

pub retire-requires-clause-free : goal.retire-requires-clause-free
retire-requires-clause-free g c =
    let names = g.C.CellNames.cell_turns in
    let ts = c.locks.inside.turns.items in
    let gates = vec_len c.locks.inside.gates in
    let n = c.self.inside.number in
    let seats = c.self.inside.seats.items in
    let s = c.args.service in
    (rests names ts gates n seats c.args.self.now c.locks.invariant c.self.invariant c.self.view_is s c.requires.service c.index-lock.result.now c.index_mut-seat.result.now c.index-lock.ensures c.index_mut-seat.ensures.value).free

pub retire-requires-clause-launcher : goal.retire-requires-clause-launcher
retire-requires-clause-launcher g c =
    let names = g.C.CellNames.cell_turns in
    let ts = c.locks.inside.turns.items in
    let gates = vec_len c.locks.inside.gates in
    let n = c.self.inside.number in
    let seats = c.self.inside.seats.items in
    let s = c.args.service in
    number_here names ts gates n seats c.args.self.now c.locks.invariant c.self.invariant c.self.view_is s c.requires.service c.index-lock.result.now c.index_mut-seat.result.now c.index-lock.ensures c.index_mut-seat.ensures.value ∙ c.requires.launcher

pub invariant_of-self : goal.invariant_of-self
invariant_of-self g c =
    let names = g.C.CellNames.cell_turns in
    let ts = c.locks.inside.turns.items in
    let gates = vec_len c.locks.inside.gates in
    let n = c.self.inside.number in
    let seats = c.self.inside.seats.items in
    let s = c.args.service in
    seats_still names ts gates n seats c.args.self.now c.locks.invariant c.self.invariant c.self.view_is s c.requires.service c.index-lock.result.now c.index_mut-seat.result.now c.index-lock.ensures c.index_mut-seat.ensures.value c.retire.new.seat c.retire.ensures.seat

pub returns-clause-retired : goal.returns-clause-retired
returns-clause-retired g c =
    let names = g.C.CellNames.cell_turns in
    let ts = c.locks.inside.turns.items in
    let gates = vec_len c.locks.inside.gates in
    let n = c.self.inside.number in
    let seats = c.self.inside.seats.items in
    let s = c.args.service in
    subst (λ (x : ℕ × List CellEvent × List CellEvent). HasRetired g.L.Link.wire g.N.Numbered.launcher x.0 x.1 c.retire.result.0 c.retire.result.1 x.2) (λ i. (label_here names ts gates n seats c.args.self.now c.locks.invariant c.self.invariant c.self.view_is s c.requires.service c.index-lock.result.now c.index_mut-seat.result.now c.index-lock.ensures c.index_mut-seat.ensures.value i, seen_here names ts gates n seats c.args.self.now c.locks.invariant c.self.invariant c.self.view_is s c.requires.service c.index-lock.result.now c.index_mut-seat.result.now c.index-lock.ensures c.index_mut-seat.ensures.value i, seen_then names ts gates n seats c.args.self.now c.locks.invariant c.self.invariant c.self.view_is s c.requires.service c.index-lock.result.now c.index_mut-seat.result.now c.index-lock.ensures c.index_mut-seat.ensures.value c.retire.new.seat c.retire.ensures.seat i)) c.retire.ensures.retired

pub returns-clause-empty : goal.returns-clause-empty
returns-clause-empty g c =
    let names = g.C.CellNames.cell_turns in
    let ts = c.locks.inside.turns.items in
    let gates = vec_len c.locks.inside.gates in
    let n = c.self.inside.number in
    let seats = c.self.inside.seats.items in
    let s = c.args.service in
    ap incarnation (sym (seen_then names ts gates n seats c.args.self.now c.locks.invariant c.self.invariant c.self.view_is s c.requires.service c.index-lock.result.now c.index_mut-seat.result.now c.index-lock.ensures c.index_mut-seat.ensures.value c.retire.new.seat c.retire.ensures.seat) ∙ c.retire.ensures.retired.seen_is) ∙ retired_none c.retire.ensures.retired.before.past

pub returns-clause-last : goal.returns-clause-last
returns-clause-last g c =
    let names = g.C.CellNames.cell_turns in
    let ts = c.locks.inside.turns.items in
    let gates = vec_len c.locks.inside.gates in
    let n = c.self.inside.number in
    let seats = c.self.inside.seats.items in
    let s = c.args.service in
    ap last_booted (sym (seen_then names ts gates n seats c.args.self.now c.locks.invariant c.self.invariant c.self.view_is s c.requires.service c.index-lock.result.now c.index_mut-seat.result.now c.index-lock.ensures c.index_mut-seat.ensures.value c.retire.new.seat c.retire.ensures.seat) ∙ c.retire.ensures.retired.seen_is) ∙ (retired_last c.retire.ensures.retired.before.past ∙ (last_grown g.N.Numbered.launcher (events_in c.index_mut-seat.result.now.seen) c.retire.ensures.retired.before.past c.retire.ensures.retired.found.grows ∙ ap last_booted (seen_here names ts gates n seats c.args.self.now c.locks.invariant c.self.invariant c.self.view_is s c.requires.service c.index-lock.result.now c.index_mut-seat.result.now c.index-lock.ensures c.index_mut-seat.ensures.value)))

pub returns-clause-taken : goal.returns-clause-taken
returns-clause-taken g c =
    let names = g.C.CellNames.cell_turns in
    let ts = c.locks.inside.turns.items in
    let gates = vec_len c.locks.inside.gates in
    let n = c.self.inside.number in
    let seats = c.self.inside.seats.items in
    let s = c.args.service in
    c.retire.ensures.taken ∙ link_here names ts gates n seats c.args.self.now c.locks.invariant c.self.invariant c.self.view_is s c.requires.service c.index-lock.result.now c.index_mut-seat.result.now c.index-lock.ensures c.index_mut-seat.ensures.value

pub returns-clause-link : goal.returns-clause-link
returns-clause-link g c =
    let names = g.C.CellNames.cell_turns in
    let ts = c.locks.inside.turns.items in
    let gates = vec_len c.locks.inside.gates in
    let n = c.self.inside.number in
    let seats = c.self.inside.seats.items in
    let s = c.args.service in
    sym (link_then names ts gates n seats c.args.self.now c.locks.invariant c.self.invariant c.self.view_is s c.requires.service c.index-lock.result.now c.index_mut-seat.result.now c.index-lock.ensures c.index_mut-seat.ensures.value c.retire.new.seat c.retire.ensures.seat) ∙ c.retire.ensures.link

pub returns-clause-law : goal.returns-clause-law
returns-clause-law g c =
    let names = g.C.CellNames.cell_turns in
    let ts = c.locks.inside.turns.items in
    let gates = vec_len c.locks.inside.gates in
    let n = c.self.inside.number in
    let seats = c.self.inside.seats.items in
    let s = c.args.service in
    subst CellLaw (seen_then names ts gates n seats c.args.self.now c.locks.invariant c.self.invariant c.self.view_is s c.requires.service c.index-lock.result.now c.index_mut-seat.result.now c.index-lock.ensures c.index_mut-seat.ensures.value c.retire.new.seat c.retire.ensures.seat) c.retire.ensures.law

pub returns-clause-holds : goal.returns-clause-holds
returns-clause-holds g c =
    let names = g.C.CellNames.cell_turns in
    let ts = c.locks.inside.turns.items in
    let gates = vec_len c.locks.inside.gates in
    let n = c.self.inside.number in
    let seats = c.self.inside.seats.items in
    let s = c.args.service in
    subst (λ (x : ℕ × List CellEvent). IfSome (option_map g.L.Link.wire c.retire.result.1) (IsLinkOf g.N.Numbered.site g.N.Numbered.run_seed x.0 x.1))
    (λ i. (label_here names ts gates n seats c.args.self.now c.locks.invariant c.self.invariant c.self.view_is s c.requires.service c.index-lock.result.now c.index_mut-seat.result.now c.index-lock.ensures c.index_mut-seat.ensures.value i, seen_then names ts gates n seats c.args.self.now c.locks.invariant c.self.invariant c.self.view_is s c.requires.service c.index-lock.result.now c.index_mut-seat.result.now c.index-lock.ensures c.index_mut-seat.ensures.value c.retire.new.seat c.retire.ensures.seat i))
    c.retire.ensures.holds

pub returns-clause-only : goal.returns-clause-only
returns-clause-only g c =
    let names = g.C.CellNames.cell_turns in
    let ts = c.locks.inside.turns.items in
    let gates = vec_len c.locks.inside.gates in
    let n = c.self.inside.number in
    let seats = c.self.inside.seats.items in
    let s = c.args.service in
    only_here names ts gates n seats c.args.self.now c.locks.invariant c.self.invariant c.self.view_is s c.requires.service c.index-lock.result.now c.index_mut-seat.result.now c.index-lock.ensures c.index_mut-seat.ensures.value c.retire.new.seat c.retire.ensures.seat
