use Rattle.std.proofs.Common.{rules, ◌≡◌, ℕ, ◌<◌, List, length, sym, ◌∙◌, subst}
use Rattle.std.specs.Prelude.{vec_len}
use Rattle.okws_outer.specs.Families.{IsNewLink}
use Rattle.monitor_model.specs.declared.record.CellEvent.{CellEvent}
use Rattle.frame_codec.specs.declared.frame.ServerFrame.TheVariants as frame
use Rattle.monitor_model.specs.Cell.{boot_frame}
use Rattle.site_cells.specs.Turns.{HasLaunched}
use Rattle.site_cells.proofs.Places.{within, rests, label_here, number_here, seen_here, seats_still, seen_then, link_then, only_here}
use Rattle.site_cells.proofs.seats.CellSeats.boot.Goals as goal

pub index-lock-requires : goal.index-lock-requires
index-lock-requires g c =
    let names = g.C.CellNames.cell_turns in
    let ts = c.locks.inside.turns.items in
    let gates = vec_len c.locks.inside.gates in
    let n = c.self.inside.number in
    let seats = c.self.inside.seats.items in
    let s = c.args.service in
    let l : s < length ts = (within names ts gates n seats c.args.self.now c.locks.invariant c.self.invariant c.self.view_is s c.requires.service).1 in
    search rules

pub boot-requires-clause-lock : goal.boot-requires-clause-lock
boot-requires-clause-lock g c =
    let names = g.C.CellNames.cell_turns in
    let ts = c.locks.inside.turns.items in
    let gates = vec_len c.locks.inside.gates in
    let n = c.self.inside.number in
    let seats = c.self.inside.seats.items in
    let s = c.args.service in
    (rests names ts gates n seats c.args.self.now c.locks.invariant c.self.invariant c.self.view_is s c.requires.service c.index-lock.result.now c.index_mut-seat.result.now c.index-lock.ensures c.index_mut-seat.ensures.value).lock

pub boot-requires-clause-free : goal.boot-requires-clause-free
boot-requires-clause-free g c =
    let names = g.C.CellNames.cell_turns in
    let ts = c.locks.inside.turns.items in
    let gates = vec_len c.locks.inside.gates in
    let n = c.self.inside.number in
    let seats = c.self.inside.seats.items in
    let s = c.args.service in
    (rests names ts gates n seats c.args.self.now c.locks.invariant c.self.invariant c.self.view_is s c.requires.service c.index-lock.result.now c.index_mut-seat.result.now c.index-lock.ensures c.index_mut-seat.ensures.value).free

pub boot-requires-clause-launcher : goal.boot-requires-clause-launcher
boot-requires-clause-launcher g c =
    let names = g.C.CellNames.cell_turns in
    let ts = c.locks.inside.turns.items in
    let gates = vec_len c.locks.inside.gates in
    let n = c.self.inside.number in
    let seats = c.self.inside.seats.items in
    let s = c.args.service in
    number_here names ts gates n seats c.args.self.now c.locks.invariant c.self.invariant c.self.view_is s c.requires.service c.index-lock.result.now c.index_mut-seat.result.now c.index-lock.ensures c.index_mut-seat.ensures.value ∙ c.requires.launcher

pub boot-requires-clause-tokens : goal.boot-requires-clause-tokens
boot-requires-clause-tokens g c =
    let names = g.C.CellNames.cell_turns in
    let ts = c.locks.inside.turns.items in
    let gates = vec_len c.locks.inside.gates in
    let n = c.self.inside.number in
    let seats = c.self.inside.seats.items in
    let s = c.args.service in
    subst (λ (x : ℕ). frame.Boot x c.args.number c.args.tokens ≡ boot_frame g.N.Numbered.site g.N.Numbered.run_seed x c.args.number) (sym (label_here names ts gates n seats c.args.self.now c.locks.invariant c.self.invariant c.self.view_is s c.requires.service c.index-lock.result.now c.index_mut-seat.result.now c.index-lock.ensures c.index_mut-seat.ensures.value)) c.requires.tokens

pub boot-requires-clause-link : goal.boot-requires-clause-link
boot-requires-clause-link g c =
    let names = g.C.CellNames.cell_turns in
    let ts = c.locks.inside.turns.items in
    let gates = vec_len c.locks.inside.gates in
    let n = c.self.inside.number in
    let seats = c.self.inside.seats.items in
    let s = c.args.service in
    subst (λ (x : ℕ). IsNewLink x c.args.number (g.L.Link.wire c.args.link)) (sym (label_here names ts gates n seats c.args.self.now c.locks.invariant c.self.invariant c.self.view_is s c.requires.service c.index-lock.result.now c.index_mut-seat.result.now c.index-lock.ensures c.index_mut-seat.ensures.value)) c.requires.link

pub invariant_of-self : goal.invariant_of-self
invariant_of-self g c =
    let names = g.C.CellNames.cell_turns in
    let ts = c.locks.inside.turns.items in
    let gates = vec_len c.locks.inside.gates in
    let n = c.self.inside.number in
    let seats = c.self.inside.seats.items in
    let s = c.args.service in
    seats_still names ts gates n seats c.args.self.now c.locks.invariant c.self.invariant c.self.view_is s c.requires.service c.index-lock.result.now c.index_mut-seat.result.now c.index-lock.ensures c.index_mut-seat.ensures.value c.boot.new.seat c.boot.ensures.seat

pub returns-clause-launched : goal.returns-clause-launched
returns-clause-launched g c =
    let names = g.C.CellNames.cell_turns in
    let ts = c.locks.inside.turns.items in
    let gates = vec_len c.locks.inside.gates in
    let n = c.self.inside.number in
    let seats = c.self.inside.seats.items in
    let s = c.args.service in
    subst (λ (x : ℕ × List CellEvent × List CellEvent). HasLaunched g.L.Link.wire g.N.Numbered.launcher c.args.link (frame.Boot x.0 c.args.number c.args.tokens) c.args.number x.0 x.1 c.boot.result x.2) (λ i. (label_here names ts gates n seats c.args.self.now c.locks.invariant c.self.invariant c.self.view_is s c.requires.service c.index-lock.result.now c.index_mut-seat.result.now c.index-lock.ensures c.index_mut-seat.ensures.value i, seen_here names ts gates n seats c.args.self.now c.locks.invariant c.self.invariant c.self.view_is s c.requires.service c.index-lock.result.now c.index_mut-seat.result.now c.index-lock.ensures c.index_mut-seat.ensures.value i, seen_then names ts gates n seats c.args.self.now c.locks.invariant c.self.invariant c.self.view_is s c.requires.service c.index-lock.result.now c.index_mut-seat.result.now c.index-lock.ensures c.index_mut-seat.ensures.value c.boot.new.seat c.boot.ensures.seat i)) c.boot.ensures.launched

pub returns-clause-link : goal.returns-clause-link
returns-clause-link g c =
    let names = g.C.CellNames.cell_turns in
    let ts = c.locks.inside.turns.items in
    let gates = vec_len c.locks.inside.gates in
    let n = c.self.inside.number in
    let seats = c.self.inside.seats.items in
    let s = c.args.service in
    sym (link_then names ts gates n seats c.args.self.now c.locks.invariant c.self.invariant c.self.view_is s c.requires.service c.index-lock.result.now c.index_mut-seat.result.now c.index-lock.ensures c.index_mut-seat.ensures.value c.boot.new.seat c.boot.ensures.seat) ∙ c.boot.ensures.link

pub returns-clause-only : goal.returns-clause-only
returns-clause-only g c =
    let names = g.C.CellNames.cell_turns in
    let ts = c.locks.inside.turns.items in
    let gates = vec_len c.locks.inside.gates in
    let n = c.self.inside.number in
    let seats = c.self.inside.seats.items in
    let s = c.args.service in
    only_here names ts gates n seats c.args.self.now c.locks.invariant c.self.invariant c.self.view_is s c.requires.service c.index-lock.result.now c.index_mut-seat.result.now c.index-lock.ensures c.index_mut-seat.ensures.value c.boot.new.seat c.boot.ensures.seat
