use Rattle.std.proofs.Common.{rules, ◌≡◌, ◌≤◌, ◌+◌, ◌*◌, length, map, sym, ap, ◌∙◌, subst, arith}
use Rattle.std.specs.Prelude.{vec_len, vec_capacity}
use Rattle.std.proofs.lemmas.List.{length-map}
use Rattle.turn_lock.specs.BoardSeats.{SeatIs as Place}
use Rattle.okws_plan.specs.declared.configuration.Config.{Config}
use Rattle.site_locks.specs.Made.{AreFreshFrom}
use Rattle.site_locks.specs.Sat.{Sat}
use Rattle.site_worker.specs.declared.worker.TheConstants.{TURN_ITEMS}
use Rattle.site_run.specs.Rows.{ChairsAre}
use Rattle.site_run.specs.Whole.{AreNewFrom, IsReady}
use Rattle.site_run.specs.declared.room.Desk.{Desk}
use Rattle.site_run.proofs.Holding.{seats_pop, new_pop, ready}
use Rattle.site_run.proofs.Seating.{ok_of, push_length}
use Rattle.site_run.proofs.whole.Run.new.Goals as goal

pub hire-requires-clause-seats : goal.hire-requires-clause-seats
hire-requires-clause-seats g c =
    let C = g.N.Numbered.site in
    let left = c.pop.new.self.items in
    let own = c.in-Some.own in
    let e = c.in-Some.ensures.items in
    let q : g.N.Numbered.launcher ≡ length left + 0 = (let l = push_length left own in let m = ap length e in let many = c.requires.named.seats_many in omega arith) in
    (seats_pop (length C.proxies) 0 g.N.Numbered.launcher left own q (subst (AreFreshFrom (length C.proxies) 0) e c.requires.named.seats_fresh)).1

pub hire-requires-clause-cells : goal.hire-requires-clause-cells
hire-requires-clause-cells g c =
    let C = g.N.Numbered.site in
    let left = c.pop-2.new.self.items in
    let own = c.in-Some-pop.own_cells in
    let e = c.in-Some-pop.ensures.items in
    let q : g.N.Numbered.launcher ≡ length left + 0 = (let l = push_length left own in let m = ap length e in let many = c.requires.named.cells_many in omega arith) in
    (new_pop (length C.services) 0 g.N.Numbered.launcher left own q (subst (AreNewFrom (length C.services) 0) e c.requires.named.cells_new)).1

pub returns-in-Ok-clause-ready : goal.returns-in-Ok-clause-ready
returns-in-Ok-clause-ready g c =
    let C = g.N.Numbered.site in
    let n = g.N.Numbered.launcher in
    let h = c.in-Ok.field-0 in
    let made = c.in-Ok.ensures.ok in
    let doors = c.args.doors in
    let desks = c.args.office.desks in
    let entrance = g.D.Door.entrance in
    let place : Desk → Place = λ d. d.place in
    let l = c.requires.launcher in
    let dm = length-map desks.items place in
    let om = c.requires.office.many in
    let count : h.turn.count ≡ n = (let q = made.0 in search rules) in
    let many : length h.turns.items ≡ n = (let q = made.1 in search rules) in
    let roomy : n ≤ vec_capacity h.turns = (let q = made.2 in search rules) in
    let as_many : length doors.items ≡ vec_len doors = search rules in
    let seats_roomy : n + 1 ≤ vec_capacity c.pop.new.self = (let q = c.requires.named.seats_roomy in search rules) in
    let cells_roomy : n + 1 ≤ vec_capacity c.pop-2.new.self = (let q = c.requires.named.cells_roomy in search rules) in
    let doors_roomy : vec_len doors ≤ vec_capacity doors = search rules in
    let desks_roomy : vec_len doors ≤ vec_capacity desks = search rules in
    let spared = ok_of c.make_spare.result _ (sym c.is_err.ensures.value ∙ c.if-is_err.false) c.make_spare.ensures.ok in
    let places = ap (λ (x : Sat). x.spare) spared in
    let given : c.make_spare.new.self ≡ record c.index_mut.result.now { spare = c.make_spare.new.self.spare } = spared ∙ ap (λ k. record c.index_mut.result.now { spare = k }) (sym places) in
    let site = ap (λ (x : Config). length x.services) c.requires.papers.site_is in
    let declared = c.services-services.ensures in
    let enough : length C.services * TURN_ITEMS ≤ c.make_spare.new.self.spare = omega arith in
    subst (λ (x : ChairsAre). IsReady C n h.turn c.args.office.numbers c.args.named.cells x (record { entrances = map entrance doors.items; places = map place desks.items; doors_room = vec_capacity doors; desks_room = vec_capacity desks }))
    (sym c.of.ensures)
    (ready C n (vec_len doors) h.turn c.args.office.numbers c.args.named.cells c.args.named.seats.items c.pop.new.self.items c.index_mut.result.now c.make_spare.new.self c.in-Some.own c.args.named.at_cells.items c.pop-2.new.self.items c.in-Some-pop.own_cells h.turns.items
    (map entrance doors.items) (map place desks.items) c.args.office.last (vec_capacity c.args.named.seats) (vec_capacity c.pop.new.self) (vec_capacity c.args.named.at_cells) (vec_capacity c.pop-2.new.self) (vec_capacity h.turns) (vec_capacity doors) (vec_capacity desks)
    c.index_mut.ensures.value given enough c.requires.named c.in-Some.ensures.items c.in-Some-pop.ensures.items l seats_roomy cells_roomy count many roomy made.3 c.requires.doors.0 c.requires.doors.1 (length-map doors.items entrance ∙ as_many) c.requires.idle c.requires.office doors_roomy desks_roomy)

pub returns-in-Ok-clause-last : goal.returns-in-Ok-clause-last
returns-in-Ok-clause-last g c = c.requires.office.last_is
