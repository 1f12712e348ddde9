use Rattle.std.proofs.Common.{◌≤◌, ℕ, ◌∙◌, length, sym, ap, subst}
use Rattle.atomic_table.specs.Seated.{TableId}
use Rattle.turn_lock.specs.BoardSeats.{AllAt, BoardIs, IsFresh}
use Rattle.turn_lock.specs.Seats.{TurnIs}
use Rattle.site_run.specs.Places.{Placed}
use Rattle.site_run.specs.Rows.{Seated}
use Rattle.okws_serve.specs.Manned.{WorkDone}
use Rattle.okws_serve.specs.declared.outfit.TheConstants.{MOST_BEGUN}
use Rattle.okws_serve.proofs.Surviving.{held_again, ready_spacious}
use Rattle.okws_serve.proofs.scene.work_in.Goals as goal

pub run-requires-clause-few : goal.run-requires-clause-few
run-requires-clause-few g c = λ κs within. (c.requires.servable.services, c.requires.servable.templates)

pub run-requires-clause-most : goal.run-requires-clause-most
run-requires-clause-most g c = λ κs within. subst (λ (m : ℕ). m ≤ MOST_BEGUN) (sym c.ground-common.ensures.setting.1) c.requires.most

pub run-requires-clause-seated : goal.run-requires-clause-seated
run-requires-clause-seated g c = λ κs within.
    subst (λ (t : TurnIs). Seated t (length g.N.Numbered.site.services) c.args.chairs.now) (sym c.ground-common.ensures.locks.0) c.requires.ready.held.seated

pub run-requires-clause-unused : goal.run-requires-clause-unused
run-requires-clause-unused g c = λ κs within. c.requires.ready.unused

pub run-requires-clause-unopened : goal.run-requires-clause-unopened
run-requires-clause-unopened g c = λ κs within. c.requires.ready.unopened

pub run-requires-clause-retry : goal.run-requires-clause-retry
run-requires-clause-retry g c = λ κs within. c.requires.servable.retry

pub run-requires-clause-spare : goal.run-requires-clause-spare
run-requires-clause-spare g c = λ κs within. c.requires.ready.spare

pub run-requires-clause-placed : goal.run-requires-clause-placed
run-requires-clause-placed g c = λ κs within. subst (λ (b : BoardIs). Placed b.id c.args.places.now) (sym c.ground-common.ensures.locks.1) c.requires.ready.placed

pub run-requires-clause-alike : goal.run-requires-clause-alike
run-requires-clause-alike g c = λ κs within. c.requires.ready.held.seats_many ∙ sym c.requires.ready.held.doors_many

pub run-requires-clause-some : goal.run-requires-clause-some
run-requires-clause-some g c = λ κs within. c.requires.ready.held.some

pub run-requires-clause-room : goal.run-requires-clause-room
run-requires-clause-room g c = λ κs within.
    let h = c.args.scene.now.hall in
    (ready_spacious g.N.Numbered.site g.N.Numbered.launcher h.turn h.numbers h.cells c.args.chairs.now c.args.places.now c.requires.ready, c.requires.ready.roomy)

pub returns-clause-held : goal.returns-clause-held
returns-clause-held g c =
    let h = c.args.scene.now.hall in
    let p = c.run.ensures.places in
    held_again g.N.Numbered.site g.N.Numbered.launcher h.turn h.numbers h.cells c.args.chairs.now c.run.new.chairs c.args.places.now c.run.new.places c.requires.ready
    (subst (λ (t : TurnIs). Seated t (length g.N.Numbered.site.services) c.run.new.chairs) c.ground-common.ensures.locks.0 c.run.ensures.seated)
    c.run.ensures.many c.run.ensures.room (p.0, p.1, subst (λ (b : BoardIs). AllAt b.id c.run.new.places.places) c.ground-common.ensures.locks.1 p.2)

pub returns-clause-idle : goal.returns-clause-idle
returns-clause-idle g c = c.run.ensures.idle

pub returns-clause-done : goal.returns-clause-done
returns-clause-done g c =
    let r = c.run.result in
    let w = g.O.Conn.wire c.args.console.console in
    let x = g.O.Conn.wire r.0 in
    let Done = λ (z : TableId) (m : ℕ). WorkDone g.D.Conn.Conn.wire g.N.Numbered.site g.N.Numbered.launcher z m c.run.new.chairs r.3 c.args.places.now c.run.new.places w x r.1.connections r.1.starved r.4 r.2 in
    subst (λ (b : BoardIs). Done b.id c.args.most) c.ground-common.ensures.locks.1
    (subst (λ (m : ℕ). Done c.ground-common.result.numbers.now.id m) c.ground-common.ensures.setting.1 c.run.ensures.done)

pub run-requires-clause-last : goal.run-requires-clause-last
run-requires-clause-last g c = λ κs within. subst (λ (b : BoardIs). IsFresh b.id (length c.args.places.now.entrances) c.args.console.place) (sym c.ground-common.ensures.locks.1) c.requires.last

pub run-requires-clause-count : goal.run-requires-clause-count
run-requires-clause-count g c = λ κs within.
    ap (λ (b : BoardIs). b.count) c.ground-common.ensures.locks.1 ∙ (c.requires.ready.held.numbers_count ∙ sym c.requires.ready.held.doors_many)

pub returns-clause-last : goal.returns-clause-last
returns-clause-last g c = c.run.ensures.last ∙ ap (λ (b : BoardIs). b.id) c.ground-common.ensures.locks.1
