use Rattle.std.proofs.Common.{rules, ◌≡◌, List, map, reverse, length, sym, ap, ◌∙◌, subst}
use Rattle.std.proofs.lemmas.List.{length-reverse}
use Rattle.monitor_model.specs.declared.record.CellEvent.{CellEvent}
use Rattle.site_cells.specs.Held.{Held, by_event, events_in}
use Rattle.turn_lock.specs.Seats.{SeatIs}
use Rattle.turn_lock.specs.Rows.{RowHas, GrownRow, NoneFrom}
use Rattle.turn_lock.proofs.Dealt.{map-reverse}
use Rattle.site_cells.specs.Row.{AreCells, Rise}
use Rattle.site_cells.specs.Closing.{cell_seat}
use Rattle.site_cells.proofs.Joins.{as_many}
use Rattle.site_cells.proofs.Seated.{grown_seats, has_seats, none_seats}
use Rattle.site_cells.proofs.closing.end_cells.Goals as goal

abbrev past_of : Held → List CellEvent
past_of h = h.standing.past

abbrev entered_of : Held → List CellEvent
entered_of h = h.entered

pub end_row-requires-clause-all : goal.end_row-requires-clause-all
end_row-requires-clause-all g c = λ k l. has_seats k c.ends.inside.seats.items (subst (RowHas k) (sym c.ends.view_is) (c.requires.all k l))

abbrev AreKept : List Held → Type 0
AreKept done = map past_of done ≡ map events_in (map entered_of done)

-- the events of the cells, in their order
past_is : (done all : List Held) → all ≡ reverse done → AreKept done → map past_of all ≡ map events_in (reverse (map entered_of done))
past_is done all turned kept =
    ap (map past_of) turned ∙ (map-reverse past_of done ∙ (ap reverse kept ∙ sym (map-reverse events_in (map entered_of done))))

pub returns-clause-told : goal.returns-clause-told
returns-clause-told g c =
    let done = c.end_row.new.done.items in
    let by = by_event g.N.Numbered.launcher in
    let seats = c.ends.inside.seats.items in
    let e = past_is done c.turned.result.items c.turned.ensures (subst AreKept c.deref.ensures.value c.keep_all.ensures) in
    subst (λ (x : List (SeatIs CellEvent)). GrownRow by x (map past_of c.turned.result.items)) c.ends.view_is
    (subst (λ Js. GrownRow by (map cell_seat seats) Js) (sym e) (grown_seats by seats (reverse (map entered_of done)) c.end_row.ensures.told))

pub returns-clause-none : goal.returns-clause-none
returns-clause-none g c =
    let done = c.end_row.new.done.items in
    let by = by_event g.N.Numbered.launcher in
    let e = past_is done c.turned.result.items c.turned.ensures (subst AreKept c.deref.ensures.value c.keep_all.ensures) in
    subst (λ Js. NoneFrom by c.args.count Js) (sym e) (none_seats by c.args.count (reverse (map entered_of done)) c.end_row.ensures.none)

pub returns-clause-services : goal.returns-clause-services
returns-clause-services g c =
    let done = c.end_row.new.done.items in
    subst (Rise 0) (sym (ap (map (λ (h : Held). h.standing.service)) c.turned.ensures ∙ (map-reverse (λ (h : Held). h.standing.service) done ∙ c.end_row.ensures.labels))) (subst AreCells (sym c.into_turns.ensures.same) c.into_turns.ensures.cells)

pub returns-clause-count : goal.returns-clause-count
returns-clause-count g c =
    let done = c.end_row.new.done.items in
    let n : length done ≡ length c.into_turns.result.items = as_many (λ (h : Held). h.standing.service) (λ t. t.label) done c.into_turns.result.items c.end_row.ensures.labels in
    let size : length c.turned.result.items ≡ length c.args.locks = ap length c.turned.ensures ∙ (length-reverse done ∙ (n ∙ ap length c.into_turns.ensures.same)) in
    search rules
