use Rattle.std.proofs.Common.{rules, arith, ◌≡◌, ◌∙◌, ◌<◌, List, [], length, set, sym, ap, subst}
use Rattle.std.proofs.lemmas.List.{length-set}
use Rattle.std.specs.Prelude.{vec_capacity}
use Rattle.okws_base.specs.declared.journal.Entry.{Entry}
use Rattle.okws_plan.specs.declared.event.OkdEvent.{OkdEvent}
use Rattle.site_locks.specs.Sat.{Sat}
use Rattle.launch_turns.specs.Standing.{UpsStand}
use Rattle.site_run.specs.Meeting.{AllBooted, IsShown, MeetsOkd}
use Rattle.site_run.specs.Opening.{IsOpened, items_first, seen_first}
use Rattle.site_run.specs.Rows.{ChairsAre, Seated}
use Rattle.site_run.specs.Tied.{Unused}
use Rattle.site_run.proofs.Seating.{first_rests, first_seen}
use Rattle.site_run.proofs.Telling.{more_length}
use Rattle.site_run.proofs.Taken.{go_length}
use Rattle.site_run.proofs.Told.{all_alone, all_opened, quiet_of, seated_told, turns_of, unused_told}
use Rattle.site_run.proofs.Tying.{unused_launched}
use Rattle.site_run.proofs.Waiting.{all_seated, all_shown, all_wait, same_items}
use Rattle.site_run.proofs.launching.launch_all.Goals as goal

pub launch_first-note-requires-clause-rest : goal.launch_first-note-requires-clause-rest
launch_first-note-requires-clause-rest g c =
    let t = c.args.ground.now.turn.now in
    let m = length g.N.Numbered.site.services in
    first_rests t m 0 c.chairs.inside.seats.items c.chairs.inside.cells.items c.chairs.inside.turns.items c.index_mut-2.result.now
    (subst (λ (x : ChairsAre). 0 < length x.turns) (sym c.chairs.view_is) c.requires.some.1) c.index_mut-2.ensures.value (subst (λ (x : ChairsAre). Seated t m x) (sym c.chairs.view_is) c.requires.seated)

pub tell_all-requires : goal.tell_all-requires
tell_all-requires g c =
    let t = c.args.ground.now.turn.now in
    let m = length g.N.Numbered.site.services in
    let turns = turns_of t m 0 (set c.chairs.inside.seats.items 0 c.launch_first-note.new.seats) c.chairs.inside.cells.items (set c.chairs.inside.turns.items 0 c.launch_first-note.new.seat)
    (first_seen t m 0 c.chairs.inside.seats.items c.index_mut.result.now c.launch_first-note.new.seats c.chairs.inside.cells.items c.chairs.inside.turns.items c.index_mut-2.result.now c.launch_first-note.new.seat
    (subst (λ (x : ChairsAre). 0 < length x.turns) (sym c.chairs.view_is) c.requires.some.1) c.index_mut.ensures.value (ap (λ (x : Sat). x.number) c.launch_first-note.ensures.seats)
    c.index_mut-2.ensures.value c.launch_first-note.ensures.seat (subst (λ (x : ChairsAre). Seated t m x) (sym c.chairs.view_is) c.requires.seated)) in
    record { turns = turns }

pub returns-clause-many : goal.returns-clause-many
returns-clause-many g c =
    let x = c.chairs.inside in
    let as' = set x.turns.items 0 c.launch_first-note.new.seat in (
      go_length (MeetsOkd c.launch_first-note.result) (set x.seats.items 0 c.launch_first-note.new.seats) c.meet_okd.new.rows.items c.meet_okd.ensures.met
          ∙ (length-set x.seats.items 0 c.launch_first-note.new.seats ∙ ap (λ (y : ChairsAre). length y.seats) c.chairs.view_is),
      more_length as' c.tell_all.new.turns.items c.tell_all.ensures.more ∙ (length-set x.turns.items 0 c.launch_first-note.new.seat ∙ ap (λ (y : ChairsAre). length y.turns) c.chairs.view_is),
    )

pub returns-clause-seated : goal.returns-clause-seated
returns-clause-seated g c =
    let t = c.args.ground.now.turn.now in
    let m = length g.N.Numbered.site.services in
    let ss = set c.chairs.inside.seats.items 0 c.launch_first-note.new.seats in
    let as' = set c.chairs.inside.turns.items 0 c.launch_first-note.new.seat in
    all_seated g.N.Numbered.site g.N.Numbered.launcher c.launch_first-note.result t m 0 ss c.meet_okd.new.rows.items c.chairs.inside.cells.items c.launch_first-note.new.cells.items c.tell_all.new.turns.items c.meet_okd.ensures.met c.launch_first-note.ensures.met
    (seated_told t m 0 ss c.chairs.inside.cells.items as' c.tell_all.new.turns.items c.tell_all.ensures.more
    (first_seen t m 0 c.chairs.inside.seats.items c.index_mut.result.now c.launch_first-note.new.seats c.chairs.inside.cells.items c.chairs.inside.turns.items c.index_mut-2.result.now c.launch_first-note.new.seat
    (subst (λ (x : ChairsAre). 0 < length x.turns) (sym c.chairs.view_is) c.requires.some.1) c.index_mut.ensures.value (ap (λ (x : Sat). x.number) c.launch_first-note.ensures.seats)
    c.index_mut-2.ensures.value c.launch_first-note.ensures.seat (subst (λ (x : ChairsAre). Seated t m x) (sym c.chairs.view_is) c.requires.seated)))

pub returns-clause-waiting : goal.returns-clause-waiting
returns-clause-waiting g c = λ unused.
    let C = g.N.Numbered.site in
    let ss = set c.chairs.inside.seats.items 0 c.launch_first-note.new.seats in
    let as' = set c.chairs.inside.turns.items 0 c.launch_first-note.new.seat in
    all_wait C g.N.Numbered.launcher c.launch_first-note.result 0 ss c.meet_okd.new.rows.items c.chairs.inside.cells.items c.launch_first-note.new.cells.items c.tell_all.new.turns.items c.meet_okd.ensures.met c.launch_first-note.ensures.met
    (unused_told C 0 ss c.chairs.inside.cells.items as' c.tell_all.new.turns.items c.tell_all.ensures.more
    (unused_launched C c.chairs.inside.seats.items c.index_mut.result.now c.launch_first-note.new.seats c.chairs.inside.cells.items c.chairs.inside.turns.items c.index_mut-2.result.now c.launch_first-note.new.seat
    c.index_mut.ensures.value c.index_mut-2.ensures.value c.launch_first-note.ensures.seats c.launch_first-note.ensures.seat c.launch_first-note.ensures.launches
    (subst (λ (x : ChairsAre). Unused C x) (sym c.chairs.view_is) unused)))

pub returns-clause-opened : goal.returns-clause-opened
returns-clause-opened g c = λ unused unopened above.
    let C = g.N.Numbered.site in
    let x = c.chairs.inside in
    let is = c.chairs.view_is in
    let ss = set x.seats.items 0 c.launch_first-note.new.seats in
    let as' = set x.turns.items 0 c.launch_first-note.new.seat in
    let long : length x.turns.items ≡ c.chairs.inside.turns.len = search rules in
    let size = length-set x.turns.items 0 c.launch_first-note.new.seat in
    let before = subst (λ (y : ChairsAre). Unused C y) (sym is) unused in
    let launched = unused_launched C x.seats.items c.index_mut.result.now c.launch_first-note.new.seats x.cells.items x.turns.items c.index_mut-2.result.now c.launch_first-note.new.seat
    c.index_mut.ensures.value c.index_mut-2.ensures.value c.launch_first-note.ensures.seats c.launch_first-note.ensures.seat c.launch_first-note.ensures.launches before in
    subst (λ items. IsOpened C items (seen_first c.tell_all.new.turns.items)) (sym (same_items C g.N.Numbered.launcher c.launch_first-note.result ss c.meet_okd.new.rows.items c.meet_okd.ensures.met))
    (all_opened C x.seats.items c.index_mut.result.now c.launch_first-note.new.seats x.cells.items x.turns.items c.index_mut-2.result.now c.launch_first-note.new.seat c.tell_all.new.turns.items
    (subst (λ (y : ChairsAre). 0 < length y.seats) (sym is) c.requires.some.0) (subst (λ (y : ChairsAre). 0 < length y.turns) (sym is) c.requires.some.1) c.index_mut.ensures.value c.index_mut-2.ensures.value
    c.launch_first-note.ensures.opens before
    (subst (λ (y : ChairsAre). items_first y.seats ≡ []) (sym is) unopened.items_are) (subst (λ (y : ChairsAre). seen_first y.turns ≡ []) (sym is) unopened.seen_is)
    c.tell_all.ensures.more c.tell_all.ensures.first (λ k o l. c.tell_all.ensures.told (quiet_of C 0 ss x.cells.items as' launched) k o (omega (arith, l, long, size))) above)

pub returns-clause-shown : goal.returns-clause-shown
returns-clause-shown g c = λ unused above.
    let C = g.N.Numbered.site in
    let n = g.N.Numbered.launcher in
    let x = c.chairs.inside in
    let is = c.chairs.view_is in
    let first = c.launch_first-note in
    let J = first.result in
    let ss = set x.seats.items 0 first.new.seats in
    let as' = set x.turns.items 0 first.new.seat in
    let bs = c.tell_all.new.turns.items in
    let ts = c.meet_okd.new.rows.items in
    let ds = first.new.cells.items in
    let long : length x.turns.items ≡ c.chairs.inside.turns.len = search rules in
    let size = length-set x.turns.items 0 first.new.seat in
    let before = subst (λ (y : ChairsAre). Unused C y) (sym is) unused in
    let launched = unused_launched C x.seats.items c.index_mut.result.now first.new.seats x.cells.items x.turns.items c.index_mut-2.result.now first.new.seat
    c.index_mut.ensures.value c.index_mut-2.ensures.value first.ensures.seats first.ensures.seat first.ensures.launches before in
    let alone = all_alone C x.seats.items x.cells.items x.turns.items c.index_mut-2.result.now first.new.seat bs (subst (λ (y : ChairsAre). 0 < length y.turns) (sym is) c.requires.some.1) c.index_mut-2.ensures.value before
    c.tell_all.ensures.more c.tell_all.ensures.first (λ k o l. c.tell_all.ensures.told (quiet_of C 0 ss x.cells.items as' launched) k o (omega (arith, l, long, size))) above in
    let waiting = all_wait C n J 0 ss ts x.cells.items ds bs c.meet_okd.ensures.met first.ensures.met (unused_told C 0 ss x.cells.items as' bs c.tell_all.ensures.more launched) in
    let now : ChairsAre = record { seats = ts; cells = ds; turns = bs; seats_room = vec_capacity c.meet_okd.new.rows; cells_room = vec_capacity first.new.cells; turns_room = vec_capacity c.tell_all.new.turns } in
    subst (λ (entries : List (Entry OkdEvent)). IsShown C n now entries) (sym c.meet_okd.ensures.note)
    (all_shown C n J ss now c.meet_okd.ensures.met waiting (subst (λ deeds. UpsStand deeds J) (sym alone.0) first.ensures.stand) (λ s l. subst (λ deeds. AllBooted s deeds ds) (sym alone.0) (first.ensures.booted alone.1 s l)))
