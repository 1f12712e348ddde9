use Rattle.std.proofs.Common.{◌≡◌, ◌∙◌, List, [], sym, ap, subst}
use Rattle.monitor_model.specs.declared.record.CellEvent.{CellEvent}
use Rattle.turn_lock.specs.Seats.{SeatIs}
use Rattle.site_cells.specs.Notes.{CellNoteIs}
use Rattle.launch_turns.specs.Resting.{RestingIs}
use Rattle.launch_turns.specs.Standing.{BootsStand}
use Rattle.launch_turns.specs.declared.deed.Deed.{Deed}
use Rattle.launch_turns.proofs.Standing.{boots_stand}
use Rattle.launch_turns.proofs.notes.cell_by.Goals as goal

pub give-requires-clause-adds : goal.give-requires-clause-adds
give-requires-clause-adds g c = ([], tt, ap (λ (r : RestingIs). r.deeds) c.new.ensures ∙ (c.into_parts-launcher.ensures.deeds ∙ sym (ap (λ (a : SeatIs Deed). a.seen) c.take-resting.ensures.seat)))

pub returns-clause-stand : goal.returns-clause-stand
returns-clause-stand g c =
    let l = c.into_parts-launcher.result.0 in
    let deeds = c.into_parts-launcher.result.1.past in
    let rests = c.into_parts-launcher.ensures.rests in
    let seen : c.give.new.seat.seen ≡ deeds = ap (λ (a : SeatIs Deed). a.seen) c.give.ensures.seat ∙ ap (λ (r : RestingIs). r.deeds) c.new.ensures in
    subst (λ (ds : List Deed). BootsStand c.args.service ds c.note_cell-note.result.seen) (sym seen)
    (subst (λ (J : List CellEvent). BootsStand c.args.service deeds J) (sym (ap (λ (n : CellNoteIs). n.seen) c.note_cell-note.ensures.note))
    (boots_stand g.N.Numbered.site g.N.Numbered.run_seed g.N.Numbered.launcher deeds l.journal.past l.crew.sat l.crew.watch l.crew.own rests.entries_are rests.closed.whole c.note_cell-note.ensures.own c.args.service))
