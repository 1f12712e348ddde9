use Rattle.std.proofs.Common.{rules, arith, ◌≡◌, ◌∙◌, ◌<◌, ◌≤◌, length, refl, subst}
use Rattle.site_cells.specs.Notes.{CellNoteIs}
use Rattle.site_run.specs.Meeting.{MeetsCell}
use Rattle.site_run.proofs.Taken.{all_go, next_go, none_go}
use Rattle.site_run.proofs.meeting.meet_cell.Goals as goal

pub loop-number-init : goal.loop-number-init
loop-number-init g c = record { first = none_go (MeetsCell g.N.Numbered.launcher c.args.note.service c.args.note.seen) c.args.rows.now.items; note = refl; room = refl }

pub loop-number-preserved : goal.loop-number-preserved
loop-number-preserved g c =
    let n = g.N.Numbered.launcher in
    let inv = c.loop-number.invariant in
    let m = c.args.note in
    let a = c.index_mut.result.now in
    let b = c.meet.new.self in
    let l : c.loop-number.number < length c.args.rows.now.items = search (rules, arith) in
    let one : MeetsCell n m.service m.seen a b
    = subst (λ (x : CellNoteIs). MeetsCell n x.service x.seen a b) (c.again-again.ensures.again ∙ inv.note) (record { only = c.meet.ensures.only; grows = c.meet.ensures.grows; met = c.meet.ensures.met }) in
    record {
      first = next_go (MeetsCell n m.service m.seen) c.args.rows.now.items c.loop-number.rows.items c.loop-number.number a b inv.first l c.index_mut.ensures.value one;
      note = c.again-again.ensures.same ∙ inv.note;
      room = inv.room;
    }

pub returns-clause-met : goal.returns-clause-met
returns-clause-met g c =
    let l : length c.args.rows.now.items ≤ c.loop-number.number = search (rules, arith) in
    all_go (MeetsCell g.N.Numbered.launcher c.args.note.service c.args.note.seen) c.args.rows.now.items c.loop-number.rows.items c.loop-number.number l c.loop-number.invariant.first
