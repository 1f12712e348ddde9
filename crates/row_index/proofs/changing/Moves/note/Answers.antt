use Rattle.std.proofs.Common.{ℕ, get_or, ap, ◌∙◌}
use Rattle.std.specs.Option.{option_copied}
use Rattle.std.proofs.lemmas.List.Folds.{list_any_more}
use Rattle.row_index.specs.Index.{cell}
use Rattle.row_index.specs.Changes.{arrives, departs}
use Rattle.row_index.specs.declared.slot.Slot.{Slot}
use Rattle.row_index.proofs.Bools.{noted}
use Rattle.row_index.proofs.changing.Moves.note.Goals as goal

pub loop-column-preserved : goal.loop-column-preserved
loop-column-preserved c =
    let d : ℕ = get_or c.args.columns.now c.loop-column.column-index 0 in
    record {
      coming = λ (q : Slot).
          noted _ _ _ _ _ _ _
          (list_any_more (λ (e : ℕ). arrives e c.args.place (cell e (option_copied c.args.rows.0)) (cell e (option_copied c.args.rows.1)) q) c.args.columns.now c.loop-column.column-index 0 c.loop-column-test.true)
          (ap (λ a. arrives d c.args.place a (option_copied c.cell_of-after.result) q) c.cell_of-before.ensures
          ∙ ap (λ b. arrives d c.args.place (cell d (option_copied c.args.rows.0)) b q) c.cell_of-after.ensures)
          (c.in_ok-note_cell.ensures.coming q)
          (c.loop-column.invariant.coming q);
      going = λ (q : Slot).
          noted _ _ _ _ _ _ _
          (list_any_more (λ (e : ℕ). departs e c.args.place (cell e (option_copied c.args.rows.0)) (cell e (option_copied c.args.rows.1)) q) c.args.columns.now c.loop-column.column-index 0 c.loop-column-test.true)
          (ap (λ a. departs d c.args.place a (option_copied c.cell_of-after.result) q) c.cell_of-before.ensures
          ∙ ap (λ b. departs d c.args.place (cell d (option_copied c.args.rows.0)) b q) c.cell_of-after.ensures)
          (c.in_ok-note_cell.ensures.going q)
          (c.loop-column.invariant.going q);
    }
