use Rattle.std.proofs.Common.{◌∙◌, ap, sym, get_or, take, ℕ, List, None, Some}
use Rattle.std.specs.Prelude.{◌&&◌, not}
use Rattle.std.proofs.lemmas.List.Folds.{list_any_more}
use Rattle.okws_base.specs.declared.value.Value.{Value}
use Rattle.okws_plan.specs.Meaning.{at_column}
use Rattle.row_index.specs.Slots.{holds}
use Rattle.row_index.specs.Index.{is_value}
use Rattle.row_index.specs.Changes.{arrives, comes, comes_at, stands}
use Rattle.row_index.specs.declared.slot.Slot.{Slot}
use Rattle.row_index.proofs.Bools.{taken_more, and_second}
use Rattle.row_index.proofs.cells.take_cells.Goals as goal

pub take_other-requires : goal.take_other-requires
take_other-requires c = record {
  gone = λ (q : Slot) h.
      c.loop-column.invariant.slots q
      ∙ and_second (not (comes (take c.loop-column.column-index c.args.columns.now) c.args.place None (Some c.args.values.now) q)) (holds c.args.slots.now q)
      (c.requires.gone q (sym (ap (λ (values : List Value). comes_at c.args.key c.args.place values q) c.loop-column.invariant.values) ∙ h));
}

pub loop-column-preserved : goal.loop-column-preserved
loop-column-preserved c =
    let d : ℕ = get_or c.args.columns.now c.loop-column.column-index 0 in
    record {
      values = c.take_other.ensures.values ∙ c.loop-column.invariant.values;
      slots = λ (q : Slot).
          taken_more _ _ _ _ _ _
          (list_any_more (λ (e : ℕ). arrives e c.args.place None (Some (at_column c.args.values.now e)) q) c.args.columns.now c.loop-column.column-index 0 c.loop-column-test.true)
          (c.take_other.ensures.slots q
          ∙ ap (λ (values : List Value). not (stands d c.args.place q && is_value q.group.value (Some (at_column values d))) && holds c.loop-column.slots q) c.loop-column.invariant.values)
          (c.loop-column.invariant.slots q);
    }
