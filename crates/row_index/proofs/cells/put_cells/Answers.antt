use Rattle.std.proofs.Common.{◌∙◌, ap, sym, get_or, take, ℕ, List, None, Some}
use Rattle.std.specs.Prelude.{◌||◌, ◌&&◌, not}
use Rattle.std.proofs.lemmas.List.Folds.{list_any_more}
use Rattle.okws_base.specs.declared.value.Value.{Value}
use Rattle.okws_plan.specs.Meaning.{at_column}
use Rattle.row_index.specs.Slots.{holds}
use Rattle.row_index.specs.Index.{is_value}
use Rattle.row_index.specs.Changes.{arrives, comes, comes_at, stands}
use Rattle.row_index.specs.declared.slot.Slot.{Slot}
use Rattle.row_index.proofs.Bools.{put_more, taken_back, or_second}
use Rattle.row_index.proofs.Runs.{any_in_front}
use Rattle.row_index.proofs.cells.put_cells.Goals as goal

pub put_other-requires : goal.put_other-requires
put_other-requires c = record {
  there = λ (q : Slot) h.
      c.loop-i.invariant.slots q
      ∙ or_second (comes (take c.loop-i.i c.args.columns.now) c.args.place None (Some c.args.values.now) q) (holds c.args.slots.now q)
      (c.requires.there q (sym (ap (λ (values : List Value). comes_at c.args.key c.args.place values q) c.loop-i.invariant.values) ∙ h));
}

pub returns-in-Err-clause-values : goal.returns-in-Err-clause-values
returns-in-Err-clause-values c = c.take_cells.ensures.values ∙ c.put_other.ensures.values ∙ c.loop-i.invariant.values

pub returns-in-Err-clause-err : goal.returns-in-Err-clause-err
returns-in-Err-clause-err c = λ (q : Slot).
    taken_back _ _ _ _ _ _
    (c.take_cells.ensures.slots q
    ∙ ap (λ (values : List Value). not (comes c.args.columns.now c.args.place None (Some values) q) && holds c.put_other.new.slots q) (c.put_other.ensures.values ∙ c.loop-i.invariant.values))
    (c.in-Err.ensures.err q)
    (c.loop-i.invariant.slots q)
    (λ h. any_in_front (λ (d : ℕ). arrives d c.args.place None (Some (at_column c.args.values.now d)) q) c.args.columns.now c.loop-i.i h)

pub loop-i-preserved : goal.loop-i-preserved
loop-i-preserved c =
    let d : ℕ = get_or c.args.columns.now c.loop-i.i 0 in
    record {
      values = c.put_other.ensures.values ∙ c.loop-i.invariant.values;
      slots = λ (q : Slot).
          put_more _ _ _ _ _ _
          (list_any_more (λ (e : ℕ). arrives e c.args.place None (Some (at_column c.args.values.now e)) q) c.args.columns.now c.loop-i.i 0 c.loop-i-test.true)
          (c.in_default.ensures.ok q
          ∙ ap (λ (values : List Value). (stands d c.args.place q && is_value q.group.value (Some (at_column values d))) || holds c.loop-i.slots q) c.loop-i.invariant.values)
          (c.loop-i.invariant.slots q);
    }
