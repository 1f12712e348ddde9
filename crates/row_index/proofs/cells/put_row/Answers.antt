use Rattle.std.proofs.Common.{◌≡◌, ◌∙◌, ap, sym, List, rules, None, Some}
use Rattle.std.specs.Prelude.{◌&&◌, ◌||◌, not}
use Rattle.okws_base.specs.declared.value.Value.{Value}
use Rattle.row_index.specs.Slots.{holds}
use Rattle.row_index.specs.Changes.{comes, comes_at}
use Rattle.row_index.specs.declared.slot.Slot.{Slot}
use Rattle.row_index.proofs.Grouped.{say_err}
use Rattle.row_index.proofs.cells.put_row.Goals as goal

pub put_cells-requires : goal.put_cells-requires
put_cells-requires c =
    let same : c.deref_mut.result.now ≡ c.args.row = search rules in
    record {
      there = λ (q : Slot) h. c.requires.there q (sym (ap (λ (row : List Value). comes_at c.args.key c.args.place row q) same) ∙ h);
    }

pub returns-in_err-put_cells-clause-err : goal.returns-in_err-put_cells-clause-err
returns-in_err-put_cells-clause-err c =
    let same : c.deref_mut.result.now ≡ c.args.row = search rules in
    say_err c.from_residual.result (λ (q : Slot).
    c.in_err-put_cells.ensures.err q
    ∙ ap (λ (row : List Value). not (comes c.args.columns.now c.args.place None (Some row) q) && holds c.args.slots.now q) same)

pub returns-clause-ok : goal.returns-clause-ok
returns-clause-ok c =
    let same : c.deref_mut.result.now ≡ c.args.row = search rules in
    λ (q : Slot).
    c.in_ok-put_cells.ensures.ok q
    ∙ ap (λ (row : List Value). comes c.args.columns.now c.args.place None (Some row) q || holds c.args.slots.now q) same
