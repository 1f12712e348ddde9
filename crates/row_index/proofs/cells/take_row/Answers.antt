use Rattle.std.proofs.Common.{◌≡◌, ◌∙◌, ap, sym, List, rules, None, Some}
use Rattle.std.specs.Prelude.{◌&&◌, not}
use Rattle.okws_base.specs.declared.value.Value.{Value}
use Rattle.row_index.specs.Slots.{holds}
use Rattle.row_index.specs.Changes.{comes, comes_at}
use Rattle.row_index.specs.declared.slot.Slot.{Slot}
use Rattle.row_index.proofs.cells.take_row.Goals as goal

pub take_cells-requires : goal.take_cells-requires
take_cells-requires c =
    let same : c.deref_mut.result.now ≡ c.args.row = search rules in
    record {
      gone = λ (q : Slot) h. c.requires.gone q (sym (ap (λ (row : List Value). comes_at c.args.key c.args.place row q) same) ∙ h);
    }

pub returns : goal.returns
returns c =
    let same : c.deref_mut.result.now ≡ c.args.row = search rules in
    λ (q : Slot).
    c.take_cells.ensures.slots q
    ∙ ap (λ (row : List Value). not (comes c.args.columns.now c.args.place None (Some row) q) && holds c.args.slots.now q) same
