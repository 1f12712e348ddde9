use Rattle.std.proofs.Common.{◌∙◌, sym, Some}
use Rattle.std.specs.Prelude.{◌&&◌}
use Rattle.okws_plan.specs.Meaning.{at_column}
use Rattle.row_index.specs.Slots.{holds}
use Rattle.row_index.specs.Index.{is_value}
use Rattle.row_index.specs.Changes.{stands}
use Rattle.row_index.specs.declared.slot.Slot.{Slot}
use Rattle.row_index.proofs.Bools.{come_already}
use Rattle.row_index.proofs.Coming.{named}
use Rattle.row_index.proofs.cells.put_other.Goals as goal

pub returns-then-is_key-clause-ok : goal.returns-then-is_key-clause-ok
returns-then-is_key-clause-ok c = λ (q : Slot).
    come_already (stands c.args.column c.args.place q && is_value q.group.value (Some (at_column c.args.values.now c.args.column))) (holds c.args.slots.now q)
    (λ h. c.requires.there q (named c.args.key c.args.column c.args.place c.args.values.now q (sym c.is_key.ensures ∙ c.if-is_key.true) h))
