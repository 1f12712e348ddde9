use Rattle.std.proofs.Common.{◌∙◌, ap, Bool}
use Rattle.std.specs.Prelude.{if◌then◌else◌}
use Rattle.std.specs.Ordering.{is_eq}
use Rattle.row_index.specs.Groups.{group_cmp}
use Rattle.row_index.specs.Slots.{holds}
use Rattle.row_index.specs.declared.slot.Slot.{Slot}
use Rattle.row_index.proofs.Grouped.{on_ok, on_err}
use Rattle.row_index.proofs.slots.Slots.put_beside.Goals as goal

pub returns-clause-ok : goal.returns-clause-ok
returns-clause-ok c =
    on_ok c.put-put.result (λ h. λ (q : Slot).
    c.put_back.ensures q
    ∙ ap (λ (b : Bool). if is_eq (group_cmp c.args.slot.now.group q.group) then b else holds c.args.self.now q) (h q.place)) c.put-put.ensures.ok

pub returns-clause-err : goal.returns-clause-err
returns-clause-err c =
    on_err c.put-put.result (λ h. λ (q : Slot).
    c.put_back.ensures q
    ∙ ap (λ (b : Bool). if is_eq (group_cmp c.args.slot.now.group q.group) then b else holds c.args.self.now q) (h q.place)) c.put-put.ensures.err
