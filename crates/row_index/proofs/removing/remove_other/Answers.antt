use Rattle.std.proofs.Common.{◌≡◌, ◌∙◌, ap, sym, subst, Bool, List, Option, None, Some, true}
use Rattle.std.specs.Prelude.{not, ◌&&◌, IfSome}
use Rattle.std.specs.Ordering.{is_eq}
use Rattle.okws_base.specs.declared.value.Value.{Value}
use Rattle.row_index.specs.Places.{row_at}
use Rattle.row_index.specs.Groups.{group_cmp}
use Rattle.row_index.specs.Index.{due, cell, is_value}
use Rattle.row_index.specs.Changes.{comes}
use Rattle.row_index.specs.declared.slot.Slot.{Slot}
use Rattle.row_index.proofs.Leaving.{of_group, swapped}
use Rattle.row_index.proofs.Moved.{exact_gone, nobody_gone}
use Rattle.row_index.proofs.removing.remove_other.Goals as goal

pub take_row-requires : goal.take_row-requires
take_row-requires c =
    let has : is_value c.args.group.now.value (cell c.args.group.now.column (Some c.in-Some.row)) ≡ true =
    subst (λ (o : Option (List Value)). IfSome o (λ (row : List Value). is_value c.args.group.now.value (cell c.args.group.now.column (Some row)) ≡ true)) (sym c.in-Some.ensures.before) c.requires.own in
    record {
      gone = λ (q : Slot) h.
          c.requires.index.exact q
          ∙ ap (λ (b : Bool). not b && due c.args.columns.now (row_at c.args.rows.now.entries q.place) q) (of_group c.args.group.now c.args.place c.in-Some.row q has h);
    }

pub returns-in-Some-clause-index : goal.returns-in-Some-clause-index
returns-in-Some-clause-index c = record {
  exact = λ (q : Slot).
      c.take_row.ensures q
      ∙ ap (λ (b : Bool). not (comes c.args.columns.now c.args.place None (Some c.in-Some.row) q) && b) (c.requires.index.exact q)
      ∙ swapped (comes c.args.columns.now c.args.place None (Some c.in-Some.row) q) (is_eq (group_cmp c.args.group.now q.group)) (due c.args.columns.now (row_at c.args.rows.now.entries q.place) q)
      ∙ ap (λ (b : Bool). not (is_eq (group_cmp c.args.group.now q.group)) && b)
      (exact_gone c.args.columns.now (row_at c.args.rows.now.entries) c.args.place c.in-Some.row q (sym c.in-Some.ensures.before)
      ∙ ap (λ (o : Option (List Value)). due c.args.columns.now o q) (sym (c.put.ensures.rows q.place)));
}

pub returns-in-None-clause-index : goal.returns-in-None-clause-index
returns-in-None-clause-index c = record {
  exact = λ (q : Slot).
      c.requires.index.exact q
      ∙ ap (λ (o : Option (List Value)). not (is_eq (group_cmp c.args.group.now q.group)) && due c.args.columns.now o q) (nobody_gone (row_at c.args.rows.now.entries) c.args.place q.place (sym c.in-None.ensures.before) ∙ sym (c.put.ensures.rows q.place));
}
