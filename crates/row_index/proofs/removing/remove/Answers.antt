use Rattle.std.proofs.Common.{◌≡◌, ◌∙◌, ap, sym, ℕ, Bool, List, Option, None, Some}
use Rattle.std.specs.Prelude.{not, ◌&&◌}
use Rattle.okws_base.specs.declared.value.Value.{Value}
use Rattle.row_index.specs.Places.{row_at}
use Rattle.row_index.specs.Stands.{Placed}
use Rattle.row_index.specs.Slots.{holds}
use Rattle.row_index.specs.Index.{due}
use Rattle.row_index.specs.Changes.{comes}
use Rattle.row_index.specs.declared.slot.Slot.{Slot}
use Rattle.row_index.specs.declared.slots.Slots.{Slots}
use Rattle.row_index.proofs.Moved.{exact_gone, nobody_gone, none_after}
use Rattle.row_index.proofs.removing.remove.Goals as goal
use Rattle.row_index.proofs.removing.remove.Goals.{in-Some, in-None}

pub returns-clause-index : goal.returns-clause-index
returns-clause-index c =
    let tidied : (q : Slot) → due c.args.columns.now (row_at c.put.new.self.entries q.place) q ≡ due c.args.columns.now (row_at c.tidy.new.self.entries q.place) q = λ (q : Slot).
    ap (λ (rows : Placed). due c.args.columns.now (row_at rows.entries q.place) q) (sym c.tidy.ensures) in
    elim c.match-put.branch [
      | in-Some w ↦
          record {
            exact = λ (q : Slot).
                ap (λ (set : Slots). holds set q) w.slots-is
                ∙ w.take_row.ensures q
                ∙ ap (λ (b : Bool). not (comes c.args.columns.now c.args.place None (Some w.in-Some.row) q) && b) (c.requires.index.exact q)
                ∙ exact_gone c.args.columns.now (row_at c.args.rows.now.entries) c.args.place w.in-Some.row q (sym w.in-Some.ensures.before)
                ∙ ap (λ (o : Option (List Value)). due c.args.columns.now o q) (sym (c.put.ensures.rows q.place))
                ∙ tidied q;
          }
      | in-None w ↦
          record {
            exact = λ (q : Slot).
                ap (λ (set : Slots). holds set q) w.slots-is
                ∙ c.requires.index.exact q
                ∙ ap (λ (o : Option (List Value)). due c.args.columns.now o q) (nobody_gone (row_at c.args.rows.now.entries) c.args.place q.place (sym w.in-None.ensures.before) ∙ sym (c.put.ensures.rows q.place))
                ∙ tidied q;
          }
    ]

pub returns-clause-none : goal.returns-clause-none
returns-clause-none c = λ (p : ℕ) h.
    ap (λ (rows : Placed). row_at rows.entries p) c.tidy.ensures
    ∙ c.put.ensures.rows p
    ∙ none_after p (row_at c.args.rows.now.entries p) (record { place = c.args.place; row = None }) h
