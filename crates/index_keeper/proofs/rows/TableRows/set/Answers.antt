use Rattle.std.proofs.Common.{◌≡◌, ◌∙◌, ap, sym, subst, ◌≤◌, ℕ, List, Option, false}
use Rattle.std.specs.Prelude.{slice_set, ◌==◌}
use Rattle.okws_base.specs.declared.value.Value.{Value}
use Rattle.row_index.specs.Places.{row_at}
use Rattle.row_index.specs.Index.{is_indexed, due}
use Rattle.row_search.specs.Places.{Indexed}
use Rattle.row_index.specs.declared.slot.Slot.{Slot}
use Rattle.row_search.proofs.Sole.{still_due, still_none}
use Rattle.index_keeper.proofs.rows.TableRows.set.Goals as goal

pub invariant_of-self : goal.invariant_of-self
invariant_of-self c =
    let columns : List ℕ = c.self.inside.columns.items in
    let at : ℕ → Option (List Value) = row_at c.self.inside.rows.entries in
    let f : List Value → List Value = λ (row : List Value). slice_set row c.args.column c.args.value in
    let plain : is_indexed columns c.args.column ≡ false = subst (λ (t : Indexed). is_indexed t.columns c.args.column ≡ false) (sym c.self.view_is) c.requires in
    record {
      rising = c.set.ensures.rising;
      index = record {
        exact = λ (q : Slot).
            c.self.invariant.index.exact q
            ∙ sym (still_due columns (at q.place) c.args.column c.args.value q (c.args.place == q.place) plain)
            ∙ ap (λ (o : Option (List Value)). due columns o q) (sym (c.set.ensures.rows q.place));
      };
      free = λ (p : ℕ) h. c.set.ensures.rows p ∙ still_none (c.args.place == p) (at p) f (c.self.invariant.free p (subst (λ (n : ℕ). n ≤ p) c.set.ensures.next h));
    }
