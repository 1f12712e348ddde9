use Rattle.std.proofs.Common.{◌≡◌, ◌∙◌, ap, sym, ℕ, Bool, List, Option}
use Rattle.std.specs.Prelude.{◌||◌, ◌&&◌, not}
use Rattle.std.specs.Option.{option_copied}
use Rattle.okws_base.specs.declared.value.Value.{Value}
use Rattle.row_index.specs.Places.{row_at}
use Rattle.row_index.specs.Slots.{holds, has_slot}
use Rattle.row_index.specs.Index.{due}
use Rattle.row_index.specs.Changes.{comes_with, goes_with}
use Rattle.row_index.specs.declared.slot.Slot.{Slot}
use Rattle.row_index.proofs.Moved.{exact_one, fresh_one, none_after}
use Rattle.row_index.proofs.changing.replace.Goals as goal

pub put_all-requires : goal.put_all-requires
put_all-requires c = record {
  fresh = λ (q : Slot) h.
      let here : has_slot c.deref.result.now q ≡ comes_with c.args.columns.now (row_at c.args.rows.now.entries c.args.change.place) c.args.change q =
      ap (λ (slots : List Slot). has_slot slots q) c.deref.ensures.value
      ∙ c.in_ok-note_change.ensures.coming q
      ∙ ap (λ (slots : List Slot). has_slot slots q || comes_with c.args.columns.now (option_copied c.get-old.result) c.args.change q) c.none-moves.ensures.coming
      ∙ ap (λ (o : Option (List Value)). comes_with c.args.columns.now o c.args.change q) c.get-old.ensures in
      c.requires.index.exact q ∙ fresh_one c.args.columns.now (row_at c.args.rows.now.entries) c.args.change q (sym here ∙ h);
}

pub returns-clause-index : goal.returns-clause-index
returns-clause-index c = record {
  exact = λ (q : Slot).
      let coming : has_slot c.deref.result.now q ≡ comes_with c.args.columns.now (row_at c.args.rows.now.entries c.args.change.place) c.args.change q =
      ap (λ (slots : List Slot). has_slot slots q) c.deref.ensures.value
      ∙ c.in_ok-note_change.ensures.coming q
      ∙ ap (λ (slots : List Slot). has_slot slots q || comes_with c.args.columns.now (option_copied c.get-old.result) c.args.change q) c.none-moves.ensures.coming
      ∙ ap (λ (o : Option (List Value)). comes_with c.args.columns.now o c.args.change q) c.get-old.ensures in
      let going : has_slot c.deref-2.result.now q ≡ goes_with c.args.columns.now (row_at c.args.rows.now.entries c.args.change.place) c.args.change q =
      ap (λ (slots : List Slot). has_slot slots q) c.deref-2.ensures.value
      ∙ c.in_ok-note_change.ensures.going q
      ∙ ap (λ (slots : List Slot). has_slot slots q || goes_with c.args.columns.now (option_copied c.get-old.result) c.args.change q) c.none-moves.ensures.going
      ∙ ap (λ (o : Option (List Value)). goes_with c.args.columns.now o c.args.change q) c.get-old.ensures in
      c.take_all.ensures q
      ∙ ap (λ (b : Bool). not (has_slot c.deref-2.result.now q) && b) (c.in_ok-put_all.ensures.ok q)
      ∙ ap (λ (b : Bool). not b && (has_slot c.deref.result.now q || holds c.args.slots.now q)) going
      ∙ ap (λ (b : Bool). not (goes_with c.args.columns.now (row_at c.args.rows.now.entries c.args.change.place) c.args.change q) && (b || holds c.args.slots.now q)) coming
      ∙ ap (λ (b : Bool). not (goes_with c.args.columns.now (row_at c.args.rows.now.entries c.args.change.place) c.args.change q) && (comes_with c.args.columns.now (row_at c.args.rows.now.entries c.args.change.place) c.args.change q || b)) (c.requires.index.exact q)
      ∙ exact_one c.args.columns.now (row_at c.args.rows.now.entries) c.args.change q
      ∙ ap (λ (o : Option (List Value)). due c.args.columns.now o q) (sym (c.put.ensures.rows q.place));
}

pub returns-clause-none : goal.returns-clause-none
returns-clause-none c = λ (p : ℕ) h. c.put.ensures.rows p ∙ none_after p (row_at c.args.rows.now.entries p) c.args.change h
