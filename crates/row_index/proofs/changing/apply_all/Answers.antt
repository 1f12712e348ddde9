use Rattle.std.proofs.Common.{◌≡◌, ◌∙◌, ℕ, Bool, List, Option, ap, sym}
use Rattle.std.specs.Prelude.{◌||◌, ◌&&◌, not}
use Rattle.std.specs.List.{list_any}
use Rattle.okws_base.specs.declared.value.Value.{Value}
use Rattle.row_index.specs.Places.{row_at}
use Rattle.row_index.specs.Slots.{holds, has_slot}
use Rattle.row_index.specs.Index.{due}
use Rattle.row_index.specs.Changes.{comes_with, goes_with, changed}
use Rattle.row_index.specs.declared.slot.Slot.{Slot}
use Rattle.row_index.specs.declared.changing.Change.{Change}
use Rattle.row_index.proofs.Moved.{exact_after, fresh}
use Rattle.row_index.proofs.Moved.{changed_none}
use Rattle.row_index.proofs.changing.apply_all.Goals as goal

pub put_all-requires : goal.put_all-requires
put_all-requires c = record {
  fresh = λ (q : Slot) h.
      let here : has_slot c.deref-2.result.now q ≡ list_any (λ (ch : Change). comes_with c.args.columns.now (row_at c.args.rows.now.entries ch.place) ch q) c.args.changes.items =
      ap (λ (slots : List Slot). has_slot slots q) c.deref-2.ensures.value
      ∙ c.in_ok-moves.ensures.coming q
      ∙ ap (list_any (λ (ch : Change). comes_with c.args.columns.now (row_at c.args.rows.now.entries ch.place) ch q)) c.deref.ensures.value in
      c.requires.index.exact q ∙ fresh c.args.columns.now (row_at c.args.rows.now.entries) c.args.changes.items q (sym here ∙ h);
}

pub returns-clause-index : goal.returns-clause-index
returns-clause-index c = record {
  exact = λ (q : Slot).
      let coming : has_slot c.deref-2.result.now q ≡ list_any (λ (ch : Change). comes_with c.args.columns.now (row_at c.args.rows.now.entries ch.place) ch q) c.args.changes.items =
      ap (λ (slots : List Slot). has_slot slots q) c.deref-2.ensures.value
      ∙ c.in_ok-moves.ensures.coming q
      ∙ ap (list_any (λ (ch : Change). comes_with c.args.columns.now (row_at c.args.rows.now.entries ch.place) ch q)) c.deref.ensures.value in
      let going : has_slot c.deref-3.result.now q ≡ list_any (λ (ch : Change). goes_with c.args.columns.now (row_at c.args.rows.now.entries ch.place) ch q) c.args.changes.items =
      ap (λ (slots : List Slot). has_slot slots q) c.deref-3.ensures.value
      ∙ c.in_ok-moves.ensures.going q
      ∙ ap (list_any (λ (ch : Change). goes_with c.args.columns.now (row_at c.args.rows.now.entries ch.place) ch q)) c.deref.ensures.value in
      c.take_all.ensures q
      ∙ ap (λ (b : Bool). not (has_slot c.deref-3.result.now q) && b) (c.in_ok-put_all.ensures.ok q)
      ∙ ap (λ (b : Bool). not b && (has_slot c.deref-2.result.now q || holds c.args.slots.now q)) going
      ∙ ap (λ (b : Bool). not (list_any (λ (ch : Change). goes_with c.args.columns.now (row_at c.args.rows.now.entries ch.place) ch q) c.args.changes.items) && (b || holds c.args.slots.now q)) coming
      ∙ ap (λ (b : Bool). not (list_any (λ (ch : Change). goes_with c.args.columns.now (row_at c.args.rows.now.entries ch.place) ch q) c.args.changes.items) && (list_any (λ (ch : Change). comes_with c.args.columns.now (row_at c.args.rows.now.entries ch.place) ch q) c.args.changes.items || b)) (c.requires.index.exact q)
      ∙ exact_after c.args.columns.now (row_at c.args.rows.now.entries) c.args.changes.items q c.requires.apart
      ∙ ap (λ (o : Option (List Value)). due c.args.columns.now o q) (sym (c.carry_out.ensures.rows q.place));
}

pub returns-clause-none : goal.returns-clause-none
returns-clause-none c = λ (p : ℕ) h. c.carry_out.ensures.rows p ∙ ap (λ (o : Option (List Value)). changed c.args.changes.items o p) h ∙ changed_none c.args.changes.items p
