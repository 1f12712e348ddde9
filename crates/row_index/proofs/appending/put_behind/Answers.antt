use Rattle.std.proofs.Common.{◌≡◌, ◌∙◌, ◌++◌, ◌∷◌, [], ℕ, Bool, List, Option, Some, None, ap, cond, sym}
use Rattle.std.specs.Prelude.{◌||◌, ◌&&◌, not}
use Rattle.std.specs.Ordering.{is_eq, nat_cmp}
use Rattle.okws_base.specs.declared.value.Value.{Value}
use Rattle.row_index.specs.Places.{row_at}
use Rattle.row_index.specs.Stands.{Placed}
use Rattle.row_index.specs.Slots.{holds}
use Rattle.row_index.specs.Index.{due}
use Rattle.row_index.specs.Changes.{comes, comes_at}
use Rattle.row_index.specs.declared.slot.Slot.{Slot}
use Rattle.row_index.proofs.Bools.{out_again}
use Rattle.row_index.proofs.Coming.{exact_with, exact_without}
use Rattle.row_index.proofs.appending.put_behind.Goals as goal

pub put_row-requires : goal.put_row-requires
put_row-requires c = record {
  there = λ (q : Slot) h.
      c.requires.index q
      ∙ ap (λ (b : Bool). b || due c.args.columns.now (row_at c.args.rows.now.entries q.place) q) (sym (ap (λ (n : ℕ). comes_at c.args.key n c.args.row q) c.next-place.ensures) ∙ h);
}

pub returns-in_err-row-clause-index : goal.returns-in_err-row-clause-index
returns-in_err-row-clause-index c =
    let free : row_at c.args.rows.now.entries c.next-place.result ≡ None = ap (row_at c.args.rows.now.entries) c.next-place.ensures ∙ c.requires.free in
    record {
      exact = λ (q : Slot).
          c.in_err-row.ensures.err q
          ∙ ap (λ (b : Bool). not (comes c.args.columns.now c.next-place.result None (Some c.args.row) q) && b) (c.requires.index q)
          ∙ ap (λ (n : ℕ). not (comes c.args.columns.now c.next-place.result None (Some c.args.row) q) && (comes_at c.args.key n c.args.row q || due c.args.columns.now (row_at c.args.rows.now.entries q.place) q)) (sym c.next-place.ensures)
          ∙ exact_without c.args.columns.now c.args.key (row_at c.args.rows.now.entries) c.next-place.result c.args.row q free c.requires.key;
    }

pub returns-in-Err-clause-index : goal.returns-in-Err-clause-index
returns-in-Err-clause-index c =
    let free : row_at c.args.rows.now.entries c.next-place.result ≡ None = ap (row_at c.args.rows.now.entries) c.next-place.ensures ∙ c.requires.free in
    let given : c.in-Err.row ≡ c.args.row = c.in-Err.ensures.back ∙ c.in_ok-row.ensures.row in
    record {
      exact = λ (q : Slot).
          c.take_row.ensures q
          ∙ ap (λ (row : List Value). not (comes c.args.columns.now c.next-place.result None (Some row) q) && holds c.put_row.new.slots q) given
          ∙ ap (λ (b : Bool). not (comes c.args.columns.now c.next-place.result None (Some c.args.row) q) && b) (c.in_ok-row.ensures.ok q)
          ∙ out_again (comes c.args.columns.now c.next-place.result None (Some c.args.row) q) (holds c.args.slots.now q)
          ∙ ap (λ (b : Bool). not (comes c.args.columns.now c.next-place.result None (Some c.args.row) q) && b) (c.requires.index q)
          ∙ ap (λ (n : ℕ). not (comes c.args.columns.now c.next-place.result None (Some c.args.row) q) && (comes_at c.args.key n c.args.row q || due c.args.columns.now (row_at c.args.rows.now.entries q.place) q)) (sym c.next-place.ensures)
          ∙ exact_without c.args.columns.now c.args.key (row_at c.args.rows.now.entries) c.next-place.result c.args.row q free c.requires.key
          ∙ ap (λ (rows : Placed). due c.args.columns.now (row_at rows.entries q.place) q) (sym c.in-Err.ensures.err);
    }

pub returns-clause-index : goal.returns-clause-index
returns-clause-index c =
    let free : row_at c.args.rows.now.entries c.next-place.result ≡ None = ap (row_at c.args.rows.now.entries) c.next-place.ensures ∙ c.requires.free in
    record {
      exact = λ (q : Slot).
          c.in_ok-row.ensures.ok q
          ∙ ap (λ (b : Bool). comes c.args.columns.now c.next-place.result None (Some c.args.row) q || b) (c.requires.index q)
          ∙ ap (λ (n : ℕ). comes c.args.columns.now c.next-place.result None (Some c.args.row) q || (comes_at c.args.key n c.args.row q || due c.args.columns.now (row_at c.args.rows.now.entries q.place) q)) (sym c.next-place.ensures)
          ∙ exact_with c.args.columns.now c.args.key (row_at c.args.rows.now.entries) c.next-place.result c.args.row q free c.requires.key
          ∙ ap (λ (n : ℕ). due c.args.columns.now (cond (is_eq (nat_cmp n q.place)) (Some c.args.row) (row_at c.args.rows.now.entries q.place)) q) c.next-place.ensures
          ∙ ap (λ (row : List Value). due c.args.columns.now (cond (is_eq (nat_cmp c.args.rows.now.next q.place)) (Some row) (row_at c.args.rows.now.entries q.place)) q) (sym c.in_ok-row.ensures.row)
          ∙ ap (λ (o : Option (List Value)). due c.args.columns.now o q) (sym (c.in_default.ensures.rows q.place));
    }

pub returns-clause-entries : goal.returns-clause-entries
returns-clause-entries c =
    c.in_default.ensures.entries
    ∙ ap (λ (row : List Value). c.args.rows.now.entries ++ (c.args.rows.now.next, row) ∷ []) c.in_ok-row.ensures.row
