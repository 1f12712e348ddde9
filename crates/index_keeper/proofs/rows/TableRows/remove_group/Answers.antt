use Rattle.std.proofs.Common.{◌≡◌, ◌∙◌, ap, sym, subst, ◌≤◌, ℕ, Bool, List, Some, true, length}
use Rattle.okws_base.specs.declared.value.Value.{Value}
use Rattle.okws_plan.specs.Meaning.{at_column}
use Rattle.row_index.specs.Places.{row_at}
use Rattle.row_index.specs.Index.{is_indexed, is_value, IsIndex}
use Rattle.row_index.specs.Changes.{changed, removals_at}
use Rattle.row_search.specs.Places.{Indexed}
use Rattle.row_search.proofs.Found.{listed, count_where}
use Rattle.row_search.proofs.Keyed.{left_rows}
use Rattle.index_keeper.proofs.rows.TableRows.remove_group.Goals as goal

pub invariant_of-self : goal.invariant_of-self
invariant_of-self g c = record {
  rising = c.remove_group-count.ensures.rising c.self.invariant.rising;
  index = subst (λ (columns : List ℕ). IsIndex columns c.remove_group-count.new.rows.entries c.remove_group-count.new.slots) c.deref.ensures.value c.remove_group-count.ensures.index;
  free = λ (p : ℕ) h. c.remove_group-count.ensures.none p (c.self.invariant.free p (subst (λ (n : ℕ). n ≤ p) c.remove_group-count.ensures.next h));
}

pub returns-clause-count : goal.returns-clause-count
returns-clause-count g c =
    let own : is_indexed c.self.inside.columns.items c.args.group.now.column ≡ true = subst (λ (t : Indexed). is_indexed t.columns c.args.group.now.column ≡ true) (sym c.self.view_is) c.requires in
    let has : List Value → Bool = λ (row : List Value). is_value c.args.group.now.value (Some (at_column row c.args.group.now.column)) in
    rw (← c.self.view_is)
    (c.remove_group-count.ensures.count
    ∙ ap length (listed c.self.inside.columns.items c.self.inside.rows.entries c.self.inside.slots c.args.group.now.column c.args.group.now.value c.self.invariant.index c.self.invariant.rising c.remove_group-count.ensures.ordered own)
    ∙ count_where has c.self.inside.rows.entries)

pub returns-clause-rows : goal.returns-clause-rows
returns-clause-rows g c =
    let own : is_indexed c.self.inside.columns.items c.args.group.now.column ≡ true = subst (λ (t : Indexed). is_indexed t.columns c.args.group.now.column ≡ true) (sym c.self.view_is) c.requires in
    let has : List Value → Bool = λ (row : List Value). is_value c.args.group.now.value (Some (at_column row c.args.group.now.column)) in
    rw (← c.self.view_is)
    (left_rows has c.self.inside.rows.entries c.remove_group-count.new.rows.entries c.self.invariant.rising (c.remove_group-count.ensures.rising c.self.invariant.rising)
    (λ (p : ℕ).
    c.remove_group-count.ensures.rows p
    ∙ ap (λ (places : List ℕ). changed (removals_at places) (row_at c.self.inside.rows.entries p) p) (listed c.self.inside.columns.items c.self.inside.rows.entries c.self.inside.slots c.args.group.now.column c.args.group.now.value c.self.invariant.index c.self.invariant.rising c.remove_group-count.ensures.ordered own)))
