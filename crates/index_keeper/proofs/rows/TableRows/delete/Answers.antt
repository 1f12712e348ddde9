use Rattle.std.proofs.Common.{◌≡◌, ◌∙◌, Option, ap, sym, subst, ℕ, List, Bool, Some, None, length}
use Rattle.std.specs.Prelude.{map, not, IfSome}
use Rattle.std.specs.List.Sorted.{IsStrictlySortedBy}
use Rattle.std.specs.Ordering.{nat_cmp}
use Rattle.okws_base.specs.declared.value.Value.{Value}
use Rattle.okws_plan.specs.Meaning.{at_column, meets_all}
use Rattle.okws_plan.specs.declared.statement.Answer.TheVariants.{Changed}
use Rattle.row_index.specs.Places.{row_at}
use Rattle.row_index.specs.Index.{is_value}
use Rattle.row_index.specs.Changes.{changed}
use Rattle.row_index.specs.declared.changing.Change.{Change}
use Rattle.row_index.specs.declared.slot.Group.{Group}
use Rattle.row_search.specs.Places.{rows_of}
use Rattle.row_search.proofs.Found.{filter_alike}
use Rattle.row_search.proofs.Entries.{count_listed, listed_rise, removed_rows}
use Rattle.index_keeper.proofs.rows.TableRows.delete.Goals as goal

pub returns-in-Some-clause-answer : goal.returns-in-Some-clause-answer
returns-in-Some-clause-answer g c =
    let met : (row : List Value) → meets_all c.args.args.now c.args.conditions.now row ≡ is_value c.in-Some.group.value (Some (at_column row c.in-Some.group.column)) =
    subst (λ (o : Option Group). IfSome o (λ (g : Group). (row : List Value) → meets_all c.args.args.now c.args.conditions.now row ≡ is_value g.value (Some (at_column row g.column)))) c.in-Some.is c.in_ok-group.ensures.rows in
    ap Changed
    (c.remove_group-count.ensures.count
    ∙ ap length (filter_alike (λ (row : List Value). is_value c.in-Some.group.value (Some (at_column row c.in-Some.group.column))) (λ (row : List Value). meets_all c.args.args.now c.args.conditions.now row) (rows_of c.args.self.now.entries) (λ (row : List Value). sym (met row))))

pub returns-in-Some-clause-rows : goal.returns-in-Some-clause-rows
returns-in-Some-clause-rows g c =
    let met : (row : List Value) → meets_all c.args.args.now c.args.conditions.now row ≡ is_value c.in-Some.group.value (Some (at_column row c.in-Some.group.column)) =
    subst (λ (o : Option Group). IfSome o (λ (g : Group). (row : List Value) → meets_all c.args.args.now c.args.conditions.now row ≡ is_value g.value (Some (at_column row g.column)))) c.in-Some.is c.in_ok-group.ensures.rows in
    c.remove_group-count.ensures.rows
    ∙ filter_alike (λ (row : List Value). not (is_value c.in-Some.group.value (Some (at_column row c.in-Some.group.column)))) (λ (row : List Value). not (meets_all c.args.args.now c.args.conditions.now row)) (rows_of c.args.self.now.entries) (λ (row : List Value). ap not (sym (met row)))

pub change-requires : goal.change-requires
change-requires g c =
    let test : List Value → Bool = λ (row : List Value). meets_all c.args.args.now c.args.conditions.now row in
    subst (λ (changes : List Change). IsStrictlySortedBy nat_cmp (map (λ (ch : Change). ch.place) changes)) (sym c.in_ok-changes.ensures.changes) (listed_rise (λ _. None) test c.args.self.now.entries c.in_ok-changes.ensures.rise)

pub returns-clause-answer : goal.returns-clause-answer
returns-clause-answer g c =
    let test : List Value → Bool = λ (row : List Value). meets_all c.args.args.now c.args.conditions.now row in
    ap Changed
    (c.len-count.ensures
    ∙ ap length c.in_ok-changes.ensures.changes
    ∙ count_listed (λ _. None) test c.args.self.now.entries)

pub returns-clause-rows : goal.returns-clause-rows
returns-clause-rows g c =
    let test : List Value → Bool = λ (row : List Value). meets_all c.args.args.now c.args.conditions.now row in
    removed_rows test c.args.self.now.entries c.change.new.self.entries c.in_ok-change.ensures.rose c.in_ok-change.ensures.rises
    (λ (p : ℕ). c.in_ok-change.ensures.rows p ∙ ap (λ (changes : List Change). changed changes (row_at c.args.self.now.entries p) p) c.in_ok-changes.ensures.changes)
