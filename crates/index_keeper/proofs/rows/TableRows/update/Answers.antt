use Rattle.std.proofs.Common.{◌≡◌, ◌∙◌, ap, sym, subst, ℕ, List, Option, Bool, Some, length}
use Rattle.std.specs.Prelude.{map, option_map, slice_set, if◌then◌else◌, ◌==◌}
use Rattle.std.specs.List.Sorted.{IsStrictlySortedBy}
use Rattle.std.specs.Ordering.{nat_cmp}
use Rattle.okws_base.specs.declared.value.Value.{Value}
use Rattle.okws_plan.specs.Meaning.{meets_all, assigned}
use Rattle.okws_plan.specs.declared.statement.Answer.TheVariants.{Changed}
use Rattle.row_index.specs.Places.{row_at}
use Rattle.row_index.specs.Few.{listed}
use Rattle.row_index.specs.Changes.{changed, changes_to}
use Rattle.row_index.specs.declared.changing.Change.{Change}
use Rattle.row_search.proofs.Entries.{listed_changes, count_listed, listed_rise, updated_rows}
use Rattle.row_search.proofs.Sole.{sole_updated, sole_counted}
use Rattle.index_keeper.proofs.rows.TableRows.update.Goals as goal

pub set-requires : goal.set-requires
set-requires g c = c.in-Some.ensures.plain

pub returns-in-Some-clause-answer : goal.returns-in-Some-clause-answer
returns-in-Some-clause-answer g c =
    ap Changed (sole_counted (λ (row : List Value). meets_all c.args.args.now c.args.conditions.now row) c.args.self.now.entries (listed c.in_ok-found.found) c.in-Some.place c.in_ok-found.ensures.entries c.in-Some.ensures.hit)

pub returns-in-Some-clause-rows : goal.returns-in-Some-clause-rows
returns-in-Some-clause-rows g c =
    let test : List Value → Bool = λ (row : List Value). meets_all c.args.args.now c.args.conditions.now row in
    sole_updated c.args.args.now c.args.assignments.now c.in-Some.assignment.now test c.args.self.now.entries c.set.new.self.entries (listed c.in_ok-found.found) c.in-Some.place
    c.set.ensures.rose c.set.ensures.rises c.in_ok-found.ensures.entries c.in-Some.ensures.hit c.in-Some.ensures.assignment
    (λ (p : ℕ).
    c.set.ensures.rows p
    ∙ ap (λ (v : Value). if c.in-Some.place == p then option_map (λ (row : List Value). slice_set row c.in-Some.assignment.now.column v) (row_at c.args.self.now.entries p) else row_at c.args.self.now.entries p) c.in_ok-value.ensures)

pub change-requires : goal.change-requires
change-requires g c =
    let test : List Value → Bool = λ (row : List Value). meets_all c.args.args.now c.args.conditions.now row in
    let make : List Value → Option (List Value) = λ (row : List Value). Some (assigned c.args.args.now c.args.assignments.now row) in
    let changes_are : listed c.in_ok-changes.changes ≡ listed_changes make test c.args.self.now.entries = c.in_ok-changes.ensures ∙ ap (changes_to make) c.in_ok-found.ensures.entries in
    subst (λ (changes : List Change). IsStrictlySortedBy nat_cmp (map (λ (ch : Change). ch.place) changes)) (sym changes_are) (listed_rise make test c.args.self.now.entries c.in_ok-found.ensures.rise)

pub returns-clause-answer : goal.returns-clause-answer
returns-clause-answer g c =
    let test : List Value → Bool = λ (row : List Value). meets_all c.args.args.now c.args.conditions.now row in
    let make : List Value → Option (List Value) = λ (row : List Value). Some (assigned c.args.args.now c.args.assignments.now row) in
    let changes_are : listed c.in_ok-changes.changes ≡ listed_changes make test c.args.self.now.entries = c.in_ok-changes.ensures ∙ ap (changes_to make) c.in_ok-found.ensures.entries in
    ap Changed (c.len-count.ensures ∙ ap length changes_are ∙ count_listed make test c.args.self.now.entries)

pub returns-clause-rows : goal.returns-clause-rows
returns-clause-rows g c =
    let test : List Value → Bool = λ (row : List Value). meets_all c.args.args.now c.args.conditions.now row in
    let new : List Value → List Value = λ (row : List Value). assigned c.args.args.now c.args.assignments.now row in
    let make : List Value → Option (List Value) = λ (row : List Value). Some (new row) in
    let changes_are : listed c.in_ok-changes.changes ≡ listed_changes make test c.args.self.now.entries = c.in_ok-changes.ensures ∙ ap (changes_to make) c.in_ok-found.ensures.entries in
    updated_rows new test c.args.self.now.entries c.change.new.self.entries c.in_ok-change.ensures.rose c.in_ok-change.ensures.rises
    (λ (p : ℕ). c.in_ok-change.ensures.rows p ∙ ap (λ (changes : List Change). changed changes (row_at c.args.self.now.entries p) p) changes_are)
