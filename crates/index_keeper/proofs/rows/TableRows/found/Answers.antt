use Rattle.std.proofs.Common.{◌≡◌, ◌∙◌, ◌+◌, ◌≤◌, ℕ, List, IfOk, OnOk, Some, ap, sym, subst, length}
use Rattle.std.specs.Prelude.{filter}
use Rattle.okws_base.specs.declared.value.Value.{Value}
use Rattle.okws_plan.specs.Meaning.{meets_all}
use Rattle.okws_plan.specs.declared.statement.Condition.{Condition}
use Rattle.row_index.specs.Places.{row_at}
use Rattle.row_search.specs.Places.{leading, left_of, tests, rows_of}
use Rattle.row_index.specs.Few.{listed}
use Rattle.row_search.specs.Hits.{entries_of, entries_at}
use Rattle.row_search.proofs.Found.{counted_by}
use Rattle.index_keeper.proofs.Hits.{found_entries}
use Rattle.index_keeper.proofs.rows.TableRows.found.Goals as goal

pub returns-in_default-clause-entries : goal.returns-in_default-clause-entries
returns-in_default-clause-entries g c = rw (← c.self.view_is, ← c.stands.ensures) c.in_ok-all.ensures.entries

pub returns-clause-entries : goal.returns-clause-entries
returns-clause-entries g c =
    let led : leading c.self.inside.columns.items c.args.conditions.now ≡ Some c.in-Some.condition.now =
    sym (c.in-Some.ensures ∙ ap (λ (cs : List ℕ). leading cs c.args.conditions.now) c.deref.ensures.value) in
    let found : entries_at (meets_all c.args.args.now (left_of c.args.conditions.now)) (λ (p : ℕ). row_at c.self.inside.rows.entries p) (listed c.in_ok-places.places) ≡ filter (λ (e : ℕ × List Value). meets_all c.args.args.now c.args.conditions.now e.1) c.self.inside.rows.entries =
    ap (entries_at (meets_all c.args.args.now (left_of c.args.conditions.now)) (λ (p : ℕ). row_at c.self.inside.rows.entries p)) c.in_ok-places.ensures.places
    ∙ found_entries c.self.inside.columns.items c.self.inside.rows.entries c.self.inside.slots c.args.args.now c.args.conditions.now c.in-Some.condition.now c.self.invariant.index c.self.invariant.rising c.in_ok-places.ensures.ordered led in
    let test_is : entries_at (meets_all c.args.args.now c.left_of.result.now) (λ (p : ℕ). row_at c.self.inside.rows.entries p) (listed c.in_ok-places.places) ≡ entries_at (meets_all c.args.args.now (left_of c.args.conditions.now)) (λ (p : ℕ). row_at c.self.inside.rows.entries p) (listed c.in_ok-places.places) =
    ap (λ (cs : List Condition). entries_at (meets_all c.args.args.now cs) (λ (p : ℕ). row_at c.self.inside.rows.entries p) (listed c.in_ok-places.places)) c.left_of.ensures in
    rw (← c.self.view_is) (subst (λ (es : List (ℕ × List Value)). IfOk c.met_at.result (λ v. entries_of (listed v) ≡ es)) (test_is ∙ found) c.met_at.ensures.entries)

pub returns-clause-tested : goal.returns-clause-tested
returns-clause-tested g c =
    let led : leading c.self.inside.columns.items c.args.conditions.now ≡ Some c.in-Some.condition.now =
    sym (c.in-Some.ensures ∙ ap (λ (cs : List ℕ). leading cs c.args.conditions.now) c.deref.ensures.value) in
    let count : length (listed c.in_ok-places.places) ≡ tests c.self.inside.columns.items c.args.args.now c.args.conditions.now (rows_of c.self.inside.rows.entries) =
    ap length c.in_ok-places.ensures.places
    ∙ counted_by c.self.inside.columns.items c.self.inside.rows.entries c.self.inside.slots c.args.args.now c.args.conditions.now c.in-Some.condition.now c.self.invariant.index c.self.invariant.rising c.in_ok-places.ensures.ordered led in
    rw (← c.self.view_is) (subst (λ (n : ℕ). OnOk c.met_at.result (c.met_at.new.steps ≡ c.args.steps.now + n)) count c.met_at.ensures.tested)

pub returns-clause-most : goal.returns-clause-most
returns-clause-most g c =
    let led : leading c.self.inside.columns.items c.args.conditions.now ≡ Some c.in-Some.condition.now =
    sym (c.in-Some.ensures ∙ ap (λ (cs : List ℕ). leading cs c.args.conditions.now) c.deref.ensures.value) in
    let count : length (listed c.in_ok-places.places) ≡ tests c.self.inside.columns.items c.args.args.now c.args.conditions.now (rows_of c.self.inside.rows.entries) =
    ap length c.in_ok-places.ensures.places
    ∙ counted_by c.self.inside.columns.items c.self.inside.rows.entries c.self.inside.slots c.args.args.now c.args.conditions.now c.in-Some.condition.now c.self.invariant.index c.self.invariant.rising c.in_ok-places.ensures.ordered led in
    rw (← c.self.view_is) (subst (λ (n : ℕ). c.met_at.new.steps ≤ c.args.steps.now + n) count c.met_at.ensures.most)
