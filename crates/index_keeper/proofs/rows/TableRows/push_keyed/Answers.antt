use Rattle.std.proofs.Common.{◌≡◌, ◌∙◌, ap, sym, subst, ℕ, Bool, Some, IfOk}
use Rattle.std.specs.Prelude.{◌==◌, not}
use Rattle.std.specs.List.{find}
use Rattle.okws_plan.specs.Meaning.{is_taken_at}
use Rattle.row_search.specs.Places.{rows_of}
use Rattle.row_search.proofs.Found.{own_is, own_found}
use Rattle.index_keeper.proofs.rows.TableRows.push_keyed.Goals as goal

pub push_indexed-requires : goal.push_indexed-requires
push_indexed-requires c =
    let found : find (λ (d : ℕ). d == c.args.key) c.self.inside.columns.items ≡ Some c.in-Some.own =
    sym (c.in-Some.ensures ∙ ap (find (λ (d : ℕ). d == c.args.key)) c.deref.ensures.value) in
    rw (← c.self.view_is) (own_found c.self.inside.columns.items c.args.key c.in-Some.own found)

pub returns-in-Some-clause-came : goal.returns-in-Some-clause-came
returns-in-Some-clause-came c =
    let found : find (λ (d : ℕ). d == c.args.key) c.self.inside.columns.items ≡ Some c.in-Some.own =
    sym (c.in-Some.ensures ∙ ap (find (λ (d : ℕ). d == c.args.key)) c.deref.ensures.value) in
    subst (λ (n : ℕ). IfOk c.push_indexed.result (λ (came : Bool). came ≡ not (is_taken_at (Some n) (rows_of c.args.self.now.entries) c.args.new))) (own_is c.self.inside.columns.items c.args.key c.in-Some.own found) c.push_indexed.ensures.came
