use Rattle.std.proofs.Common.{◌≡◌, subst, ℕ, Bool, Option, IfOk}
use Rattle.std.specs.Prelude.{not}
use Rattle.okws_plan.specs.Meaning.{is_taken_at}
use Rattle.row_search.specs.Places.{rows_of}
use Rattle.index_keeper.proofs.rows.TableRows.push_new.Goals as goal

pub returns-in-Some-clause-came : goal.returns-in-Some-clause-came
returns-in-Some-clause-came c =
    subst (λ (key : Option ℕ). IfOk c.push_keyed.result (λ (came : Bool). came ≡ not (is_taken_at key (rows_of c.args.self.now.entries) c.args.new))) c.in-Some.ensures c.push_keyed.ensures.came
