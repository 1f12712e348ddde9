use Rattle.std.proofs.Common.{◌≡◌, drop}
use Rattle.std.specs.Prelude.{find, ◌==◌}
use Rattle.okws_plan.specs.declared.configuration.Query.{Query}
use Rattle.db_proxy.proofs.granting.find_query.Given as goal

abbrev pub invariant-loop-query : goal.invariant-loop-query
invariant-loop-query l = find (λ (x : Query). x.number == l.number) (drop l.query-index l.queries) ≡ find (λ (x : Query). x.number == l.number) l.queries
