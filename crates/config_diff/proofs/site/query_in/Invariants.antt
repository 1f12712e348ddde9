use Rattle.std.proofs.Common.{◌≡◌, drop}
use Rattle.config_diff.specs.Sameness.{query_in}
use Rattle.config_diff.proofs.site.query_in.Given as goal

abbrev pub invariant-loop-query : goal.invariant-loop-query
invariant-loop-query l = query_in (drop l.query-index l.queries) l.number ≡ query_in l.queries l.number
