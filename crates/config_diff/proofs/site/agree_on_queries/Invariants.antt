use Rattle.std.proofs.Common.{◌≡◌, drop}
use Rattle.config_diff.specs.Sameness.{agree_on_queries}
use Rattle.config_diff.proofs.site.agree_on_queries.Given as goal

abbrev pub invariant-loop-query : goal.invariant-loop-query
invariant-loop-query l = agree_on_queries (drop l.query-index l.numbered) l.a l.b ≡ agree_on_queries l.numbered l.a l.b
