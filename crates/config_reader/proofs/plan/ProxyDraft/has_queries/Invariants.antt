use Rattle.std.proofs.Common.{◌≡◌, drop}
use Rattle.std.specs.List.{list_all}
use Rattle.config_reader.specs.Above.{has_query}
use Rattle.config_reader.proofs.plan.ProxyDraft.has_queries.Given as goal

abbrev pub invariant-loop-number : goal.invariant-loop-number
invariant-loop-number l = list_all (has_query l.self.queries) (drop l.number-index l.numbers) ≡ list_all (has_query l.self.queries) l.numbers
