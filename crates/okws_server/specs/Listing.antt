-- What `check` prints of a configuration.
use Rattle.std.specs.Prelude.{ℕ, List, [], ◌∷◌, ◌++◌, fold, flat_map, decimal, nat_lt, insert}
use Rattle.std.specs.List.{position_or_len}
use Rattle.okws_plan.specs.declared.configuration.Config.{Config}
use Rattle.okws_plan.specs.declared.configuration.ProxyPlan.{ProxyPlan}
use Rattle.okws_plan.specs.declared.configuration.Query.{Query}
use Rattle.statement_core.specs.Canonical.{canonical}

-- The first query whose number is above this one, or the end.
abbrev pub place_of_number : List Query → ℕ → ℕ
place_of_number sorted number = position_or_len (λ (other : Query). nat_lt number other.number) sorted

-- The query is put behind those of lower numbers.
abbrev pub put_by_number : List Query → Query → List Query
put_by_number sorted query = insert sorted (place_of_number sorted query.number) query

-- The queries in the order of their numbers.
abbrev pub by_number : List Query → List Query
by_number queries = fold put_by_number [] queries

-- `PROXY NUMBER TEXT` and LF, the text canonical.
abbrev pub query_line : ProxyPlan → Query → List ℕ
query_line plan query = plan.name ++ 32 ∷ [] ++ decimal query.number ++ 32 ∷ [] ++ canonical plan.tables query.statement ++ 10 ∷ []

-- The lines of a proxy's queries, by their numbers.
abbrev pub proxy_listing : ProxyPlan → List ℕ
proxy_listing plan = flat_map (query_line plan) (by_number plan.queries)

-- A line for each query, by proxies in the order of their declaration.
abbrev pub listing : Config → List ℕ
listing C = flat_map proxy_listing C.proxies
