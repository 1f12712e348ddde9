-- What a lawful declaration adds.
use Rattle.std.specs.Prelude.{ℕ, true, List, [], ◌∷◌, ◌++◌, map, Option, Some, None, option_map, slice_get, slice_set, Result, Ok, Err}
use Rattle.okws_base.specs.declared.value.Value.{Value}
use Rattle.okws_plan.specs.declared.configuration.Granted.{Granted}
use Rattle.okws_plan.specs.declared.configuration.ProxyPlan.{ProxyPlan}
use Rattle.okws_plan.specs.declared.configuration.Table.{Table}
use Rattle.okws_plan.specs.declared.statement.Statement.{Statement}
use Rattle.plain_text.specs.Decimals.{decimal_value}
use Rattle.config_reader.specs.Above.{Above, proxy_number, service_number, template_number, table_number}
use Rattle.config_reader.specs.Broken.{broken, found, row_values, statement_at}
use Rattle.config_syntax.specs.Columns.{column_of}
use Rattle.config_syntax.specs.Declarations.{Declaration, Proxy, Table as TableLine, Row, Query as QueryLine, Service, Retry, Uri, Grant, Template, Read, Log, ColumnWords}
use Rattle.config_reader.specs.declared.error.ConfigRule.{ConfigRule}
use Rattle.config_reader.specs.declared.error.ConfigRule.TheVariants as rule

-- A table without rows.
abbrev pub table_of : List ℕ → List ColumnWords → Table
table_of name columns = record { name = name; columns = map column_of columns; first = [] }

-- The list with an item, if there is one, in the place of another.
abbrev pub put_if : {A : Type 0} → List A → ℕ → Option A → List A
put_if items i None = items
put_if items i (Some a) = slice_set items i a

-- The item at a place, changed.
abbrev pub changed_at : {A : Type 0} → Option ℕ → (A → A) → List A → List A
changed_at None change items = items
changed_at (Some i) change items = put_if items i (option_map change (slice_get items i))

-- The proxy with this name, changed.
unfoldable pub with_plan : Above → List ℕ → (ProxyPlan → ProxyPlan) → Above
with_plan above proxy change = record above { config = record above.config { proxies = changed_at (proxy_number above.config proxy) change above.config.proxies } }

-- A proxy with one table more.
abbrev pub with_table : Table → ProxyPlan → ProxyPlan
with_table table plan = record plan { tables = plan.tables ++ table ∷ [] }

-- A table with one first row more.
abbrev pub with_row : List Value → Table → Table
with_row row table = record table { first = table.first ++ row ∷ [] }

-- A proxy with one first row more in the table with this name.
abbrev pub with_row_in : List ℕ → List Value → ProxyPlan → ProxyPlan
with_row_in table row plan = record plan { tables = changed_at (table_number plan.tables table) (with_row row) plan.tables }

-- A proxy with one query more, where its text compiles.
abbrev pub with_query : ℕ → Option Statement → ProxyPlan → ProxyPlan
with_query number None plan = plan
with_query number (Some st) plan = record plan { queries = plan.queries ++ record { number = number; statement = st } ∷ [] }

-- The grants of queries, one for each number.
abbrev pub granted_of : ℕ → ℕ → List ℕ → List Granted
granted_of s p numbers = map (λ (q : ℕ). record { service = s; proxy = p; query = q }) numbers

-- What the lines declare where a lawful declaration follows them.
abbrev pub after : Above → Declaration → Above
after above (Proxy n) =
    record above { config = record above.config { proxies = above.config.proxies ++ record { name = n; tables = []; queries = [] } ∷ [] } }
after above (TableLine p t columns) = with_plan above p (with_table (table_of t columns))
after above (Row p t text) = with_plan above p (with_row_in t (row_values text))
after above (QueryLine p number text) = with_plan above p (with_query (decimal_value number) (statement_at above.config p text))
after above (Service n words) =
    record above { config = record above.config { services = above.config.services ++ record { name = n; words = words } ∷ [] } }
after above (Retry number) = record { config = record above.config { retry = decimal_value number }; has_retry = true }
after above (Uri path s) =
    record above { config = record above.config { paths = above.config.paths ++ record { path = path; service = found (service_number above.config s) } ∷ [] } }
after above (Grant s p numbers) =
    record above {
      config = record above.config {
        grants = above.config.grants
            ++ granted_of (found (service_number above.config s)) (found (proxy_number above.config p)) (map decimal_value numbers);
      };
    }
after above (Template n) = record above { config = record above.config { templates = above.config.templates ++ n ∷ [] } }
after above (Read s t) =
    record above {
      config = record above.config {
        readables = above.config.readables
            ++ record { service = found (service_number above.config s); template = found (template_number above.config t) } ∷ [];
      };
    }
after above (Log s) = record above { config = record above.config { loggers = above.config.loggers ++ found (service_number above.config s) ∷ [] } }

-- What follows from the rule that a declaration breaks, if it breaks one.
abbrev pub after_if : Above → Declaration → Option ConfigRule → Result Above ConfigRule
after_if above d None = Ok (after above d)
after_if above d (Some rule) = Err rule

-- What the lines declare with this declaration behind them, or the lowest rule that it breaks.
unfoldable pub declared : Above → Declaration → Result Above ConfigRule
declared above d = after_if above d (broken above d)

-- The same of what may be no declaration: then there are too few or too many words.
abbrev pub declared_if : Above → Option Declaration → Result Above ConfigRule
declared_if above None = Err rule.WordCount
declared_if above (Some d) = declared above d
