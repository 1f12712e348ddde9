-- Which rule a declaration breaks. The tests stand in the order of the rules, and each presupposes that no lower rule is broken.
use Rattle.std.specs.Prelude.{ℕ, Bool, false, ◌&&◌, ◌||◌, ◌==◌, not, nat_lt, nat_le, if◌then◌else◌, List, [], ◌∷◌, ◌++◌, length, map, Option, Some, None, is_some, is_none, codes, unwrap_or}
use Rattle.std.specs.List.{list_any, list_all}
use Rattle.okws_base.specs.Names.{is_name, is_identifier, is_path}
use Rattle.okws_base.specs.Value.{same_bytes}
use Rattle.okws_base.specs.declared.limit.TheConstants.{GREATEST_QUERY, GREATEST_RETRY, MOST_PROXIES, MOST_SERVICES, MOST_TEMPLATES, MOST_TABLES, MOST_COLUMNS, MOST_QUERIES}
use Rattle.okws_base.specs.declared.value.Kind.{Kind}
use Rattle.okws_base.specs.declared.value.Value.{Value}
use Rattle.okws_plan.specs.Configuration.{logs, reads}
use Rattle.okws_plan.specs.Fits.{fits}
use Rattle.okws_plan.specs.Meaning.{is_taken}
use Rattle.okws_plan.specs.declared.configuration.Config.{Config}
use Rattle.okws_plan.specs.declared.configuration.Column.{Column}
use Rattle.okws_plan.specs.declared.configuration.Granted.{Granted}
use Rattle.okws_plan.specs.declared.configuration.Owned.{Owned}
use Rattle.okws_plan.specs.declared.configuration.Table.{Table}
use Rattle.std.specs.Result.{result_ok}
use Rattle.okws_plan.specs.declared.statement.Statement.{Statement}
use Rattle.plain_text.specs.Decimals.{decimal_value}
use Rattle.statement_core.specs.Compiled.{compiled}
use Rattle.config_reader.specs.Above.{Above, proxy_number, service_number, template_number, table_number, tables_at, queries_at, table_at, has_query}
use Rattle.config_syntax.specs.Columns.{is_kind, repeats, key_count}
use Rattle.config_syntax.specs.Declarations.{Declaration, Proxy, Table as TableLine, Row, Query as QueryLine, Service, Retry, Uri, Grant, Template, Read, Log, ColumnWords}
use Rattle.config_syntax.specs.Literals.{literals}
use Rattle.config_syntax.specs.Words.{is_number_to}
use Rattle.config_reader.specs.declared.error.ConfigRule.{ConfigRule}
use Rattle.config_reader.specs.declared.error.ConfigRule.TheVariants as rule

-- A word in the place of the names of a `table` isn't one.
unfoldable pub has_bad_table_name : List ℕ → List ℕ → List ColumnWords → Bool
has_bad_table_name p t columns = not (is_name p) || (not (is_identifier t) || not (list_all (λ (c : ColumnWords). is_identifier c.name) columns))

-- A word in the place of the names of a `row` isn't one.
unfoldable pub has_bad_row_name : List ℕ → List ℕ → Bool
has_bad_row_name p t = not (is_name p) || not (is_identifier t)

-- Rule 6: a word in the place of a name or an identifier isn't one.
abbrev pub has_bad_name : Declaration → Bool
has_bad_name (Proxy n) = not (is_name n)
has_bad_name (TableLine p t columns) = has_bad_table_name p t columns
has_bad_name (Row p t text) = has_bad_row_name p t
has_bad_name (QueryLine p number text) = not (is_name p)
has_bad_name (Service n words) = not (is_name n)
has_bad_name (Retry number) = false
has_bad_name (Uri path s) = not (is_name s)
has_bad_name (Grant s p numbers) = not (is_name s) || not (is_name p)
has_bad_name (Template n) = not (is_name n)
has_bad_name (Read s t) = not (is_name s) || not (is_name t)
has_bad_name (Log s) = not (is_name s)

-- Rule 7: a word in the place of a number isn't one, or is too great.
abbrev pub has_bad_number : Declaration → Bool
has_bad_number (QueryLine p number text) = not (is_number_to GREATEST_QUERY number)
has_bad_number (Retry number) = not (is_number_to GREATEST_RETRY number)
has_bad_number (Grant s p numbers) = not (list_all (is_number_to GREATEST_QUERY) numbers)
has_bad_number _ = false

-- Rule 8: a word in the place of a TYPE is none.
abbrev pub has_bad_kind : Declaration → Bool
has_bad_kind (TableLine p t columns) = not (list_all (λ (c : ColumnWords). is_kind c.kind) columns)
has_bad_kind _ = false

-- Rule 9: a word in the place of a path isn't one.
abbrev pub has_bad_path : Declaration → Bool
has_bad_path (Uri path s) = not (is_path path)
has_bad_path _ = false

-- Rule 10: the rest of a `row` isn't a list of literals.
abbrev pub has_bad_literal : Declaration → Bool
has_bad_literal (Row p t text) = is_none (literals text)
has_bad_literal _ = false

-- Rule 11: a name, the table of a `row` or a granted query isn't declared above.
abbrev pub is_undeclared : Config → Declaration → Bool
is_undeclared C (TableLine p t columns) = is_none (proxy_number C p)
is_undeclared C (Row p t text) = is_none (proxy_number C p) || is_none (table_number (tables_at C p) t)
is_undeclared C (QueryLine p number text) = is_none (proxy_number C p)
is_undeclared C (Uri path s) = is_none (service_number C s)
is_undeclared C (Grant s p numbers) =
    is_none (service_number C s) || (is_none (proxy_number C p) || not (list_all (has_query (queries_at C p)) (map decimal_value numbers)))
is_undeclared C (Read s t) = is_none (service_number C s) || is_none (template_number C t)
is_undeclared C (Log s) = is_none (service_number C s)
is_undeclared C _ = false

-- The names of the server's own parts, which no proxy may have.
abbrev pub is_reserved : List ℕ → Bool
is_reserved n = same_bytes n (codes "okd") || (same_bytes n (codes "pubd") || same_bytes n (codes "oklogd"))

-- The grant of query q at p to s is there.
abbrev pub has_grant : List Granted → ℕ → ℕ → ℕ → Bool
has_grant grants s p q = list_any (λ (g : Granted). (g.service == s) && ((g.proxy == p) && (g.query == q))) grants

-- One of the grants of s at p stands above, or twice in the line.
abbrev pub regrants : List Granted → ℕ → ℕ → List ℕ → Bool
regrants grants s p [] = false
regrants grants s p (q ∷ more) = has_grant grants s p q || regrants (grants ++ record { service = s; proxy = p; query = q } ∷ []) s p more

-- a number that was looked up, where rule 11 isn't broken
abbrev pub found : Option ℕ → ℕ
found place = unwrap_or place 0

-- The proxy has such a table, or two of the columns have one name.
unfoldable pub takes_table : Config → List ℕ → List ℕ → List ColumnWords → Bool
takes_table C p t columns = is_some (table_number (tables_at C p) t) || repeats columns

-- The proxy has a query with this number.
unfoldable pub takes_query : Config → List ℕ → ℕ → Bool
takes_query C p number = has_query (queries_at C p) number

-- Rule 12: a name of its kind, a table of its proxy, a column of its table, a query number of its proxy, a path, a grant, a `read` pair, a `log` or a `retry` stands above or twice in the line.
abbrev pub is_taken_above : Above → Declaration → Bool
is_taken_above above (Proxy n) = is_reserved n || is_some (proxy_number above.config n)
is_taken_above above (TableLine p t columns) = takes_table above.config p t columns
is_taken_above above (Row p t text) = false
is_taken_above above (QueryLine p number text) = takes_query above.config p (decimal_value number)
is_taken_above above (Service n words) = is_some (service_number above.config n)
is_taken_above above (Retry number) = above.has_retry
is_taken_above above (Uri path s) = list_any (λ (o : Owned). same_bytes o.path path) above.config.paths
is_taken_above above (Grant s p numbers) = regrants above.config.grants (found (service_number above.config s)) (found (proxy_number above.config p)) (map decimal_value numbers)
is_taken_above above (Template n) = is_some (template_number above.config n)
is_taken_above above (Read s t) = reads above.config (found (service_number above.config s)) (found (template_number above.config t))
is_taken_above above (Log s) = logs above.config (found (service_number above.config s))

-- Rule 13: KEY stands at two columns.
abbrev pub marks_two : Declaration → Bool
marks_two (TableLine p t columns) = nat_lt 1 (key_count columns)
marks_two _ = false

-- The kinds of columns.
abbrev pub kinds_of : List Column → List Kind
kinds_of columns = map (λ (c : Column). c.kind) columns

-- The values fit the columns of a table in count and kinds, and their KEY value is free.
abbrev pub is_row_of : Table → List Value → Bool
is_row_of table values = fits (kinds_of table.columns) values && not (is_taken table.columns table.first values)

-- The same of a table that may not be there.
abbrev pub is_row_in : Option Table → List Value → Bool
is_row_in None values = false
is_row_in (Some table) values = is_row_of table values

-- The table of the proxy can hold the values as a row.
unfoldable pub can_hold : Config → List ℕ → List ℕ → List Value → Bool
can_hold C p t values = is_row_in (table_at C p t) values

-- The values of a `row`.
abbrev pub row_values : List ℕ → List Value
row_values text = unwrap_or (literals text) []

-- Rule 14: the values don't fit the columns in count or kinds, or the KEY value is taken.
abbrev pub mismatches : Config → Declaration → Bool
mismatches C (Row p t text) = not (can_hold C p t (row_values text))
mismatches C _ = false

-- What the text of a query compiles to over the tables of its proxy that are declared above.
unfoldable pub statement_at : Config → List ℕ → List ℕ → Option Statement
statement_at C p text = result_ok (compiled (tables_at C p) text)

-- Rule 15: the text of a query doesn't compile.
abbrev pub is_refused : Config → Declaration → Bool
is_refused C (QueryLine p number text) = is_none (statement_at C p text)
is_refused C _ = false

-- The proxy has as many tables as it may, or the columns are too many.
unfoldable pub has_too_many_tables : Config → List ℕ → List ColumnWords → Bool
has_too_many_tables C p columns = not (nat_lt (length (tables_at C p)) MOST_TABLES) || not (nat_le (length columns) MOST_COLUMNS)

-- The proxy has as many queries as it may.
unfoldable pub has_too_many_queries : Config → List ℕ → Bool
has_too_many_queries C p = not (nat_lt (length (queries_at C p)) MOST_QUERIES)

-- Rule 16: a limit is passed.
abbrev pub is_too_many : Config → Declaration → Bool
is_too_many C (Proxy n) = not (nat_lt (length C.proxies) MOST_PROXIES)
is_too_many C (TableLine p t columns) = has_too_many_tables C p columns
is_too_many C (QueryLine p number text) = has_too_many_queries C p
is_too_many C (Service n words) = not (nat_lt (length C.services) MOST_SERVICES)
is_too_many C (Template n) = not (nat_lt (length C.templates) MOST_TEMPLATES)
is_too_many C _ = false

-- The lowest of the rules 6 to 16 that a declaration breaks below these lines.
abbrev pub broken : Above → Declaration → Option ConfigRule
broken above d =
    if has_bad_name d then Some rule.BadName
    else if has_bad_number d then Some rule.BadNumber
    else if has_bad_kind d then Some rule.BadKind
    else if has_bad_path d then Some rule.BadPath
    else if has_bad_literal d then Some rule.BadLiteral
    else if is_undeclared above.config d then Some rule.Undeclared
    else if is_taken_above above d then Some rule.Taken
    else if marks_two d then Some rule.TwoKeys
    else if mismatches above.config d then Some rule.RowMismatch
    else if is_refused above.config d then Some rule.QueryRefused
    else if is_too_many above.config d then Some rule.TooMany
    else None
