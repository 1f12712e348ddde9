-- The rules of a SELECT from two tables, and the statement that a query without a broken rule is.
use Rattle.std.specs.Prelude.{ℕ, Bool, true, false, not, ◌&&◌, ◌||◌, ◌==◌, List, [], ◌∷◌, ◌++◌, length, map, fold, Option, Some, None, option_map, is_none, Result, Err, slice_get, if◌then◌else◌}
use Rattle.okws_base.specs.Value.{same_bytes, same_kind}
use Rattle.okws_base.specs.declared.limit.TheConstants.{MOST_COLUMNS, MOST_CONDITIONS}
use Rattle.okws_base.specs.declared.value.Kind.{Kind}
use Rattle.okws_plan.specs.Meaning.{columns_of}
use Rattle.okws_plan.specs.Rules.{are_apart}
use Rattle.okws_plan.specs.declared.configuration.Column.{Column}
use Rattle.okws_plan.specs.declared.configuration.Table.{Table}
use Rattle.okws_plan.specs.declared.statement.Selection.{Selection}
use Rattle.okws_plan.specs.declared.statement.Action.TheVariants as action
use Rattle.okws_plan.specs.declared.statement.Statement.{Statement}
use Rattle.query_syntax.specs.declared.error.Refusal.{Refusal}
use Rattle.query_syntax.specs.declared.error.TextRule.TheVariants as rule
use Rattle.query_syntax.specs.declared.syntax.Named.{Named}
use Rattle.query_syntax.specs.declared.syntax.Test.{Test}
use Rattle.query_syntax.specs.declared.syntax.Form.{Form}
use Rattle.query_syntax.specs.declared.syntax.Form.TheVariants as form
use Rattle.query_syntax.specs.declared.syntax.Qualified.{Qualified}
use Rattle.query_syntax.specs.declared.syntax.JoinTest.{JoinTest}
use Rattle.query_syntax.specs.declared.syntax.Joined.{Joined}
use Rattle.query_syntax.specs.declared.syntax.JoinSelect.{JoinSelect}
use Rattle.query_syntax.specs.declared.syntax.Query.{Query}
use Rattle.query_syntax.specs.declared.syntax.Query.TheVariants as query
use Rattle.statement_core.specs.declared.join_words.JoinWords.{JoinWords}
use Rattle.statement_core.specs.Resolving.{Judged, noted, sooner, or_sooner, column_number, kind_in, word_judged, columns_judged, too_many, besides, nothing_found, parameters, number, condition_of, fault_of, unless, table_number, table_word, resolved_at}

-- A column's name behind that of its table, with a `.` between them.
abbrev pub qualified_name : List ℕ → List ℕ → List ℕ
qualified_name table column = table ++ 46 ∷ column

-- Bytes are a `.` and this name.
abbrev pub is_dotted : List ℕ → List ℕ → Bool
is_dotted column [] = false
is_dotted column (b ∷ rest) = b == 46 && same_bytes column rest

-- The columns of a table, each by its qualified name.
abbrev pub qualified_columns : List ℕ → List Column → List Column
qualified_columns table columns = map (λ (c : Column). record c { name = qualified_name table c.name }) columns

-- The columns of joined rows, by qualified names: those of one table, and behind them those of another.
abbrev pub joined_columns : List ℕ → List Column → List ℕ → List Column → List Column
joined_columns table columns second others = qualified_columns table columns ++ qualified_columns second others

-- The columns that a statement's words may name: those of one table by their names, or those of joined rows.
abbrev pub scope_columns : Bool → List ℕ → List Column → List ℕ → List Column → List Column
scope_columns false table columns second others = columns
scope_columns true table columns second others = joined_columns table columns second others

-- A qualified column as one word, at the place of the column's own.
abbrev pub joined_word : Qualified → Named
joined_word q = record { at = q.column.at; name = qualified_name q.table.name q.column.name }

-- A condition on joined rows, with its column as one word.
abbrev pub joined_test : JoinTest → Test
joined_test t = record { column = joined_word t.column; comparison = t.comparison; value = t.value }

-- A SELECT from two tables as one from joined rows.
abbrev pub joined_select : JoinSelect → Form
joined_select j = form.Select (map joined_word j.columns) j.joined.table (map joined_test j.tests) (option_map joined_word j.order) j.limit

-- Rule 3: a column's table is neither of the two.
abbrev pub is_neither : Joined → Qualified → Bool
is_neither joined q = not (same_bytes joined.table.name q.table.name || same_bytes joined.second.name q.table.name)

-- Rule 3 at the word of a column's table.
abbrev pub qualifier_judged : Joined → Judged → Qualified → Judged
qualifier_judged joined j q = noted j (is_neither joined q) q.table.at rule.NoSuchTable

-- Rule 3 at the table of a column that orders.
abbrev pub order_qualifier_judged : Joined → Judged → Option Qualified → Judged
order_qualifier_judged joined j None = j
order_qualifier_judged joined j (Some q) = qualifier_judged joined j q

-- Rule 3 at the tables of listed columns.
abbrev pub list_qualifiers_judged : Joined → Judged → List Qualified → Judged
list_qualifiers_judged joined j list = fold (qualifier_judged joined) j list

-- Rule 3 at the tables of the columns of conditions.
abbrev pub test_qualifiers_judged : Joined → Judged → List JoinTest → Judged
test_qualifiers_judged joined j tests = fold (λ (j : Judged) (t : JoinTest). qualifier_judged joined j t.column) j tests

-- Rule 3 at the tables of all columns.
abbrev pub qualifiers_judged : JoinSelect → Judged → Judged
qualifiers_judged s j =
    order_qualifier_judged s.joined (test_qualifiers_judged s.joined
    (qualifier_judged s.joined (qualifier_judged s.joined (list_qualifiers_judged s.joined j s.columns) s.joined.left) s.joined.right) s.tests) s.order

-- Two columns are there, and of different kinds.
abbrev pub kinds_differ : Option Kind → Option Kind → Bool
kinds_differ None other = false
kinds_differ (Some kind) None = false
kinds_differ (Some kind) (Some other) = not (same_kind kind other)

-- Two columns are there, and of one table, where the first table has n columns.
abbrev pub are_together : ℕ → Option ℕ → Option ℕ → Bool
are_together n None other = false
are_together n (Some left) None = false
are_together n (Some left) (Some right) = not (are_apart n left right)

-- Rule 12: the columns of ON are of different kinds. Rule 14: they are of one table. Rule 4 at each of them.
abbrev pub on_judged : ℕ → List Column → Judged → Joined → Judged
on_judged n columns j joined =
    noted (noted (word_judged columns (word_judged columns j (joined_word joined.left)) (joined_word joined.right))
    (kinds_differ (kind_in columns (joined_word joined.left).name) (kind_in columns (joined_word joined.right).name)) joined.right.table.at rule.JoinKinds)
    (are_together n (column_number columns (joined_word joined.left).name) (column_number columns (joined_word joined.right).name)) joined.right.table.at rule.JoinSides

-- Rule 10 in a SELECT from two tables, where it breaks it.
abbrev pub join_excess : JoinSelect → Option Refusal
join_excess s =
    sooner (option_map (λ (q : Qualified). too_many q.table.at) (slice_get s.columns MOST_COLUMNS)) (option_map (λ (t : JoinTest). too_many t.column.table.at) (slice_get s.tests MOST_CONDITIONS))

-- The rules that joined rows have beside those of a SELECT. Rule 13: both tables are one.
abbrev pub pair_judged : ℕ → Bool → List Column → Judged → JoinSelect → Judged
pair_judged n is_one columns j s = qualifiers_judged s (noted (on_judged n columns j s.joined) is_one s.joined.second.at rule.SelfJoin)

-- Rule 10 of a SELECT from two tables beside what was found so far.
abbrev pub join_parts_judged : Judged → JoinSelect → Judged
join_parts_judged j s = besides j (join_excess s)

-- All rules are tested on a SELECT from two tables. The first has n columns; joined rows have these; and both tables may be one.
unfoldable pub join_judged_on : ℕ → Bool → List Column → JoinSelect → Judged
join_judged_on n is_one columns s = join_parts_judged (pair_judged n is_one columns (columns_judged columns (nothing_found (length columns)) (joined_select s)) s) s

-- The words of a SELECT from two tables, each qualified column as one.
abbrev pub words_of : JoinSelect → JoinWords
words_of s =
    record { list = map joined_word s.columns; tests = map joined_test s.tests; order = option_map joined_word s.order; left = joined_word s.joined.left; right = joined_word s.joined.right }

-- What these words select of joined rows, where the second table has number u, with columns by number.
abbrev pub selection_of_words : List Column → ℕ → Option ℕ → JoinWords → Selection
selection_of_words columns u limit words =
    record {
      join = Some (record { table = u; left = number columns words.left; right = number columns words.right });
      columns = map (number columns) words.list;
      conditions = map (condition_of columns) words.tests;
      order = option_map (number columns) words.order;
      limit = limit;
    }

-- The selection of a SELECT from two tables, of which the second has number u.
abbrev pub join_selection_of : List Column → ℕ → JoinSelect → Selection
join_selection_of columns u s = selection_of_words columns u s.limit (words_of s)

-- The statement of a SELECT from table t and table u.
abbrev pub join_statement_of : List Column → ℕ → ℕ → JoinSelect → Judged → Statement
join_statement_of columns t u s j = record { table = t; parameters = parameters j.met; action = action.Select (join_selection_of columns u s) }

-- What a SELECT from tables t and u is, where t has n columns and joined rows have these: the statement, or the earliest broken rule.
unfoldable pub on_tables : ℕ → ℕ → List Column → ℕ → ℕ → JoinSelect → Result Statement Refusal
on_tables end n columns t u s = unless (fault_of end (join_judged_on n (t == u) columns s)) (join_statement_of columns t u s (join_judged_on n (t == u) columns s))

-- A table that may not be declared has no such column; where it isn't declared, no rule of its columns can be tested.
abbrev pub lacks_column : List Table → Option ℕ → List ℕ → Bool
lacks_column tables None name = false
lacks_column tables (Some t) name = is_none (column_number (columns_of tables t) name)

-- What a listed column breaks where one of the tables isn't declared: rule 3 at the word of a table that is neither; rule 4 where its table is declared and has no such column.
abbrev pub listed_fault : List Table → Joined → Qualified → Option Refusal
listed_fault tables joined q =
    if is_neither joined q then Some (record { at = q.table.at; rule = rule.NoSuchTable })
    else if lacks_column tables (table_number tables q.table.name) q.column.name then Some (record { at = q.column.at; rule = rule.NoSuchColumn })
    else None

-- The word of the first of two tables that isn't declared.
abbrev pub missing_word : Joined → Option ℕ → Named
missing_word joined None = joined.table
missing_word joined (Some t) = joined.second

-- The earliest of what listed columns break, and of what was found before.
abbrev pub sooner_of_list : List Table → Joined → Refusal → List Qualified → Refusal
sooner_of_list tables joined best list = fold (λ (best : Refusal) (q : Qualified). or_sooner best (listed_fault tables joined q)) best list

-- Rule 3: one of the tables isn't declared. Of the rules to the left of its word, those of the listed columns and rule 10 are left. The first table has this number, or none.
abbrev pub join_undeclared : List Table → Option ℕ → JoinSelect → Refusal
join_undeclared tables t s =
    or_sooner (sooner_of_list tables s.joined (record { at = (missing_word s.joined t).at; rule = rule.NoSuchTable }) s.columns) (join_excess s)

-- What a SELECT from two tables is, which have these numbers, or none.
abbrev pub join_resolved_at : List Table → ℕ → JoinSelect → Option ℕ → Option ℕ → Result Statement Refusal
join_resolved_at tables end s None u = Err (join_undeclared tables None s)
join_resolved_at tables end s (Some t) None = Err (join_undeclared tables (Some t) s)
join_resolved_at tables end s (Some t) (Some u) =
    on_tables end (length (columns_of tables t)) (joined_columns s.joined.table.name (columns_of tables t) s.joined.second.name (columns_of tables u)) t u s

-- The statement that a query is, or the earliest rule that it breaks.
abbrev pub resolved : List Table → ℕ → Query → Result Statement Refusal
resolved tables end (query.One form) = resolved_at tables end form (table_number tables (table_word form).name)
resolved tables end (query.Two s) = join_resolved_at tables end s (table_number tables s.joined.table.name) (table_number tables s.joined.second.name)
