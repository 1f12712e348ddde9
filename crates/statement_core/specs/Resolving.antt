-- The rules of query texts that speak of tables, and the statement that a text without a broken rule is.
use Rattle.std.specs.Prelude.{ℕ, ◌+◌, ◌-◌, Bool, true, false, not, ◌&&◌, ◌||◌, ◌==◌, nat_lt, nat_le, List, [], ◌∷◌, length, map, fold, position, Option, Some, None, option_map, option_and_then, is_some, is_none, Result, Ok, Err, slice_get, slice_index_or, slice_set, if◌then◌else◌, replicate}
use Rattle.std.specs.List.{list_any}
use Rattle.std.specs.Cmp.Lexicographic.{pointwise}
use Rattle.okws_base.specs.Value.{same_bytes, same_kind, kind_of}
use Rattle.okws_base.specs.declared.limit.TheConstants.{MOST_COLUMNS, MOST_CONDITIONS, MOST_PARAMETERS}
use Rattle.okws_base.specs.declared.value.Kind.{Kind}
use Rattle.okws_plan.specs.Meaning.{columns_of}
use Rattle.okws_plan.specs.declared.configuration.Column.{Column}
use Rattle.okws_plan.specs.declared.configuration.Table.{Table}
use Rattle.okws_plan.specs.declared.statement.Operand.{Operand}
use Rattle.okws_plan.specs.declared.statement.Operand.TheVariants as operand
use Rattle.okws_plan.specs.declared.statement.Condition.{Condition}
use Rattle.okws_plan.specs.declared.statement.Assignment.{Assignment}
use Rattle.okws_plan.specs.declared.statement.Selection.{Selection}
use Rattle.okws_plan.specs.declared.statement.Action.{Action}
use Rattle.okws_plan.specs.declared.statement.Action.TheVariants as action
use Rattle.okws_plan.specs.declared.statement.Statement.{Statement}
use Rattle.query_syntax.specs.RuleNumber.{rule_number}
use Rattle.query_syntax.specs.declared.error.Refusal.{Refusal}
use Rattle.query_syntax.specs.declared.error.TextRule.{TextRule}
use Rattle.query_syntax.specs.declared.error.TextRule.TheVariants as rule
use Rattle.query_syntax.specs.declared.syntax.Named.{Named}
use Rattle.query_syntax.specs.declared.syntax.Written.{Written}
use Rattle.query_syntax.specs.declared.syntax.Written.TheVariants as written
use Rattle.query_syntax.specs.declared.syntax.Given.{Given}
use Rattle.query_syntax.specs.declared.syntax.Setting.{Setting}
use Rattle.query_syntax.specs.declared.syntax.Test.{Test}
use Rattle.query_syntax.specs.declared.syntax.Form.{Form}
use Rattle.query_syntax.specs.declared.syntax.Form.TheVariants as form

-- One refusal comes before another: it stands to the left, or at the same place with the lower rule.
abbrev pub is_before : Refusal → Refusal → Bool
is_before a b = nat_lt a.at b.at || ((a.at == b.at) && nat_lt (rule_number a.rule) (rule_number b.rule))

-- The earlier of two refusals.
abbrev pub earlier_of : Refusal → Refusal → Refusal
earlier_of best found = if is_before found best then found else best

-- The earlier of what was found so far and one more.
abbrev pub earlier : Option Refusal → Refusal → Option Refusal
earlier None found = Some found
earlier (Some best) found = Some (earlier_of best found)

-- The earlier of two refusals, each of which may not be there.
abbrev pub sooner : Option Refusal → Option Refusal → Option Refusal
sooner best None = best
sooner best (Some found) = earlier best found

-- what was found while the rules are tested: the kind that each parameter met first, by its number from 1; which columns an UPDATE sets; and of all broken rules the earliest
pub record Judged : Type 0 where
  pub met : List (Option Kind)
  pub taken : List Bool
  pub fault : Option Refusal

-- A rule is broken at a place, where it is.
abbrev pub noted : Judged → Bool → ℕ → TextRule → Judged
noted j broken at found = record j { fault = if broken then earlier j.fault (record { at = at; rule = found }) else j.fault }

-- a number that one byte holds
abbrev pub short : ℕ → Option ℕ
short n = if nat_lt n 256 then Some n else None

-- The number of the table with this name.
abbrev pub table_number : List Table → List ℕ → Option ℕ
table_number tables name = option_and_then short (position (λ (t : Table). same_bytes t.name name) tables)

-- The number of the column with this name.
abbrev pub column_number : List Column → List ℕ → Option ℕ
column_number columns name = option_and_then short (position (λ (c : Column). same_bytes c.name name) columns)

-- The column with this name.
abbrev pub column_in : List Column → List ℕ → Option Column
column_in columns name = option_and_then (slice_get columns) (column_number columns name)

-- The kind of the column with this name.
abbrev pub kind_in : List Column → List ℕ → Option Kind
kind_in columns name = option_map (λ (c : Column). c.kind) (column_in columns name)

-- Rule 4: the table has no such column.
abbrev pub word_judged : List Column → Judged → Named → Judged
word_judged columns j w = noted j (is_none (column_number columns w.name)) w.at rule.NoSuchColumn

-- Rule 4 at each word of a list.
abbrev pub words_judged : List Column → Judged → List Named → Judged
words_judged columns j ws = fold (word_judged columns) j ws

-- a parameter's number is 1 to 16
abbrev pub is_numbered : ℕ → Bool
is_numbered n = nat_le 1 n && nat_le n MOST_PARAMETERS

-- A parameter met another kind before.
abbrev pub is_other : Kind → Option Kind → Bool
is_other kind None = false
is_other kind (Some first) = not (same_kind first kind)

-- a parameter's first kind stays
abbrev pub first_kind : Kind → Option Kind → Option Kind
first_kind kind None = Some kind
first_kind kind (Some first) = Some first

-- The kind that a parameter met first, if it met one.
abbrev pub kind_met : Judged → ℕ → Option Kind
kind_met j n = slice_index_or j.met (n - 1) None

-- A parameter meets a kind.
abbrev pub met_by : Judged → Kind → ℕ → Judged
met_by j kind n = record j { met = slice_set j.met (n - 1) (first_kind kind (kind_met j n)) }

-- Rule 7 where its number isn't 1 to 16, and rule 6 where it met another kind before.
abbrev pub parameter_judged : Judged → Kind → ℕ → ℕ → Judged
parameter_judged j kind at n =
    if is_numbered n then met_by (noted j (is_other kind (kind_met j n)) at rule.ParameterKind) kind n
    else noted j true at rule.ParameterGap

-- Rule 5: a literal's kind isn't the column's.
abbrev pub written_judged : Judged → Kind → ℕ → Written → Judged
written_judged j kind at (written.Literal v) = noted j (not (same_kind (kind_of v) kind)) at rule.KindMismatch
written_judged j kind at (written.Parameter n) = parameter_judged j kind at n

-- A value meets a column of this kind. Where the column isn't there, rule 4 stands to the left of the value.
abbrev pub value_judged : Judged → Option Kind → Given → Judged
value_judged j None given = j
value_judged j (Some kind) given = written_judged j kind given.at given.value

-- A condition: its column, and then its value against that column.
abbrev pub test_judged : List Column → Judged → Test → Judged
test_judged columns j test = value_judged (word_judged columns j test.column) (kind_in columns test.column.name) test.value

-- The conditions, from left to right.
abbrev pub tests_judged : List Column → Judged → List Test → Judged
tests_judged columns j tests = fold (test_judged columns) j tests

-- A column is there, and a KEY.
abbrev pub is_key : Option Column → Bool
is_key None = false
is_key (Some c) = c.key

-- A column is set already.
abbrev pub is_taken : Judged → Option ℕ → Bool
is_taken j None = false
is_taken j (Some c) = slice_index_or j.taken c false

-- A column is set.
abbrev pub taken_by : Judged → Option ℕ → Judged
taken_by j None = j
taken_by j (Some c) = record j { taken = slice_set j.taken c true }

-- Rule 8: UPDATE sets a KEY column. Rule 9: it sets a column twice.
abbrev pub target_judged : List Column → Judged → Named → Judged
target_judged columns j w =
    taken_by (noted (noted (word_judged columns j w) (is_key (column_in columns w.name)) w.at rule.KeySet) (is_taken j (column_number columns w.name)) w.at rule.ColumnTwice) (column_number columns w.name)

-- A setting: its column, and then its value against that column.
abbrev pub setting_judged : List Column → Judged → Setting → Judged
setting_judged columns j s = value_judged (target_judged columns j s.column) (kind_in columns s.column.name) s.value

-- The settings, from left to right.
abbrev pub settings_judged : List Column → Judged → List Setting → Judged
settings_judged columns j settings = fold (setting_judged columns) j settings

-- The words are the table's columns in their order.
abbrev pub are_columns : List Column → List Named → Bool
are_columns columns words = pointwise (λ (c : Column) (w : Named). same_bytes c.name w.name) columns words

-- Rule 11: the words aren't the table's columns in their order, or the values are more or fewer.
abbrev pub list_judged : List Column → Judged → ℕ → List Named → List Given → Judged
list_judged columns j at words values = noted j (not (are_columns columns words && (length values == length columns))) at rule.InsertColumns

-- The kind of the column with this number.
abbrev pub kind_at : List Column → ℕ → Option Kind
kind_at columns i = option_map (λ (c : Column). c.kind) (slice_get columns i)

-- The values of an INSERT meet the columns from number i on.
abbrev pub values_judged : List Column → ℕ → Judged → List Given → Judged
values_judged columns i j [] = j
values_judged columns i j (v ∷ more) = values_judged columns (i + 1) (value_judged j (kind_at columns i) v) more

-- Rule 4 at the column of an order.
abbrev pub order_judged : List Column → Judged → Option Named → Judged
order_judged columns j None = j
order_judged columns j (Some w) = word_judged columns j w

-- The rules that speak of the table's columns.
abbrev pub columns_judged : List Column → Judged → Form → Judged
columns_judged columns j (form.Select list table tests order limit) = order_judged columns (tests_judged columns (words_judged columns j list) tests) order
columns_judged columns j (form.Insert table at list values) = values_judged columns 0 (words_judged columns (list_judged columns j at list values) list) values
columns_judged columns j (form.Update table settings tests) = tests_judged columns (settings_judged columns j settings) tests
columns_judged columns j (form.Delete table tests) = tests_judged columns j tests

-- Rule 10 at a place.
abbrev pub too_many : ℕ → Refusal
too_many at = record { at = at; rule = rule.TooManyParts }

-- Rule 10: a 17th item of a SELECT list.
abbrev pub list_excess : List Named → Option Refusal
list_excess list = option_map (λ (w : Named). too_many w.at) (slice_get list MOST_COLUMNS)

-- Rule 10: a 17th condition.
abbrev pub tests_excess : List Test → Option Refusal
tests_excess tests = option_map (λ (t : Test). too_many t.column.at) (slice_get tests MOST_CONDITIONS)

-- Rule 10 in a form, where it breaks it.
abbrev pub parts_excess : Form → Option Refusal
parts_excess (form.Select list table tests order limit) = sooner (list_excess list) (tests_excess tests)
parts_excess (form.Insert table at list values) = None
parts_excess (form.Update table settings tests) = tests_excess tests
parts_excess (form.Delete table tests) = tests_excess tests

-- A broken rule beside what was found so far, where there is one.
abbrev pub besides : Judged → Option Refusal → Judged
besides j found = record j { fault = sooner j.fault found }

-- Rule 10 beside what was found so far.
abbrev pub parts_judged : Judged → Form → Judged
parts_judged j form = besides j (parts_excess form)

-- The word in the place of the table.
abbrev pub table_word : Form → Named
table_word (form.Select list table tests order limit) = table
table_word (form.Insert table at list values) = table
table_word (form.Update table settings tests) = table
table_word (form.Delete table tests) = table

-- Before anything was found.
abbrev pub nothing_found : ℕ → Judged
nothing_found n = record { met = replicate MOST_PARAMETERS None; taken = replicate n false; fault = None }

-- a number below the greatest doesn't stand in the text
abbrev pub has_gap : List (Option Kind) → Bool
has_gap [] = false
has_gap (None ∷ more) = list_any is_some more
has_gap (Some kind ∷ more) = has_gap more

-- The kinds of the parameters 1 to m.
abbrev pub parameters : List (Option Kind) → List Kind
parameters [] = []
parameters (None ∷ more) = []
parameters (Some kind ∷ more) = kind ∷ parameters more

-- A number, or 0 where there is none, as in no statement without a broken rule.
abbrev pub or_zero : Option ℕ → ℕ
or_zero None = 0
or_zero (Some n) = n

-- The number of the column that a word names.
abbrev pub number : List Column → Named → ℕ
number columns w = or_zero (column_number columns w.name)

-- A value of a statement.
abbrev pub operand_of : Written → Operand
operand_of (written.Literal v) = operand.Literal v
operand_of (written.Parameter n) = operand.Parameter (or_zero (short n))

-- A condition, with its column by number.
abbrev pub condition_of : List Column → Test → Condition
condition_of columns test = record { column = number columns test.column; comparison = test.comparison; operand = operand_of test.value.value }

-- A setting, with its column by number.
abbrev pub assignment_of : List Column → Setting → Assignment
assignment_of columns s = record { column = number columns s.column; operand = operand_of s.value.value }

-- What a SELECT does, with columns by number.
abbrev pub selection_of : List Column → List Named → List Test → Option Named → Option ℕ → Selection
selection_of columns list tests order limit =
    record { join = None; columns = map (number columns) list; conditions = map (condition_of columns) tests; order = option_map (number columns) order; limit = limit }

-- What a form does, with columns by number.
abbrev pub action_of : List Column → Form → Action
action_of columns (form.Select list table tests order limit) =
    action.Select (selection_of columns list tests order limit)
action_of columns (form.Insert table at list values) = action.Insert (map (λ (g : Given). operand_of g.value) values)
action_of columns (form.Update table settings tests) = action.Update (map (assignment_of columns) settings) (map (condition_of columns) tests)
action_of columns (form.Delete table tests) = action.Delete (map (condition_of columns) tests)

-- The earliest broken rule; a gap in the parameters comes last, at the text's end.
abbrev pub fault_of : ℕ → Judged → Option Refusal
fault_of end j = if is_none j.fault && has_gap j.met then Some (record { at = end; rule = rule.ParameterGap }) else j.fault

-- What is given where no rule is broken.
abbrev pub unless : {A : Type 0} → Option Refusal → A → Result A Refusal
unless None a = Ok a
unless (Some found) a = Err found

-- All rules are tested on a form whose table has these columns.
unfoldable pub judged_on : List Column → Form → Judged
judged_on columns form = parts_judged (columns_judged columns (nothing_found (length columns)) form) form

-- The statement of a form: its table, the kinds of its parameters, and what it does.
abbrev pub statement_of : List Column → ℕ → Form → Judged → Statement
statement_of columns t form j = record { table = t; parameters = parameters j.met; action = action_of columns form }

-- What a form is on table t, whose columns these are: the statement, or the earliest broken rule.
unfoldable pub on_table : ℕ → List Column → ℕ → Form → Result Statement Refusal
on_table end columns t form = unless (fault_of end (judged_on columns form)) (statement_of columns t form (judged_on columns form))

-- A refusal, or the one that comes before it.
abbrev pub or_sooner : Refusal → Option Refusal → Refusal
or_sooner best None = best
or_sooner best (Some found) = earlier_of best found

-- Rule 3: the table isn't declared. Then no rule of its columns can be tested, and of those to the left of its word rule 10 is left.
abbrev pub undeclared : Form → Refusal
undeclared form = or_sooner (record { at = (table_word form).at; rule = rule.NoSuchTable }) (parts_excess form)

-- What a form is where its table has this number, or none.
abbrev pub resolved_at : List Table → ℕ → Form → Option ℕ → Result Statement Refusal
resolved_at tables end form None = Err (undeclared form)
resolved_at tables end form (Some t) = on_table end (columns_of tables t) t form
