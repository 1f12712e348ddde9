-- A form that breaks no rule is compiled to a statement that keeps them.
use Rattle.std.proofs.Common.{◌≡◌, ℕ, ◌<◌, Bool, true, false, ◌&&◌, cond, List, [], ◌∷◌, ◌++◌, Option, Some, None, is_none, Result, Ok, Err, refl, sym, ap, subst, ◌∙◌, length, pos, negsuc}
use Rattle.std.specs.Prelude.{nat_le, nat_lt, if◌then◌else◌, IfOk, IsTrue}
use Rattle.std.specs.List.{list_all, position_or_len}
use Rattle.std.proofs.lemmas.Bool.{and_parts, and_from, lt-ltb, le-leb}
use Rattle.okws_base.specs.Value.{same_bytes}
use Rattle.okws_base.specs.declared.limit.TheConstants.{MOST_PARAMETERS, GREATEST_LIMIT}
use Rattle.okws_base.specs.declared.value.Kind.{Kind}
use Rattle.okws_plan.specs.Configuration.{numbered_from}
use Rattle.okws_plan.specs.Meaning.{columns_of}
use Rattle.okws_plan.specs.Rules.{action_fits, stands_in, keeps_rules, join_of, join_fits, read_columns}
use Rattle.okws_plan.specs.declared.configuration.Column.{Column}
use Rattle.okws_plan.specs.declared.configuration.Table.{Table}
use Rattle.okws_plan.specs.declared.statement.Action.{Action}
use Rattle.okws_plan.specs.declared.statement.Statement.{Statement}
use Rattle.query_syntax.specs.declared.error.CompileError.{CompileError}
use Rattle.query_syntax.specs.declared.error.Refusal.{Refusal}
use Rattle.query_syntax.specs.declared.error.TextRule.TheVariants as rule
use Rattle.query_syntax.specs.declared.syntax.Named.{Named}
use Rattle.query_syntax.specs.declared.syntax.Given.{Given}
use Rattle.query_syntax.specs.declared.syntax.Setting.{Setting}
use Rattle.query_syntax.specs.declared.syntax.Test.{Test}
use Rattle.query_syntax.specs.declared.syntax.Form.{Form}
use Rattle.query_syntax.specs.declared.syntax.Form.TheVariants as form
use Rattle.query_syntax.specs.declared.syntax.Qualified.{Qualified}
use Rattle.query_syntax.specs.declared.syntax.JoinTest.{JoinTest}
use Rattle.query_syntax.specs.declared.syntax.Joined.{Joined}
use Rattle.query_syntax.specs.declared.syntax.JoinSelect.{JoinSelect}
use Rattle.query_syntax.specs.declared.syntax.Query.{Query}
use Rattle.query_syntax.specs.declared.syntax.Query.TheVariants as query
use Rattle.okws_plan.specs.declared.statement.Join.{Join}
use Rattle.query_syntax.specs.declared.token.Placed.{Placed}
use Rattle.query_syntax.specs.Answers.{◌>>=◌, Gives}
use Rattle.query_syntax.specs.Tokens.{tokens}
use Rattle.query_syntax.specs.declared.token.Fixed.{Fixed}
use Rattle.query_syntax.specs.declared.token.Fixed.TheVariants as fixed
use Rattle.query_syntax.specs.declared.token.Token.{Token}
use Rattle.query_syntax.specs.declared.token.Token.TheVariants as token
use Rattle.okws_base.specs.declared.value.Value.TheVariants as value
use Rattle.query_syntax.specs.Grammar.{Reader, begins, rest_of, place_of, unexpected, fixed_at, name_at, value_at, given_or, limit_in, number_at, with_front, more_at, items_at, names_at, values_at, setting_at, settings_at, where_at, order_at, limit_at, select_at, qualified_at, qualifieds_at, join_where_at, join_order_at, joined_at, join_at, begins_join, query_at, insert_at, update_at, delete_at, form_at, parsed}
use Rattle.query_syntax.specs.Forms.{is_grammatical, is_allowed, has_items, may_limit}
use Rattle.statement_core.specs.Compiled.{compiled}
use Rattle.statement_core.specs.Resolving.{Judged, table_number, columns_judged, tests_excess, parts_excess, table_word, nothing_found, has_gap, parameters, action_of, fault_of, unless, judged_on, statement_of, on_table, undeclared, resolved_at}
use Rattle.statement_core.specs.Joining.{join_undeclared, join_resolved_at, resolved}
use Rattle.statement_core.proofs.JoinsKept.{tables_keep}
use Rattle.statement_core.specs.Recompiled.{CompiledKeepsRules}
use Rattle.statement_core.proofs.Keeps.{found_inside}
use Rattle.statement_core.proofs.KeepsForms.{sooner_none, FitsAll, select_keeps, insert_keeps, update_keeps, delete_keeps}

-- a form that breaks no rule

form_keeps : (columns : List Column) (f : Form) → is_grammatical f ≡ true → (judged_on columns f).fault ≡ None → has_gap (judged_on columns f).met ≡ false → FitsAll columns f (judged_on columns f).met
unfolding judged_on
form_keeps columns (form.Select cs t ts order limit) g h gap =
    let start : Judged = nothing_found (length columns) in
    let f : Form = form.Select cs t ts order limit in
    let both = and_parts (has_items cs) (may_limit limit) g in
    let parts = sooner_none (columns_judged columns start f).fault (parts_excess f) h in
    select_keeps columns cs t ts order limit both.0 both.1 parts.0 parts.1 gap
form_keeps columns (form.Insert t at ws vs) g h gap =
    let start : Judged = nothing_found (length columns) in
    insert_keeps columns t at ws vs (sooner_none (columns_judged columns start (form.Insert t at ws vs)).fault None h).0 gap
form_keeps columns (form.Update t ss ts) g h gap =
    let start : Judged = nothing_found (length columns) in
    let parts = sooner_none (columns_judged columns start (form.Update t ss ts)).fault (tests_excess ts) h in
    update_keeps columns t ss ts g parts.0 parts.1 gap
form_keeps columns (form.Delete t ts) g h gap =
    let start : Judged = nothing_found (length columns) in
    let parts = sooner_none (columns_judged columns start (form.Delete t ts)).fault (tests_excess ts) h in
    delete_keeps columns t ts parts.0 parts.1 gap

-- no fault, and no gap

no_fault : (end : ℕ) (j : Judged) → fault_of end j ≡ None → (j.fault ≡ None) × (has_gap j.met ≡ false)
no_fault end j h = by_fault j.fault refl h
  where
    by_gap : (o : Option Refusal) (gap : Bool) → o ≡ None → (if is_none o && gap then Some (record { at = end; rule = rule.ParameterGap }) else o) ≡ None → gap ≡ false
    by_gap (Some f) gap e h = absurd (let some : Some f ≡ None = e in cc)
    by_gap None true e h = absurd (let some : Some (record { at = end; rule = rule.ParameterGap }) ≡ None = h in cc)
    by_gap None false e h = refl

    by_fault : (o : Option Refusal) → j.fault ≡ o → (if is_none o && has_gap j.met then Some (record { at = end; rule = rule.ParameterGap }) else o) ≡ None → (j.fault ≡ None) × (has_gap j.met ≡ false)
    by_fault (Some f) e h = absurd (let some : Some f ≡ None = h in cc)
    by_fault None e h = (e, by_gap None (has_gap j.met) refl h)

given_unless : (o : Option Refusal) (a b : Statement) → unless o a ≡ Ok b → (o ≡ None) × (a ≡ b)
given_unless None a b h = (refl, cc)
given_unless (Some f) a b h = absurd (let none : Err f ≡ Ok b = h in cc)

no_join : (columns : List Column) (f : Form) → join_of (action_of columns f) ≡ None
no_join columns (form.Select cs t ts order limit) = refl
no_join columns (form.Insert t at ws vs) = refl
no_join columns (form.Update t ss ts) = refl
no_join columns (form.Delete t ts) = refl

kept_on : (tables : List Table) (t : ℕ) (columns : List Column) (f : Form) → columns_of tables t ≡ columns → t < length tables → FitsAll columns f (judged_on columns f).met
    → keeps_rules tables (statement_of columns t f (judged_on columns f)) ≡ true
kept_on tables t columns f same below lawful' =
    let ks : List Kind = parameters (judged_on columns f).met in
    let a : Action = action_of columns f in
    let fits : action_fits (columns_of tables t) ks a ≡ true = ap (λ (cs : List Column). action_fits cs ks a) same ∙ lawful'.fits in
    let all : Bool = list_all (λ (n : ℕ). stands_in n a) (numbered_from 1 (length ks)) in
    let P : Option Join → Type 0 = λ (o : Option Join). (nat_lt t (length tables) && (nat_le (length ks) MOST_PARAMETERS && (join_fits tables t o && (action_fits (read_columns tables t o) ks a && all)))) ≡ true in
    let plain : P None =
    and_from (nat_lt t (length tables)) (nat_le (length ks) MOST_PARAMETERS && (action_fits (columns_of tables t) ks a && all)) (lt-ltb t (length tables) below)
    (and_from (nat_le (length ks) MOST_PARAMETERS) (action_fits (columns_of tables t) ks a && all) (le-leb (length ks) 16 lawful'.few) (and_from (action_fits (columns_of tables t) ks a) all fits lawful'.all)) in
    subst P (sym (no_join columns f)) plain

on_table_keeps : (tables : List Table) (end t : ℕ) (f : Form) (st : Statement) → is_grammatical f ≡ true → t < length tables → on_table end (columns_of tables t) t f ≡ Ok st → keeps_rules tables st ≡ true
unfolding on_table
on_table_keeps tables end t f st g below h =
    let columns : List Column = columns_of tables t in
    let j : Judged = judged_on columns f in
    let given = given_unless (fault_of end j) (statement_of columns t f j) st h in
    let clean = no_fault end j given.0 in
    ap (keeps_rules tables) (sym given.1) ∙ kept_on tables t columns f refl below (form_keeps columns f g clean.0 clean.1)

form_resolved : (tables : List Table) (end : ℕ) (f : Form) (st : Statement) → is_grammatical f ≡ true → resolved tables end (query.One f) ≡ Ok st → keeps_rules tables st ≡ true
form_resolved tables end f st g h = by_number (table_number tables (table_word f).name) refl h
  where
    by_number : (o : Option ℕ) → table_number tables (table_word f).name ≡ o → resolved_at tables end f o ≡ Ok st → keeps_rules tables st ≡ true
    by_number None e h = absurd (let none : Err (undeclared f) ≡ Ok st = h in cc)
    by_number (Some t) e h =
        on_table_keeps tables end t f st g (found_inside (position_or_len (λ (x : Table). same_bytes x.name (table_word f).name) tables) (length tables) t e) h

table_there : (tables : List Table) (name : List ℕ) (t : ℕ) → table_number tables name ≡ Some t → t < length tables
table_there tables name t e = found_inside (position_or_len (λ (x : Table). same_bytes x.name name) tables) (length tables) t e

join_resolved : (tables : List Table) (end : ℕ) (s : JoinSelect) (st : Statement) → has_items s.columns ≡ true → may_limit s.limit ≡ true → resolved tables end (query.Two s) ≡ Ok st → keeps_rules tables st ≡ true
join_resolved tables end s st some low h = by_numbers (table_number tables s.joined.table.name) refl (table_number tables s.joined.second.name) refl h
  where
    by_numbers : (o : Option ℕ) → table_number tables s.joined.table.name ≡ o → (p : Option ℕ) → table_number tables s.joined.second.name ≡ p → join_resolved_at tables end s o p ≡ Ok st → keeps_rules tables st ≡ true
    by_numbers None e p f h = absurd (let none : Err (join_undeclared tables None s) ≡ Ok st = h in cc)
    by_numbers (Some t) e None f h = absurd (let none : Err (join_undeclared tables (Some t) s) ≡ Ok st = h in cc)
    by_numbers (Some t) e (Some u) f h = tables_keep tables end t u s st some low (table_there tables s.joined.table.name t e) (table_there tables s.joined.second.name u f) no_fault h

resolved_keeps : (tables : List Table) (end : ℕ) (q : Query) (st : Statement) → is_allowed q ≡ true → resolved tables end q ≡ Ok st → keeps_rules tables st ≡ true
resolved_keeps tables end (query.One f) st g h = form_resolved tables end f st g h
resolved_keeps tables end (query.Two s) st g h =
    let both = and_parts (has_items s.columns) (may_limit s.limit) g in
    join_resolved tables end s st both.0 both.1 h

-- what is read is a query that the grammar allows

abbrev done : {A : Type 0} → A → Result A Refusal
done x = Ok x

is_done : {A : Type 0} (x y : A) → done x ≡ done y → x ≡ y
is_done x y e = cc

-- what was read, and what is left
abbrev read_with : {A : Type 0} → A → List Placed → Result (A × List Placed) Refusal
read_with x rest = Ok (x, rest)

is_read : {A : Type 0} (x y : A) (rest after : List Placed) → read_with x rest ≡ read_with y after → x ≡ y
is_read {A} x y rest after e =
    let p : A × List Placed = (x, rest) in
    let q : A × List Placed = (y, after) in
    ap (λ (z : A × List Placed). z.0) (is_done p q e)

abbrev some_number : ℕ × List Placed → Result (Option ℕ × List Placed) Refusal
some_number n = Ok (Some n.0, n.1)

abbrev no_number : List Placed → Result (Option ℕ × List Placed) Refusal
no_number ps = Ok (None, ps)

bound : {A B : Type 0} (r : Result A Refusal) (f : A → Result B Refusal) (y : B) → (r >>= f) ≡ Ok y → (x : A) × (r ≡ Ok x) × (f x ≡ Ok y)
bound (Ok x) f y h = (x, refl, h)
bound (Err e) f y h = absurd (let none : Err e ≡ Ok y = h in cc)

items_some : {A : Type 0} (s : Fixed) (item : Reader A) (ps : List Placed) (xs : List A) (rest : List Placed) → items_at s item ps ≡ Ok (xs, rest) → has_items xs ≡ true
items_some {A} s item ps xs rest h =
    let one = bound (item ps) (λ (first : A × List Placed). with_front (first.0 ∷ []) (more_at s item (length first.1) first.1)) (xs, rest) h in
    let two = bound (more_at s item (length one.0.1) one.0.1) (λ (x : List A × List Placed). Ok ((one.0.0 ∷ []) ++ x.0, x.1)) (xs, rest) one.2 in
    let same : one.0.0 ∷ two.0.0 ≡ xs = is_read (one.0.0 ∷ two.0.0) xs two.0.1 rest two.2 in
    ap has_items (sym same)

low_number : (t : Token) (n : ℕ) → limit_in t ≡ Some n → nat_le n GREATEST_LIMIT ≡ true
low_number (token.Fixed f) n h = absurd (let none : None ≡ Some n = h in cc)
low_number (token.Word w) n h = absurd (let none : None ≡ Some n = h in cc)
low_number (token.Parameter m) n h = absurd (let none : None ≡ Some n = h in cc)
low_number (token.Literal (value.Text t)) n h = absurd (let none : None ≡ Some n = h in cc)
low_number (token.Literal (value.Bytes b)) n h = absurd (let none : None ≡ Some n = h in cc)
low_number (token.Literal (value.Int (negsuc m))) n h = absurd (let none : None ≡ Some n = h in cc)
low_number (token.Literal (value.Int (pos m))) n h = by_test (nat_le m GREATEST_LIMIT) refl h
  where
    by_test : (b : Bool) → nat_le m GREATEST_LIMIT ≡ b → cond b (Some m) None ≡ Some n → nat_le n GREATEST_LIMIT ≡ true
    by_test true e h = let same : m ≡ n = cc in ap (λ (k : ℕ). nat_le k GREATEST_LIMIT) (sym same) ∙ e
    by_test false e h = absurd (let none : None ≡ Some n = h in cc)

number_low : (ps : List Placed) (n : ℕ) (rest : List Placed) → number_at ps ≡ Ok (n, rest) → nat_le n GREATEST_LIMIT ≡ true
number_low [] n rest h = absurd (let none : Err (unexpected 0) ≡ Ok (n, rest) = h in cc)
number_low (p ∷ more) n rest h = by_number (limit_in p.token) refl h
  where
    by_number : (o : Option ℕ) → limit_in p.token ≡ o → given_or p.at more o ≡ Ok (n, rest) → nat_le n GREATEST_LIMIT ≡ true
    by_number None e h = absurd (let none : Err (unexpected p.at) ≡ Ok (n, rest) = h in cc)
    by_number (Some m) e h = low_number p.token n (e ∙ ap (λ (k : ℕ). Some k) (is_read m n more rest h))

limit_may : (ps : List Placed) (limit : Option ℕ) (rest : List Placed) → limit_at ps ≡ Ok (limit, rest) → may_limit limit ≡ true
unfolding limit_at
limit_may ps limit rest h = by_test (begins fixed.Limit ps) h
  where
    by_test : (b : Bool) → cond b (number_at (rest_of ps) >>= some_number) (no_number ps) ≡ Ok (limit, rest) → may_limit limit ≡ true
    by_test false h = let none : None ≡ limit = is_read None limit ps rest h in ap may_limit (sym none)
    by_test true h =
        let number = bound (number_at (rest_of ps)) some_number (limit, rest) h in
        let some : Some number.0.0 ≡ limit = is_read (Some number.0.0) limit number.0.1 rest number.2 in
        ap may_limit (sym some) ∙ number_low (rest_of ps) number.0.0 number.0.1 number.1

select_allowed : (ps : List Placed) (f : Form) (rest : List Placed) → select_at ps ≡ Ok (f, rest) → is_grammatical f ≡ true
unfolding select_at
select_allowed ps f rest h =
    let s_columns = bound (names_at ps) (λ (columns : List Named × List Placed). fixed_at fixed.From columns.1 >>= λ from. name_at from.1 >>= λ table. where_at table.1 >>= λ tests. order_at tests.1 >>= λ order. limit_at order.1 >>= λ limit. Ok (form.Select columns.0 table.0 tests.0 order.0 limit.0, limit.1)) (f, rest) h in
    let s_from = bound (fixed_at fixed.From s_columns.0.1) (λ (from : ℕ × List Placed). name_at from.1 >>= λ table. where_at table.1 >>= λ tests. order_at tests.1 >>= λ order. limit_at order.1 >>= λ limit. Ok (form.Select s_columns.0.0 table.0 tests.0 order.0 limit.0, limit.1)) (f, rest) s_columns.2 in
    let s_table = bound (name_at s_from.0.1) (λ (table : Named × List Placed). where_at table.1 >>= λ tests. order_at tests.1 >>= λ order. limit_at order.1 >>= λ limit. Ok (form.Select s_columns.0.0 table.0 tests.0 order.0 limit.0, limit.1)) (f, rest) s_from.2 in
    let s_tests = bound (where_at s_table.0.1) (λ (tests : List Test × List Placed). order_at tests.1 >>= λ order. limit_at order.1 >>= λ limit. Ok (form.Select s_columns.0.0 s_table.0.0 tests.0 order.0 limit.0, limit.1)) (f, rest) s_table.2 in
    let s_order = bound (order_at s_tests.0.1) (λ (order : Option Named × List Placed). limit_at order.1 >>= λ limit. Ok (form.Select s_columns.0.0 s_table.0.0 s_tests.0.0 order.0 limit.0, limit.1)) (f, rest) s_tests.2 in
    let s_limit = bound (limit_at s_order.0.1) (λ (limit : Option ℕ × List Placed). Ok (form.Select s_columns.0.0 s_table.0.0 s_tests.0.0 s_order.0.0 limit.0, limit.1)) (f, rest) s_order.2 in
    let same : form.Select s_columns.0.0 s_table.0.0 s_tests.0.0 s_order.0.0 s_limit.0.0 ≡ f = is_read (form.Select s_columns.0.0 s_table.0.0 s_tests.0.0 s_order.0.0 s_limit.0.0) f s_limit.0.1 rest s_limit.2 in
    ap is_grammatical (sym same) ∙ and_from (has_items s_columns.0.0) (may_limit s_limit.0.0) (items_some fixed.Comma name_at ps s_columns.0.0 s_columns.0.1 s_columns.1) (limit_may s_order.0.1 s_limit.0.0 s_limit.0.1 s_limit.1)

insert_allowed : (ps : List Placed) (f : Form) (rest : List Placed) → insert_at ps ≡ Ok (f, rest) → is_grammatical f ≡ true
unfolding insert_at
insert_allowed ps f rest h =
    let s_into = bound (fixed_at fixed.Into ps) (λ (into : ℕ × List Placed). name_at into.1 >>= λ table. fixed_at fixed.Open table.1 >>= λ list. names_at list.1 >>= λ columns. fixed_at fixed.Close columns.1 >>= λ end. fixed_at fixed.Values end.1 >>= λ said. fixed_at fixed.Open said.1 >>= λ start. values_at start.1 >>= λ values. fixed_at fixed.Close values.1 >>= λ close. Ok (form.Insert table.0 list.0 columns.0 values.0, close.1)) (f, rest) h in
    let s_table = bound (name_at s_into.0.1) (λ (table : Named × List Placed). fixed_at fixed.Open table.1 >>= λ list. names_at list.1 >>= λ columns. fixed_at fixed.Close columns.1 >>= λ end. fixed_at fixed.Values end.1 >>= λ said. fixed_at fixed.Open said.1 >>= λ start. values_at start.1 >>= λ values. fixed_at fixed.Close values.1 >>= λ close. Ok (form.Insert table.0 list.0 columns.0 values.0, close.1)) (f, rest) s_into.2 in
    let s_list = bound (fixed_at fixed.Open s_table.0.1) (λ (list : ℕ × List Placed). names_at list.1 >>= λ columns. fixed_at fixed.Close columns.1 >>= λ end. fixed_at fixed.Values end.1 >>= λ said. fixed_at fixed.Open said.1 >>= λ start. values_at start.1 >>= λ values. fixed_at fixed.Close values.1 >>= λ close. Ok (form.Insert s_table.0.0 list.0 columns.0 values.0, close.1)) (f, rest) s_table.2 in
    let s_columns = bound (names_at s_list.0.1) (λ (columns : List Named × List Placed). fixed_at fixed.Close columns.1 >>= λ end. fixed_at fixed.Values end.1 >>= λ said. fixed_at fixed.Open said.1 >>= λ start. values_at start.1 >>= λ values. fixed_at fixed.Close values.1 >>= λ close. Ok (form.Insert s_table.0.0 s_list.0.0 columns.0 values.0, close.1)) (f, rest) s_list.2 in
    let s_end = bound (fixed_at fixed.Close s_columns.0.1) (λ (end : ℕ × List Placed). fixed_at fixed.Values end.1 >>= λ said. fixed_at fixed.Open said.1 >>= λ start. values_at start.1 >>= λ values. fixed_at fixed.Close values.1 >>= λ close. Ok (form.Insert s_table.0.0 s_list.0.0 s_columns.0.0 values.0, close.1)) (f, rest) s_columns.2 in
    let s_said = bound (fixed_at fixed.Values s_end.0.1) (λ (said : ℕ × List Placed). fixed_at fixed.Open said.1 >>= λ start. values_at start.1 >>= λ values. fixed_at fixed.Close values.1 >>= λ close. Ok (form.Insert s_table.0.0 s_list.0.0 s_columns.0.0 values.0, close.1)) (f, rest) s_end.2 in
    let s_start = bound (fixed_at fixed.Open s_said.0.1) (λ (start : ℕ × List Placed). values_at start.1 >>= λ values. fixed_at fixed.Close values.1 >>= λ close. Ok (form.Insert s_table.0.0 s_list.0.0 s_columns.0.0 values.0, close.1)) (f, rest) s_said.2 in
    let s_values = bound (values_at s_start.0.1) (λ (values : List Given × List Placed). fixed_at fixed.Close values.1 >>= λ close. Ok (form.Insert s_table.0.0 s_list.0.0 s_columns.0.0 values.0, close.1)) (f, rest) s_start.2 in
    let s_close = bound (fixed_at fixed.Close s_values.0.1) (λ (close : ℕ × List Placed). Ok (form.Insert s_table.0.0 s_list.0.0 s_columns.0.0 s_values.0.0, close.1)) (f, rest) s_values.2 in
    let same : form.Insert s_table.0.0 s_list.0.0 s_columns.0.0 s_values.0.0 ≡ f = is_read (form.Insert s_table.0.0 s_list.0.0 s_columns.0.0 s_values.0.0) f s_close.0.1 rest s_close.2 in
    ap is_grammatical (sym same) ∙ and_from (has_items s_columns.0.0) (has_items s_values.0.0) (items_some fixed.Comma name_at s_list.0.1 s_columns.0.0 s_columns.0.1 s_columns.1) (items_some fixed.Comma value_at s_start.0.1 s_values.0.0 s_values.0.1 s_values.1)

update_allowed : (ps : List Placed) (f : Form) (rest : List Placed) → update_at ps ≡ Ok (f, rest) → is_grammatical f ≡ true
unfolding update_at
update_allowed ps f rest h =
    let s_table = bound (name_at ps) (λ (table : Named × List Placed). fixed_at fixed.Set table.1 >>= λ set. settings_at set.1 >>= λ settings. where_at settings.1 >>= λ tests. Ok (form.Update table.0 settings.0 tests.0, tests.1)) (f, rest) h in
    let s_set = bound (fixed_at fixed.Set s_table.0.1) (λ (set : ℕ × List Placed). settings_at set.1 >>= λ settings. where_at settings.1 >>= λ tests. Ok (form.Update s_table.0.0 settings.0 tests.0, tests.1)) (f, rest) s_table.2 in
    let s_settings = bound (settings_at s_set.0.1) (λ (settings : List Setting × List Placed). where_at settings.1 >>= λ tests. Ok (form.Update s_table.0.0 settings.0 tests.0, tests.1)) (f, rest) s_set.2 in
    let s_tests = bound (where_at s_settings.0.1) (λ (tests : List Test × List Placed). Ok (form.Update s_table.0.0 s_settings.0.0 tests.0, tests.1)) (f, rest) s_settings.2 in
    let same : form.Update s_table.0.0 s_settings.0.0 s_tests.0.0 ≡ f = is_read (form.Update s_table.0.0 s_settings.0.0 s_tests.0.0) f s_tests.0.1 rest s_tests.2 in
    ap is_grammatical (sym same) ∙ items_some fixed.Comma setting_at s_set.0.1 s_settings.0.0 s_settings.0.1 s_settings.1

delete_allowed : (ps : List Placed) (f : Form) (rest : List Placed) → delete_at ps ≡ Ok (f, rest) → is_grammatical f ≡ true
unfolding delete_at
delete_allowed ps f rest h =
    let s_from = bound (fixed_at fixed.From ps) (λ (from : ℕ × List Placed). name_at from.1 >>= λ table. where_at table.1 >>= λ tests. Ok (form.Delete table.0 tests.0, tests.1)) (f, rest) h in
    let s_table = bound (name_at s_from.0.1) (λ (table : Named × List Placed). where_at table.1 >>= λ tests. Ok (form.Delete table.0 tests.0, tests.1)) (f, rest) s_from.2 in
    let s_tests = bound (where_at s_table.0.1) (λ (tests : List Test × List Placed). Ok (form.Delete s_table.0.0 tests.0, tests.1)) (f, rest) s_table.2 in
    let same : form.Delete s_table.0.0 s_tests.0.0 ≡ f = is_read (form.Delete s_table.0.0 s_tests.0.0) f s_tests.0.1 rest s_tests.2 in
    ap is_grammatical (sym same) ∙ refl

form_allowed : (ps : List Placed) (f : Form) (rest : List Placed) → form_at ps ≡ Ok (f, rest) → is_grammatical f ≡ true
unfolding form_at
form_allowed ps f rest h = by_tests (begins fixed.Select ps) (begins fixed.Insert ps) (begins fixed.Update ps) (begins fixed.Delete ps) h
  where
    by_tests : (a b c d : Bool) → cond a (select_at (rest_of ps)) (cond b (insert_at (rest_of ps)) (cond c (update_at (rest_of ps)) (cond d (delete_at (rest_of ps)) (Err (unexpected (place_of ps)))))) ≡ Ok (f, rest) → is_grammatical f ≡ true
    by_tests true b c d h = select_allowed (rest_of ps) f rest h
    by_tests false true c d h = insert_allowed (rest_of ps) f rest h
    by_tests false false true d h = update_allowed (rest_of ps) f rest h
    by_tests false false false true h = delete_allowed (rest_of ps) f rest h
    by_tests false false false false h = absurd (let none : Err (unexpected (place_of ps)) ≡ Ok (f, rest) = h in cc)

-- the parts of a SELECT from two tables
abbrev join_of_parts : List Qualified → Joined → List JoinTest → Option Qualified → Option ℕ → JoinSelect
join_of_parts columns joined tests order limit = record { columns = columns; joined = joined; tests = tests; order = order; limit = limit }

join_allowed : (ps : List Placed) (s : JoinSelect) (rest : List Placed) → join_at ps ≡ Ok (s, rest) → (has_items s.columns && may_limit s.limit) ≡ true
unfolding join_at
join_allowed ps s rest h =
    let s_columns = bound (qualifieds_at ps) (λ (columns : List Qualified × List Placed). joined_at columns.1 >>= λ joined. join_where_at joined.1 >>= λ tests. join_order_at tests.1 >>= λ order. limit_at order.1 >>= λ limit. Ok (join_of_parts columns.0 joined.0 tests.0 order.0 limit.0, limit.1)) (s, rest) h in
    let s_joined = bound (joined_at s_columns.0.1) (λ (joined : Joined × List Placed). join_where_at joined.1 >>= λ tests. join_order_at tests.1 >>= λ order. limit_at order.1 >>= λ limit. Ok (join_of_parts s_columns.0.0 joined.0 tests.0 order.0 limit.0, limit.1)) (s, rest) s_columns.2 in
    let s_tests = bound (join_where_at s_joined.0.1) (λ (tests : List JoinTest × List Placed). join_order_at tests.1 >>= λ order. limit_at order.1 >>= λ limit. Ok (join_of_parts s_columns.0.0 s_joined.0.0 tests.0 order.0 limit.0, limit.1)) (s, rest) s_joined.2 in
    let s_order = bound (join_order_at s_tests.0.1) (λ (order : Option Qualified × List Placed). limit_at order.1 >>= λ limit. Ok (join_of_parts s_columns.0.0 s_joined.0.0 s_tests.0.0 order.0 limit.0, limit.1)) (s, rest) s_tests.2 in
    let s_limit = bound (limit_at s_order.0.1) (λ (limit : Option ℕ × List Placed). Ok (join_of_parts s_columns.0.0 s_joined.0.0 s_tests.0.0 s_order.0.0 limit.0, limit.1)) (s, rest) s_order.2 in
    let it : JoinSelect = join_of_parts s_columns.0.0 s_joined.0.0 s_tests.0.0 s_order.0.0 s_limit.0.0 in
    let same : it ≡ s = is_read it s s_limit.0.1 rest s_limit.2 in
    ap (λ (j : JoinSelect). has_items j.columns && may_limit j.limit) (sym same)
    ∙ and_from (has_items s_columns.0.0) (may_limit s_limit.0.0) (items_some fixed.Comma qualified_at ps s_columns.0.0 s_columns.0.1 s_columns.1) (limit_may s_order.0.1 s_limit.0.0 s_limit.0.1 s_limit.1)

query_allowed : (ps : List Placed) (q : Query) (rest : List Placed) → query_at ps ≡ Ok (q, rest) → is_allowed q ≡ true
query_allowed ps q rest h = by_test (begins_join ps) h
  where
    by_test : (b : Bool) → cond b (join_at (rest_of ps) >>= λ join. read_with (query.Two join.0) join.1) (form_at ps >>= λ form. read_with (query.One form.0) form.1) ≡ Ok (q, rest) → is_allowed q ≡ true
    by_test true h =
        let found = bound (join_at (rest_of ps)) (λ (join : JoinSelect × List Placed). read_with (query.Two join.0) join.1) (q, rest) h in
        let same : query.Two found.0.0 ≡ q = is_read (query.Two found.0.0) q found.0.1 rest found.2 in
        ap is_allowed (sym same) ∙ join_allowed (rest_of ps) found.0.0 found.0.1 found.1
    by_test false h =
        let found = bound (form_at ps) (λ (form : Form × List Placed). read_with (query.One form.0) form.1) (q, rest) h in
        let same : query.One found.0.0 ≡ q = is_read (query.One found.0.0) q found.0.1 rest found.2 in
        ap is_allowed (sym same) ∙ form_allowed ps found.0.0 found.0.1 found.1

parsed_allowed : (ps : List Placed) (q : Query) → parsed ps ≡ Ok q → is_allowed q ≡ true
unfolding parsed
parsed_allowed ps q h =
    let found = bound (query_at ps) (λ (found : Query × List Placed). fixed_at fixed.End found.1 >>= λ end. Ok found.0) q h in
    let last = bound (fixed_at fixed.End found.0.1) (λ (end : ℕ × List Placed). Ok found.0.0) q found.2 in
    let same : found.0.0 ≡ q = is_done found.0.0 q last.2 in
    ap is_allowed (sym same) ∙ query_allowed ps found.0.0 found.0.1 found.1

pub compiled_keeps : CompiledKeepsRules
compiled_keeps tables text st h =
    let found = bound (tokens text) (λ (found : List Placed). parsed found >>= λ query. resolved tables (length text) query) st h in
    let read = bound (parsed found.0) (λ (query : Query). resolved tables (length text) query) st found.2 in
    resolved_keeps tables (length text) read.0 st (parsed_allowed found.0 read.0 read.1) read.2

-- what a call answers
pub answer_keeps : (tables : List Table) (text : List ℕ) (r : Result Statement CompileError) → Gives (λ (st : Statement). st) r (compiled tables text) → IfOk r (λ (st : Statement). IsTrue (keeps_rules tables st))
answer_keeps tables text (Ok st) h = compiled_keeps tables text st h
answer_keeps tables text (Err e) h = tt
