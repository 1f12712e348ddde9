-- The canonical text of a statement compiles to it again.
use Rattle.std.proofs.Common.{◌≡◌, ℕ, zero, ◌-◌, ◌+◌, ◌≤◌, ◌<◌, Bool, true, false, ◌&&◌, List, [], ◌∷◌, ◌++◌, map, replicate, Option, Some, None, option_map, zero-add, Result, Ok, Err, refl, sym, ap, subst, ◌∙◌, arith, length}
use Rattle.std.specs.Prelude.{nat_le, nat_lt, slice_get}
use Rattle.std.specs.List.{list_all}
use Rattle.std.proofs.lemmas.Bool.{and_parts, and_from, leb-true, ltb-true}
use Rattle.okws_base.specs.declared.limit.TheConstants.{MOST_PARAMETERS}
use Rattle.okws_base.specs.declared.value.Kind.{Kind}
use Rattle.okws_plan.specs.Configuration.{numbered_from}
use Rattle.okws_plan.specs.Meaning.{columns_in, columns_of}
use Rattle.okws_plan.specs.Rules.{operands_fit, conditions_fit, action_fits, stands_in, join_of, join_fits, read_columns}
use Rattle.okws_plan.specs.declared.statement.Join.{Join}
use Rattle.okws_plan.specs.declared.configuration.Column.{Column}
use Rattle.okws_plan.specs.declared.configuration.Table.{Table}
use Rattle.okws_plan.specs.declared.statement.Operand.{Operand}
use Rattle.okws_plan.specs.declared.statement.Condition.{Condition}
use Rattle.okws_plan.specs.declared.statement.Assignment.{Assignment}
use Rattle.okws_plan.specs.declared.statement.Selection.{Selection}
use Rattle.okws_plan.specs.declared.statement.Action.{Action}
use Rattle.okws_plan.specs.declared.statement.Action.TheVariants as action
use Rattle.okws_plan.specs.declared.statement.Statement.{Statement}
use Rattle.query_syntax.specs.declared.error.Refusal.{Refusal}
use Rattle.query_syntax.specs.declared.token.Fixed.TheVariants as fixed
use Rattle.query_syntax.specs.declared.token.Token.{Token}
use Rattle.query_syntax.specs.declared.token.Token.TheVariants as token
use Rattle.query_syntax.specs.declared.token.Placed.{Placed}
use Rattle.query_syntax.specs.declared.syntax.Named.{Named}
use Rattle.query_syntax.specs.declared.syntax.Given.{Given}
use Rattle.query_syntax.specs.declared.syntax.Setting.{Setting}
use Rattle.query_syntax.specs.declared.syntax.Test.{Test}
use Rattle.query_syntax.specs.declared.syntax.Form.{Form}
use Rattle.query_syntax.specs.declared.syntax.Form.TheVariants as form
use Rattle.query_syntax.specs.declared.syntax.Query.{Query}
use Rattle.query_syntax.specs.declared.syntax.Query.TheVariants as query
use Rattle.query_syntax.specs.Answers.{◌>>=◌}
use Rattle.query_syntax.specs.Tokens.{tokens}
use Rattle.query_syntax.specs.Grammar.{parsed}
use Rattle.statement_core.specs.Canonical.{table_token, action_tokens, select_tokens, tokens_at, statement_tokens, canonical}
use Rattle.query_syntax.specs.Forms.{tokens_in, form_tokens, is_grammatical, has_items, may_limit, bare_name, bare_value, bare_setting, bare_test, bare, read_barely}
use Rattle.statement_core.specs.Resolving.{Judged, table_number, judged_on, on_table, parts_judged, words_judged, tests_judged, settings_judged, values_judged, list_judged, parts_excess}
use Rattle.statement_core.specs.Joining.{resolved}
use Rattle.statement_core.specs.Compiled.{compiled}
use Rattle.query_syntax.specs.ReadAgain.{is_spelled}
use Rattle.statement_core.specs.Recompiled.{names_differ, is_declarable, are_numbered, holds_literals, StatementsCompileAgain}
use Rattle.query_syntax.proofs.TokensAgain.{tokens_again}
use Rattle.query_syntax.proofs.FormsAgain.{forms_again}
use Rattle.statement_core.proofs.Stated.{bare_word, name_at, given_of, test_of, setting_of, names_of, form_on, tokens_same, form_spelled, Selects, selects, Updates, updates}
use Rattle.statement_core.proofs.Judged.{Sound, number_is, shown, state, tests_kept, settings_kept, values_kept, all_words_kept, as_many, list_kept, list_within, tests_within, parts_kept, taken_behind, after_conditions, after_settings, after_values}
use Rattle.statement_text.proofs.Recompiles.{all_met, at_last, no_gap, their_kinds, conditions_again, assignments_again, operands_again, IsFine, all_free, same_length, few_conditions}
use Rattle.statement_text.proofs.SelectsAgain.{start, select_again}
use Rattle.statement_text.proofs.Found.{found_tokens, at_place, Declared, declared, has_some, limit_low}
use Rattle.statement_text.proofs.JoinsAgain.{joins_again}

select_fine : (columns : List Column) (kinds : List Kind) (table : List ℕ) (s : Selection) (cs : List Named) (t : Named) (ts : List Test) (order : Option Named) (limit : Option ℕ) → Sound columns → length kinds ≤ 16 → Selects columns kinds s
    → list_all (λ (n : ℕ). stands_in n (action.Select s)) (numbered_from 1 (length kinds)) ≡ true → map bare_name cs ≡ map (name_at columns) s.columns → bare_name t ≡ bare_word table → map bare_test ts ≡ map (test_of columns) s.conditions
    → option_map bare_name order ≡ option_map (name_at columns) s.order → limit ≡ s.limit → s.join ≡ None → IsFine columns kinds table (action.Select s) (form.Select cs t ts order limit)
unfolding judged_on
select_fine columns kinds table s cs t ts order limit sound few fits all hc ht hts ho hl hj =
    let taken : List Bool = replicate (length columns) false in
    let again = select_again columns kinds s cs ts order sound few fits all (record { list = hc; tests = hts; order = ho }) in
    let g : Form = form.Select cs t ts order limit in
    let four : parts_excess g ≡ None = rw (list_within cs again.few_columns, tests_within ts again.few_tests) refl in
    record {
      taken = taken;
      judged = ap (λ (j : Judged). parts_judged j g) again.judged ∙ parts_kept (all_met kinds) taken g four;
      action = λ i. action.Select (record { join = sym hj i; columns = again.list i; conditions = again.conditions i; order = again.order i; limit = hl i });
      word = ap (λ (n : Named). n.name) ht;
    }

insert_fine : (columns : List Column) (kinds : List Kind) (table : List ℕ) (os : List Operand) (t : Named) (at : ℕ) (ws : List Named) (vs : List Given) → Sound columns → length kinds ≤ 16 → operands_fit columns kinds os ≡ true
    → list_all (λ (n : ℕ). stands_in n (action.Insert os)) (numbered_from 1 (length kinds)) ≡ true → bare_name t ≡ bare_word table → map bare_name ws ≡ names_of columns → map bare_value vs ≡ map given_of os
    → IsFine columns kinds table (action.Insert os) (form.Insert t at ws vs)
unfolding judged_on
insert_fine columns kinds table os t at ws vs sound few fits all ht hw hv =
    let taken : List Bool = replicate (length columns) false in
    let S : ℕ → Bool = λ (k : ℕ). false in
    let first : List (Option Kind) = shown S 1 (all_met kinds) in
    let last : shown (after_values S os) 1 (all_met kinds) ≡ all_met kinds = at_last (λ (n : ℕ). stands_in n (action.Insert os)) 1 kinds (16 - length kinds) all in
    let whole : (d : ℕ) → slice_get columns (0 + d) ≡ slice_get columns d = λ (d : ℕ). ap (slice_get columns) (zero-add d) in
    let one : list_judged columns (state first taken) at ws vs ≡ state first taken = list_kept columns kinds first taken at ws os vs fits hw hv in
    let two : words_judged columns (state first taken) ws ≡ state first taken = all_words_kept columns first taken 0 columns ws sound whole hw in
    let three : values_judged columns 0 (state first taken) vs ≡ state (all_met kinds) taken =
    values_kept columns kinds (16 - length kinds) S taken 0 columns os vs few whole fits hv ∙ ap (λ (met : List (Option Kind)). state met taken) last in
    record {
      taken = taken;
      judged =
          ap (λ (j : Judged). values_judged columns 0 (words_judged columns (list_judged columns j at ws vs) ws) vs) (start columns kinds few)
          ∙ ap (λ (j : Judged). values_judged columns 0 (words_judged columns j ws) vs) one
          ∙ ap (λ (j : Judged). values_judged columns 0 j vs) two
          ∙ three;
      action = ap (λ (xs : List Operand). action.Insert xs) (operands_again columns kinds os vs few fits hv);
      word = ap (λ (n : Named). n.name) ht;
    }

update_fine : (columns : List Column) (kinds : List Kind) (table : List ℕ) (xs : List Assignment) (cs : List Condition) (t : Named) (ss : List Setting) (ts : List Test) → Sound columns → length kinds ≤ 16 → Updates columns kinds xs cs
    → list_all (λ (n : ℕ). stands_in n (action.Update xs cs)) (numbered_from 1 (length kinds)) ≡ true → bare_name t ≡ bare_word table → map bare_setting ss ≡ map (setting_of columns) xs → map bare_test ts ≡ map (test_of columns) cs
    → IsFine columns kinds table (action.Update xs cs) (form.Update t ss ts)
unfolding judged_on
update_fine columns kinds table xs cs t ss ts sound few fits all ht hs hts =
    let taken : List Bool = replicate (length columns) false in
    let behind : List Bool = taken_behind taken xs in
    let S : ℕ → Bool = λ (k : ℕ). false in
    let first : List (Option Kind) = shown S 1 (all_met kinds) in
    let middle : List (Option Kind) = shown (after_settings S xs) 1 (all_met kinds) in
    let part = few_conditions columns kinds cs fits.conditions in
    let last : shown (after_conditions (after_settings S xs) cs) 1 (all_met kinds) ≡ all_met kinds = at_last (λ (n : ℕ). stands_in n (action.Update xs cs)) 1 kinds (16 - length kinds) all in
    let one : settings_judged columns (state first taken) ss ≡ state middle behind =
    settings_kept columns kinds (16 - length kinds) S taken xs ss sound few fits.list fits.once (all_free (length columns) xs) hs in
    let two : tests_judged columns (state middle behind) ts ≡ state (all_met kinds) behind =
    tests_kept columns kinds (16 - length kinds) (after_settings S xs) behind cs ts sound few part.1 hts ∙ ap (λ (met : List (Option Kind)). state met behind) last in
    let tests_few : length ts ≤ 16 = omega (arith, same_length bare_test (test_of columns) ts cs hts) in
    let g : Form = form.Update t ss ts in
    record {
      taken = behind;
      judged =
          ap (λ (j : Judged). parts_judged (tests_judged columns (settings_judged columns j ss) ts) g) (start columns kinds few)
          ∙ ap (λ (j : Judged). parts_judged (tests_judged columns j ts) g) one
          ∙ ap (λ (j : Judged). parts_judged j g) two
          ∙ parts_kept (all_met kinds) behind g (tests_within ts tests_few);
      action = rw (assignments_again columns kinds xs ss sound few fits.list hs, conditions_again columns kinds cs ts sound few part.1 hts) refl;
      word = ap (λ (n : Named). n.name) ht;
    }

delete_fine : (columns : List Column) (kinds : List Kind) (table : List ℕ) (cs : List Condition) (t : Named) (ts : List Test) → Sound columns → length kinds ≤ 16 → conditions_fit columns kinds cs ≡ true
    → list_all (λ (n : ℕ). stands_in n (action.Delete cs)) (numbered_from 1 (length kinds)) ≡ true → bare_name t ≡ bare_word table → map bare_test ts ≡ map (test_of columns) cs
    → IsFine columns kinds table (action.Delete cs) (form.Delete t ts)
unfolding judged_on
delete_fine columns kinds table cs t ts sound few fits all ht hts =
    let taken : List Bool = replicate (length columns) false in
    let S : ℕ → Bool = λ (k : ℕ). false in
    let first : List (Option Kind) = shown S 1 (all_met kinds) in
    let part = few_conditions columns kinds cs fits in
    let last : shown (after_conditions S cs) 1 (all_met kinds) ≡ all_met kinds = at_last (λ (n : ℕ). stands_in n (action.Delete cs)) 1 kinds (16 - length kinds) all in
    let one : tests_judged columns (state first taken) ts ≡ state (all_met kinds) taken =
    tests_kept columns kinds (16 - length kinds) S taken cs ts sound few part.1 hts ∙ ap (λ (met : List (Option Kind)). state met taken) last in
    let tests_few : length ts ≤ 16 = omega (arith, same_length bare_test (test_of columns) ts cs hts) in
    let g : Form = form.Delete t ts in
    record {
      taken = taken;
      judged =
          ap (λ (j : Judged). parts_judged (tests_judged columns j ts) g) (start columns kinds few)
          ∙ ap (λ (j : Judged). parts_judged j g) one
          ∙ parts_kept (all_met kinds) taken g (tests_within ts tests_few);
      action = ap (λ (xs : List Condition). action.Delete xs) (conditions_again columns kinds cs ts sound few part.1 hts);
      word = ap (λ (n : Named). n.name) ht;
    }

form_fine : (columns : List Column) (kinds : List Kind) (table : List ℕ) (a : Action) (g : Form) → Sound columns → length kinds ≤ 16 → join_of a ≡ None → action_fits columns kinds a ≡ true
    → list_all (λ (n : ℕ). stands_in n a) (numbered_from 1 (length kinds)) ≡ true → bare g ≡ form_on columns table a → IsFine columns kinds table a g
form_fine columns kinds table (action.Select s) (form.Select cs t ts order limit) sound few plain h all e =
    select_fine columns kinds table s cs t ts order limit sound few (selects columns kinds s h) all (cc) (cc) (cc) (cc) (cc) plain
form_fine columns kinds table (action.Select s) (form.Insert t at ws vs) sound few plain h all e = absurd (cc)
form_fine columns kinds table (action.Select s) (form.Update t ss ts) sound few plain h all e = absurd (cc)
form_fine columns kinds table (action.Select s) (form.Delete t ts) sound few plain h all e = absurd (cc)
form_fine columns kinds table (action.Insert os) (form.Select cs t ts order limit) sound few plain h all e = absurd (cc)
form_fine columns kinds table (action.Insert os) (form.Insert t at ws vs) sound few plain h all e = insert_fine columns kinds table os t at ws vs sound few h all (cc) (cc) (cc)
form_fine columns kinds table (action.Insert os) (form.Update t ss ts) sound few plain h all e = absurd (cc)
form_fine columns kinds table (action.Insert os) (form.Delete t ts) sound few plain h all e = absurd (cc)
form_fine columns kinds table (action.Update xs cs) (form.Select ws t ts order limit) sound few plain h all e = absurd (cc)
form_fine columns kinds table (action.Update xs cs) (form.Insert t at ws vs) sound few plain h all e = absurd (cc)
form_fine columns kinds table (action.Update xs cs) (form.Update t ss ts) sound few plain h all e =
    update_fine columns kinds table xs cs t ss ts sound few (updates columns kinds xs cs h) all (cc) (cc) (cc)
form_fine columns kinds table (action.Update xs cs) (form.Delete t ts) sound few plain h all e = absurd (cc)
form_fine columns kinds table (action.Delete cs) (form.Select ws t ts order limit) sound few plain h all e = absurd (cc)
form_fine columns kinds table (action.Delete cs) (form.Insert t at ws vs) sound few plain h all e = absurd (cc)
form_fine columns kinds table (action.Delete cs) (form.Update t ss ts) sound few plain h all e = absurd (cc)
form_fine columns kinds table (action.Delete cs) (form.Delete t ts) sound few plain h all e = delete_fine columns kinds table cs t ts sound few h all (cc) (cc)

-- a form of a statement is one that the grammar allows, and has no places

bare_again : {A B : Type 0} (view : B → B) (f : A → B) → ((a : A) → view (f a) ≡ f a) → (xs : List A) → map view (map f xs) ≡ map f xs
bare_again view f h [] = refl
bare_again view f h (x ∷ more) = rw (h x, bare_again view f h more) refl

bare_order : (columns : List Column) (order : Option ℕ) → option_map bare_name (option_map (name_at columns) order) ≡ option_map (name_at columns) order
bare_order columns None = refl
bare_order columns (Some c) = refl

bare_form : (columns : List Column) (table : List ℕ) (a : Action) → bare (form_on columns table a) ≡ form_on columns table a
bare_form columns table (action.Select s) =
    rw (bare_again bare_name (name_at columns) (λ a. refl) s.columns, bare_again bare_test (test_of columns) (λ a. refl) s.conditions, bare_order columns s.order) refl
bare_form columns table (action.Insert os) =
    rw (bare_again bare_name (λ (c : Column). bare_word c.name) (λ a. refl) columns, bare_again bare_value given_of (λ a. refl) os) refl
bare_form columns table (action.Update xs cs) = rw (bare_again bare_setting (setting_of columns) (λ a. refl) xs, bare_again bare_test (test_of columns) (λ a. refl) cs) refl
bare_form columns table (action.Delete cs) = rw (bare_again bare_test (test_of columns) (λ a. refl) cs) refl

grammatical : (columns : List Column) (kinds : List Kind) (table : List ℕ) (a : Action) → nat_le 1 (length columns) ≡ true → action_fits columns kinds a ≡ true → is_grammatical (form_on columns table a) ≡ true
grammatical columns kinds table (action.Select s) some h =
    let fits = selects columns kinds s h in
    and_from (has_items (map (name_at columns) s.columns)) (may_limit s.limit) (has_some (name_at columns) s.columns fits.some) (limit_low s.limit fits.limit)
grammatical columns kinds table (action.Insert os) some h =
    let many : nat_le 1 (length os) ≡ true = ap (nat_le 1) (as_many columns kinds os h) ∙ some in
    and_from (has_items (names_of columns)) (has_items (map given_of os)) (has_some (λ (c : Column). bare_word c.name) columns some) (has_some given_of os many)
grammatical columns kinds table (action.Update xs cs) some h = has_some (setting_of columns) xs (updates columns kinds xs cs h).some
grammatical columns kinds table (action.Delete cs) some h = refl

-- what is read

record ReadForm (f : Form) (read : Result Query Refusal) : Type 0 where
  it : Form
  is : read ≡ Ok (query.One it)
  same : bare it ≡ f

read_form : (f : Form) (read : Result Query Refusal) → read_barely read ≡ Ok (query.One f) → ReadForm f read
read_form f (Ok (query.One it)) e = record { it = it; is = refl; same = cc }
read_form f (Ok (query.Two it)) e = absurd (cc)
read_form f (Err r) e = absurd (let none : Err r ≡ Ok (query.One f) = e in cc)

on_its_table : (end : ℕ) (columns : List Column) (table : List ℕ) (st : Statement) (g : Form) → IsFine columns st.parameters table st.action g → on_table end columns st.table g ≡ Ok st
unfolding on_table
on_its_table end columns table st g fine =
    rw (fine.judged, no_gap st.parameters (16 - length st.parameters), their_kinds st.parameters (16 - length st.parameters), fine.action) refl

-- the statement of a form on these tables
resolved_again : (tables : List Table) (end : ℕ) (st : Statement) (t : Table) (g : Form) → names_differ (λ (x : Table). x.name) tables ≡ true → length tables ≤ 256 → slice_get tables st.table ≡ Some t
    → IsFine t.columns st.parameters t.name st.action g → resolved tables end (query.One g) ≡ Ok st
resolved_again tables end st t g differ few e fine =
    let number : table_number tables t.name ≡ Some st.table = number_is (λ (x : Table). x.name) tables st.table t differ few e in
    rw (fine.word, number, e) (on_its_table end t.columns t.name st g fine)

tokens_plain : (tables : List Table) (t : ℕ) (a : Action) → join_of a ≡ None → tokens_at tables t a ≡ action_tokens (columns_of tables t) (table_token tables t) a
tokens_plain tables t (action.Select s) plain = ap (select_tokens tables t s) plain
tokens_plain tables t (action.Insert os) plain = refl
tokens_plain tables t (action.Update xs cs) plain = refl
tokens_plain tables t (action.Delete cs) plain = refl

statement_spelled : (tables : List Table) (st : Statement) (t : Table) → join_of st.action ≡ None → slice_get tables st.table ≡ Some t → statement_tokens tables st ≡ form_tokens (form_on t.columns t.name st.action)
statement_spelled tables st t plain e = tokens_plain tables st.table st.action plain ∙ rw e (tokens_same t.columns t.name st.action)

compiled_again : (tables : List Table) (st : Statement) (t : Table) → Declared t → length tables ≤ 256 → names_differ (λ (x : Table). x.name) tables ≡ true → slice_get tables st.table ≡ Some t → length st.parameters ≤ 16
    → join_of st.action ≡ None → action_fits t.columns st.parameters st.action ≡ true → list_all (λ (n : ℕ). stands_in n st.action) (numbered_from 1 (length st.parameters)) ≡ true → holds_literals st.action ≡ true
    → compiled tables (canonical tables st) ≡ Ok st
compiled_again tables st t known many differ e few plain fits all held =
    let f : Form = form_on t.columns t.name st.action in
    let same : statement_tokens tables st ≡ form_tokens f = statement_spelled tables st t plain e in
    let good : list_all is_spelled (statement_tokens tables st) ≡ true = ap (list_all is_spelled) same ∙ form_spelled t.columns st.parameters t.name st.action known.named known.word few fits held in
    let found = found_tokens (statement_tokens tables st ++ token.Fixed fixed.End ∷ []) (tokens (canonical tables st)) (tokens_again (statement_tokens tables st) good) in
    let theirs : tokens_in found.them ≡ form_tokens f ++ token.Fixed fixed.End ∷ [] = found.are ∙ ap (λ (ts : List Token). ts ++ token.Fixed fixed.End ∷ []) same in
    let read = read_form (bare f) (parsed found.them) (forms_again (query.One f) (grammatical t.columns st.parameters t.name st.action known.some fits) found.them theirs) in
    let fine = form_fine t.columns st.parameters t.name st.action read.it known.sound few plain fits all (read.same ∙ bare_form t.columns t.name st.action) in
    let last = resolved_again tables (length (canonical tables st)) st t read.it differ many e fine in
    ap (λ (r : Result (List Placed) Refusal). r >>= λ found. parsed found >>= λ query. resolved tables (length (canonical tables st)) query) found.is
    ∙ ap (λ (r : Result Query Refusal). r >>= λ query. resolved tables (length (canonical tables st)) query) read.is
    ∙ last

pub statements_again : StatementsCompileAgain
statements_again tables st h numbered held kept = by (join_of st.action) refl
  where
    by : (o : Option Join) → join_of st.action ≡ o → compiled tables (canonical tables st) ≡ Ok st
    by None is =
        let b = and_parts (nat_le (length tables) 256) (list_all is_declarable tables && names_differ (λ (x : Table). x.name) tables) h in
        let c = and_parts (list_all is_declarable tables) (names_differ (λ (x : Table). x.name) tables) b.1 in
        let all : Bool = list_all (λ (n : ℕ). stands_in n st.action) (numbered_from 1 (length st.parameters)) in
        let P : Option Join → Type 0 = λ (o : Option Join). (nat_lt st.table (length tables) && (nat_le (length st.parameters) MOST_PARAMETERS && (join_fits tables st.table o && (action_fits (read_columns tables st.table o) st.parameters st.action && all)))) ≡ true in
        let rules : P None = subst P is kept in
        let fit : Bool = action_fits (columns_of tables st.table) st.parameters st.action && all in
        let e = and_parts (nat_lt st.table (length tables)) (nat_le (length st.parameters) MOST_PARAMETERS && fit) rules in
        let f = and_parts (nat_le (length st.parameters) MOST_PARAMETERS) fit e.1 in
        let place = at_place is_declarable tables st.table c.0 (ltb-true st.table (length tables) e.0) in
        let t : Table = place.0 in
        let columns : columns_of tables st.table ≡ t.columns = ap columns_in place.1 in
        let few : length st.parameters ≤ 16 = leb-true (length st.parameters) 16 f.0 in
        let Q : List Column → Type 0 = λ (cs : List Column). (action_fits cs st.parameters st.action && all) ≡ true in
        let i = and_parts (action_fits t.columns st.parameters st.action) all (subst Q columns f.1) in
        compiled_again tables st t (declared t place.2) (leb-true (length tables) 256 b.0) c.1 place.1 few is i.0 i.1 held
    by (Some join) is = joins_again tables st join is h (subst (λ (o : Option Join). are_numbered tables st.table o ≡ true) is numbered) held kept
