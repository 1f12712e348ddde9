-- A lawful file gives queries that keep the rules of the query language for the tables of their proxy.
use Rattle.std.proofs.Common.{◌≡◌, ℕ, suc, zero, Bool, true, List, [], ◌∷◌, ◌++◌, length, ◌<◌, nat_lt, not, ◌&&◌, Option, Some, None, Result, Ok, Err, refl, sym, ap, subst, ◌∙◌, arith}
use Rattle.std.specs.Prelude.{nat_le, ◌==◌, slice_get, option_and_then}
use Rattle.std.specs.List.{list_all}
use Rattle.std.specs.Result.{result_ok}
use Rattle.std.proofs.lemmas.Bool.{and_parts, and_from, ltb-true}
use Rattle.okws_base.specs.declared.value.Value.{Value}
use Rattle.okws_base.specs.declared.limit.TheConstants.{MOST_PARAMETERS}
use Rattle.okws_plan.specs.Configuration.{numbered_from, tables_of, queries_of}
use Rattle.okws_plan.specs.Meaning.{columns_in, columns_of}
use Rattle.okws_plan.specs.Rules.{keeps_rules, action_fits, stands_in, join_of, join_fits, read_columns, are_apart, are_of_kind}
use Rattle.okws_plan.specs.declared.configuration.Column.{Column}
use Rattle.okws_plan.specs.declared.statement.Join.{Join}
use Rattle.okws_plan.specs.declared.configuration.Config.{Config}
use Rattle.okws_plan.specs.declared.configuration.ProxyPlan.{ProxyPlan}
use Rattle.okws_plan.specs.declared.configuration.Query.{Query}
use Rattle.okws_plan.specs.declared.configuration.Table.{Table}
use Rattle.okws_plan.specs.declared.statement.Statement.{Statement}
use Rattle.okws_plan.proofs.Rules.{all_keep_rules}
use Rattle.plain_text.specs.Decimals.{decimal_value}
use Rattle.statement_core.proofs.RulesKept.{compiled_keeps}
use Rattle.statement_core.specs.Compiled.{compiled}
use Rattle.query_syntax.specs.declared.error.Refusal.{Refusal}
use Rattle.config_reader.specs.Above.{Above, proxy_number, plan_of, tables_at, table_number}
use Rattle.config_reader.specs.After.{after, with_plan, with_table, with_row, with_row_in, with_query, table_of, changed_at}
use Rattle.config_reader.specs.Broken.{row_values, statement_at}
use Rattle.config_syntax.specs.Declarations.{ColumnWords, Proxy, Table as TableLine, Row, Query as QueryLine}
use Rattle.config_reader.specs.Ruled.{AreRuled}
use Rattle.config_reader.proofs.Lists.{list_all_push, list_all_weaker, all_changed, length_changed, seen_changed, lt_push}

-- each query of a proxy keeps the rules for the proxy's tables
abbrev pub is_ruled : ProxyPlan → Bool
is_ruled plan = list_all (λ (x : Query). keeps_rules plan.tables x.statement) plan.queries

-- each query of each proxy does
abbrev pub are_ruled : Config → Bool
are_ruled C = list_all is_ruled C.proxies

ruled_at : (plans : List ProxyPlan) (p : ℕ) → list_all is_ruled plans ≡ true → list_all (λ (x : Query). keeps_rules (tables_of (slice_get plans p)) x.statement) (queries_of (slice_get plans p)) ≡ true
ruled_at [] p h = refl
ruled_at (plan ∷ more) zero h = (and_parts (is_ruled plan) (list_all is_ruled more) h).0
ruled_at (plan ∷ more) (suc p) h = ruled_at more p (and_parts (is_ruled plan) (list_all is_ruled more) h).1

pub ruled_from : (C : Config) → are_ruled C ≡ true → AreRuled C
ruled_from C h p = all_keep_rules C p (ruled_at C.proxies p h)

-- tables that are as many and have the same columns

-- the rules, by what they ask of the tables
abbrev RulesBy : ℕ → List Column → List Column → Statement → Option Join → Type 0
RulesBy many columns others st None =
    (nat_lt st.table many && (nat_le (length st.parameters) MOST_PARAMETERS
    && (action_fits columns st.parameters st.action && list_all (λ (n : ℕ). stands_in n st.action) (numbered_from 1 (length st.parameters))))) ≡ true
RulesBy many columns others st (Some join) =
    (nat_lt st.table many && (nat_le (length st.parameters) MOST_PARAMETERS
    && ((nat_lt join.table many && (not (join.table == st.table) && (are_apart (length columns) join.left join.right
    && are_of_kind (slice_get (columns ++ others) join.left) (slice_get (columns ++ others) join.right))))
    && (action_fits (columns ++ others) st.parameters st.action && list_all (λ (n : ℕ). stands_in n st.action) (numbered_from 1 (length st.parameters)))))) ≡ true

-- the rules where this is joined
abbrev RulesWith : List Table → Statement → Option Join → Type 0
RulesWith ts st o =
    (nat_lt st.table (length ts) && (nat_le (length st.parameters) MOST_PARAMETERS && (join_fits ts st.table o && (action_fits (read_columns ts st.table o) st.parameters st.action
    && list_all (λ (n : ℕ). stands_in n st.action) (numbered_from 1 (length st.parameters)))))) ≡ true

like_with : (ts us : List Table) (st : Statement) (o : Option Join) → length us ≡ length ts → ((n : ℕ) → columns_of us n ≡ columns_of ts n) → RulesWith ts st o → RulesWith us st o
like_with ts us st None len columns h = subst (λ (n : ℕ). RulesBy n (columns_of us st.table) [] st None) (sym len) (subst (λ (cs : List Column). RulesBy (length ts) cs [] st None) (sym (columns st.table)) h)
like_with ts us st (Some join) len columns h =
    subst (λ (n : ℕ). RulesBy n (columns_of us st.table) (columns_of us join.table) st (Some join)) (sym len)
    (subst (λ (cs : List Column). RulesBy (length ts) cs (columns_of us join.table) st (Some join)) (sym (columns st.table))
    (subst (λ (cs : List Column). RulesBy (length ts) (columns_of ts st.table) cs st (Some join)) (sym (columns join.table)) h))

keeps_like : (ts us : List Table) (st : Statement) → length us ≡ length ts → ((n : ℕ) → columns_of us n ≡ columns_of ts n) → keeps_rules ts st ≡ true → keeps_rules us st ≡ true
keeps_like ts us st len columns h = like_with ts us st (join_of st.action) len columns h

-- one table more

below_push : (ts : List Table) (t : Table) (n : ℕ) → n < length ts → slice_get (ts ++ t ∷ []) n ≡ slice_get ts n
below_push [] t n h = absurd (omega arith)
below_push (x ∷ ts) t zero h = refl
below_push (x ∷ ts) t (suc n) h = below_push ts t n (omega arith)

columns_push : (ts : List Table) (t : Table) (n : ℕ) → nat_lt n (length ts) ≡ true → columns_of (ts ++ t ∷ []) n ≡ columns_of ts n
columns_push ts t n h = ap columns_in (below_push ts t n (ltb-true n (length ts) h))

more_with : (ts : List Table) (t : Table) (st : Statement) (o : Option Join) → RulesWith ts st o → RulesWith (ts ++ t ∷ []) st o
more_with ts t st None h =
    let parts = and_parts (nat_lt st.table (length ts)) _ h in
    and_from _ _ (lt_push ts t st.table parts.0) (rw (columns_push ts t st.table parts.0) parts.1)
more_with ts t st (Some join) h =
    let parts = and_parts (nat_lt st.table (length ts)) _ h in
    let few = and_parts (nat_le (length st.parameters) MOST_PARAMETERS) _ parts.1 in
    let fits = and_parts (join_fits ts st.table (Some join)) _ few.1 in
    let there = and_parts (nat_lt join.table (length ts)) _ fits.0 in
    let own : columns_of (ts ++ t ∷ []) st.table ≡ columns_of ts st.table = columns_push ts t st.table parts.0 in
    let other : columns_of (ts ++ t ∷ []) join.table ≡ columns_of ts join.table = columns_push ts t join.table there.0 in
    and_from _ _ (lt_push ts t st.table parts.0) (and_from _ _ few.0
    (and_from _ _ (and_from _ _ (lt_push ts t join.table there.0) (rw (own, other) there.1)) (rw (own, other) fits.1)))

keeps_more : (ts : List Table) (t : Table) (st : Statement) → keeps_rules ts st ≡ true → keeps_rules (ts ++ t ∷ []) st ≡ true
keeps_more ts t st h = more_with ts t st (join_of st.action) h

-- the declarations

ruled_change : (above : Above) (p : List ℕ) (change : ProxyPlan → ProxyPlan) → are_ruled above.config ≡ true
    → ((plan : ProxyPlan) → plan_of above.config p ≡ Some plan → is_ruled plan ≡ true → is_ruled (change plan) ≡ true) → are_ruled (with_plan above p change).config ≡ true
unfolding with_plan
ruled_change above p change h kept =
    let C : Config = above.config in
    all_changed is_ruled change (proxy_number C p) C.proxies h (λ i plan o e r. kept plan (ap (λ (k : Option ℕ). option_and_then (slice_get C.proxies) k) o ∙ e) r)

pub ruled_proxy : (above : Above) (n : List ℕ) → are_ruled above.config ≡ true → are_ruled (after above (Proxy n)).config ≡ true
ruled_proxy above n h = list_all_push is_ruled above.config.proxies (record { name = n; tables = []; queries = [] }) h refl

pub ruled_table : (above : Above) (p t : List ℕ) (columns : List ColumnWords) → are_ruled above.config ≡ true → are_ruled (after above (TableLine p t columns)).config ≡ true
ruled_table above p t columns h =
    let new : Table = table_of t columns in
    ruled_change above p (with_table new) h (λ plan is r.
    list_all_weaker (λ (x : Query). keeps_rules plan.tables x.statement) (λ (x : Query). keeps_rules (plan.tables ++ new ∷ []) x.statement) plan.queries (λ x k. keeps_more plan.tables new x.statement k) r)

pub ruled_row : (above : Above) (p t text : List ℕ) → are_ruled above.config ≡ true → are_ruled (after above (Row p t text)).config ≡ true
ruled_row above p t text h =
    let values : List Value = row_values text in
    ruled_change above p (with_row_in t values) h (λ plan is r.
    let place : Option ℕ = table_number plan.tables t in
    let now : List Table = changed_at place (with_row values) plan.tables in
    list_all_weaker (λ (x : Query). keeps_rules plan.tables x.statement) (λ (x : Query). keeps_rules now x.statement) plan.queries (λ x k.
    keeps_like plan.tables now x.statement (length_changed (with_row values) place plan.tables)
    (λ n. seen_changed columns_in (with_row values) place plan.tables n (λ table. refl)) k) r)

compiled_as : (r : Result Statement Refusal) (st : Statement) → result_ok r ≡ Some st → r ≡ Ok st
compiled_as (Ok x) st h = cc
compiled_as (Err e) st h = absurd (cc)

query_ruled : (number : ℕ) (o : Option Statement) (plan : ProxyPlan) → ((st : Statement) → o ≡ Some st → keeps_rules plan.tables st ≡ true) → is_ruled plan ≡ true → is_ruled (with_query number o plan) ≡ true
query_ruled number None plan kept h = h
query_ruled number (Some st) plan kept h =
    list_all_push (λ (x : Query). keeps_rules plan.tables x.statement) plan.queries (record { number = number; statement = st }) h (kept st refl)

pub ruled_query : (above : Above) (p number text : List ℕ) → are_ruled above.config ≡ true → are_ruled (after above (QueryLine p number text)).config ≡ true
unfolding statement_at
ruled_query above p number text h =
    let C : Config = above.config in
    ruled_change above p (with_query (decimal_value number) (statement_at C p text)) h (λ plan is r.
    query_ruled (decimal_value number) (statement_at C p text) plan (λ st e.
    let same : tables_at C p ≡ plan.tables = ap tables_of is in
    rw same at (compiled_keeps (tables_at C p) text st (compiled_as (compiled (tables_at C p) text) st e))) r)
