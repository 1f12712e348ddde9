-- A lawful file gives a sound configuration: what is declared of a proxy.
use Rattle.std.proofs.Common.{◌≡◌, ℕ, ◌+◌, ◌<◌, ◌==◌, true, false, not, ◌||◌, cond, List, [], ◌∷◌, ◌++◌, length, map, nat_lt, nat_le, Option, Some, None, refl, sym, ap, ◌∙◌}
use Rattle.std.specs.Prelude.{slice_get, unwrap_or, is_some, is_none, option_and_then, count_by, fold}
use Rattle.std.specs.List.{list_all, list_any}
use Rattle.std.proofs.lemmas.Bool.{and_parts, and_from, not-true, not-false, le-leb, ltb-false}
use Rattle.std.proofs.lemmas.List.{map-append, length-map}
use Rattle.std.proofs.lemmas.List.Folds.{list_any-append, list_all-append}
use Rattle.okws_base.specs.Value.{same_bytes}
use Rattle.okws_base.specs.declared.limit.TheConstants.{MOST_TABLES, MOST_COLUMNS, MOST_QUERIES}
use Rattle.okws_base.specs.declared.value.Value.{Value}
use Rattle.okws_plan.specs.Configuration.{tables_of, queries_of}
use Rattle.okws_plan.specs.Fits.{fits}
use Rattle.okws_plan.specs.Meaning.{is_taken, is_taken_at, key_place}
use Rattle.okws_plan.specs.Sound.{IsSound, are_distinct, names_query, is_sound_plan, is_sound_table, same_key, same_key_at, column_kinds}
use Rattle.okws_plan.specs.declared.configuration.Config.{Config}
use Rattle.okws_plan.specs.declared.configuration.Column.{Column}
use Rattle.okws_plan.specs.declared.configuration.Granted.{Granted}
use Rattle.okws_plan.specs.declared.configuration.ProxyPlan.{ProxyPlan}
use Rattle.okws_plan.specs.declared.configuration.Query.{Query}
use Rattle.okws_plan.specs.declared.configuration.ServicePlan.{ServicePlan}
use Rattle.okws_plan.specs.declared.configuration.Table.{Table}
use Rattle.okws_plan.specs.declared.statement.Statement.{Statement}
use Rattle.plain_text.specs.Decimals.{decimal_value}
use Rattle.config_reader.specs.Above.{Above, proxy_number, service_number, table_number, plan_of, tables_at, queries_at, table_at, has_query}
use Rattle.config_reader.specs.After.{after, with_plan, with_table, table_of, with_row, with_row_in, with_query, granted_of}
use Rattle.config_syntax.specs.Columns.{repeats, key_count, column_of}
use Rattle.config_reader.specs.Broken.{found, takes_table, takes_query, has_too_many_tables, has_too_many_queries, can_hold, is_row_in, is_row_of, row_values, statement_at}
use Rattle.config_syntax.specs.Declarations.{Table as TableLine, Row, Query as QueryLine, Grant, ColumnWords}
use Rattle.config_reader.proofs.Lists.{or_false, room, length_push, list_all_push, list_all_weaker, any_map, distinct_push, found_below, map_changed, length_changed, all_changed, get_changed}
use Rattle.config_reader.proofs.Sound.{name_push, has_number}
use Rattle.config_reader.proofs.Unbroken.{IsUnbroken}

-- a change of one proxy that keeps its name and its queries, and keeps it sound
sound_change : (above : Above) (p : List ℕ) (change : ProxyPlan → ProxyPlan) → IsSound above.config → ((plan : ProxyPlan) → (change plan).name ≡ plan.name)
    → ((q : ℕ) (plan : ProxyPlan) → has_number q (Some plan) ≡ true → has_number q (Some (change plan)) ≡ true)
    → ((plan : ProxyPlan) → plan_of above.config p ≡ Some plan → is_sound_plan plan ≡ true → is_sound_plan (change plan) ≡ true) → IsSound (with_plan above p change).config
unfolding with_plan
sound_change above p change s names grows sound =
    let C : Config = above.config in
    let place : Option ℕ = proxy_number C p in
    record {
      few_proxies = rw (length_changed change place C.proxies) s.few_proxies;
      few_services = s.few_services;
      few_templates = s.few_templates;
      low_retry = s.low_retry;
      proxy_names = ap (are_distinct same_bytes) (map_changed (λ (x : ProxyPlan). x.name) change place C.proxies names) ∙ s.proxy_names;
      service_names = s.service_names;
      template_names = s.template_names;
      distinct_paths = s.distinct_paths;
      owners = s.owners;
      granted = list_all_weaker (names_query C) _ C.grants (λ g h.
          let parts = and_parts (nat_lt g.service (length C.services)) (has_number g.query (slice_get C.proxies g.proxy)) h in
          and_from _ _ parts.0 (get_changed (has_number g.query) change place C.proxies g.proxy (grows g.query) parts.1)) s.granted;
      readable = s.readable;
      logging = s.logging;
      plans = all_changed is_sound_plan change place C.proxies s.plans (λ i plan o e h.
          sound plan (ap (λ (k : Option ℕ). option_and_then (slice_get C.proxies) k) o ∙ e) h);
    }

record PlanParts (plan : ProxyPlan) : Type 0 where
  tables : nat_le (length plan.tables) MOST_TABLES ≡ true
  queries : nat_le (length plan.queries) MOST_QUERIES ≡ true
  names : are_distinct same_bytes (map (λ (t : Table). t.name) plan.tables) ≡ true
  numbers : are_distinct (λ (a b : ℕ). a == b) (map (λ (q : Query). q.number) plan.queries) ≡ true
  each : list_all is_sound_table plan.tables ≡ true

parts_of : (plan : ProxyPlan) → is_sound_plan plan ≡ true → PlanParts plan
parts_of plan h =
    let a = and_parts _ _ h in
    let b = and_parts _ _ a.1 in
    let c = and_parts _ _ b.1 in
    let d = and_parts _ _ c.1 in
    record { tables = a.0; queries = b.0; names = c.0; numbers = d.0; each = d.1 }

of_parts : (plan : ProxyPlan) → PlanParts plan → is_sound_plan plan ≡ true
of_parts plan a = and_from _ _ a.tables (and_from _ _ a.queries (and_from _ _ a.names (and_from _ _ a.numbers a.each)))

-- columns

fold_map : {A B : Type 0} (f : A → B) (g : ℕ → B → ℕ) (n : ℕ) (xs : List A) → fold g n (map f xs) ≡ fold (λ (m : ℕ) (x : A). g m (f x)) n xs
fold_map f g n [] = refl
fold_map f g n (x ∷ more) = fold_map f g (g n (f x)) more

key_count_map : (columns : List ColumnWords) → count_by (λ (c : Column). c.key) (map column_of columns) ≡ key_count columns
key_count_map columns = fold_map column_of (λ (n : ℕ) (c : Column). n + cond c.key 1 0) 0 columns

column_names : (columns : List ColumnWords) → repeats columns ≡ false → are_distinct same_bytes (map (λ (c : Column). c.name) (map column_of columns)) ≡ true
column_names [] h = refl
column_names (c ∷ more) h =
    let parts = or_false (list_any (λ (other : ColumnWords). same_bytes c.name other.name) more) (repeats more) h in
    let here : list_any (same_bytes c.name) (map (λ (x : Column). x.name) (map column_of more)) ≡ false =
    any_map (same_bytes c.name) (λ (x : Column). x.name) (map column_of more) ∙ any_map (λ (x : Column). same_bytes c.name x.name) column_of more ∙ parts.0 in
    rw (here, column_names more parts.1) refl

not_above : (n : ℕ) → nat_lt 1 n ≡ false → nat_le n 1 ≡ true
not_above n h = le-leb n 1 (ltb-false 1 n h)

sound_table : (t : List ℕ) (columns : List ColumnWords) → nat_le (length columns) MOST_COLUMNS ≡ true → repeats columns ≡ false → nat_lt 1 (key_count columns) ≡ false → is_sound_table (table_of t columns) ≡ true
sound_table t columns few distinct one =
    let a : nat_le (length (map column_of columns)) MOST_COLUMNS ≡ true = rw (length-map columns column_of) few in
    let b : nat_le (count_by (λ (c : Column). c.key) (map column_of columns)) 1 ≡ true = rw (key_count_map columns) (not_above (key_count columns) one) in
    and_from _ _ a (and_from _ _ (column_names columns distinct) (and_from _ _ b refl))

pub after_table : (above : Above) (p t : List ℕ) (columns : List ColumnWords) → IsSound above.config → IsUnbroken above (TableLine p t columns) → IsSound (after above (TableLine p t columns)).config
unfolding takes_table has_too_many_tables
after_table above p t columns s u =
    let C : Config = above.config in
    let free = or_false (is_some (table_number (tables_at C p) t)) (repeats columns) u.free in
    let few = or_false (not (nat_lt (length (tables_at C p)) MOST_TABLES)) (not (nat_le (length columns) MOST_COLUMNS)) u.few in
    let new : Table = table_of t columns in
    sound_change above p (with_table new) s (λ plan. refl) (λ q plan h. h) (λ plan is h.
    let a = parts_of plan h in
    let same : tables_at C p ≡ plan.tables = ap tables_of is in
    let less : length plan.tables < MOST_TABLES = rw same at (room (length (tables_at C p)) MOST_TABLES few.0) in
    let name : is_some (table_number plan.tables t) ≡ false = ap (λ (ts : List Table). is_some (table_number ts t)) (sym same) ∙ free.0 in
    of_parts (with_table new plan) (record {
      tables = le-leb (length (plan.tables ++ new ∷ [])) MOST_TABLES (length_push plan.tables new MOST_TABLES less);
      queries = a.queries;
      names = name_push (λ (x : Table). x.name) plan.tables new a.names name;
      numbers = a.numbers;
      each = list_all_push is_sound_table plan.tables new a.each (sound_table t columns (not-false (nat_le (length columns) MOST_COLUMNS) few.1) free.1 u.keys);
    }))

-- rows

no_key : (rows : List (List Value)) (new : List Value) → list_any (λ (row : List Value). same_key_at None row new) rows ≡ false
no_key [] new = refl
no_key (row ∷ more) new = no_key more new

taken_at : (k : Option ℕ) (rows : List (List Value)) (new : List Value) → list_any (λ (row : List Value). same_key_at k row new) rows ≡ is_taken_at k rows new
taken_at None rows new = no_key rows new
taken_at (Some k) rows new = refl

record TableParts (t : Table) : Type 0 where
  columns : nat_le (length t.columns) MOST_COLUMNS ≡ true
  names : are_distinct same_bytes (map (λ (c : Column). c.name) t.columns) ≡ true
  keys : nat_le (count_by (λ (c : Column). c.key) t.columns) 1 ≡ true
  fit : list_all (λ (row : List Value). fits (column_kinds t.columns) row) t.first ≡ true
  apart : are_distinct (same_key t.columns) t.first ≡ true

table_parts : (t : Table) → is_sound_table t ≡ true → TableParts t
table_parts t h =
    let a = and_parts _ _ h in
    let b = and_parts _ _ a.1 in
    let c = and_parts _ _ b.1 in
    let d = and_parts _ _ c.1 in
    record { columns = a.0; names = b.0; keys = c.0; fit = d.0; apart = d.1 }

of_table_parts : (t : Table) → TableParts t → is_sound_table t ≡ true
of_table_parts t a = and_from _ _ a.columns (and_from _ _ a.names (and_from _ _ a.keys (and_from _ _ a.fit a.apart)))

sound_row : (table : Table) (values : List Value) → is_row_of table values ≡ true → is_sound_table table ≡ true → is_sound_table (with_row values table) ≡ true
sound_row table values fit h =
    let a = table_parts table h in
    let new = and_parts (fits (column_kinds table.columns) values) (not (is_taken table.columns table.first values)) fit in
    let free : list_any (λ (row : List Value). same_key table.columns row values) table.first ≡ false = taken_at (key_place table.columns) table.first values ∙ not-true (is_taken table.columns table.first values) new.1 in
    of_table_parts (with_row values table) (record {
      columns = a.columns;
      names = a.names;
      keys = a.keys;
      fit = list_all_push (λ (row : List Value). fits (column_kinds table.columns) row) table.first values a.fit new.0;
      apart = distinct_push (same_key table.columns) table.first values a.apart free;
    })

pub after_row : (above : Above) (p t text : List ℕ) → IsSound above.config → IsUnbroken above (Row p t text) → IsSound (after above (Row p t text)).config
unfolding can_hold
after_row above p t text s u =
    let C : Config = above.config in
    let values : List Value = row_values text in
    let held : is_row_in (table_at C p t) values ≡ true = not-false (can_hold C p t values) u.fits in
    sound_change above p (with_row_in t values) s (λ plan. refl) (λ q plan h. h) (λ plan is h.
    let a = parts_of plan h in
    let same : tables_at C p ≡ plan.tables = ap tables_of is in
    let place : Option ℕ = table_number plan.tables t in
    let here : is_row_in (option_and_then (slice_get plan.tables) place) values ≡ true = ap (λ (ts : List Table). is_row_in (option_and_then (slice_get ts) (table_number ts t)) values) (sym same) ∙ held in
    of_parts (with_row_in t values plan) (record {
      tables = rw (length_changed (with_row values) place plan.tables) a.tables;
      queries = a.queries;
      names = ap (are_distinct same_bytes) (map_changed (λ (x : Table). x.name) (with_row values) place plan.tables (λ x. refl)) ∙ a.names;
      numbers = a.numbers;
      each = all_changed is_sound_table (with_row values) place plan.tables a.each (λ i table o e q.
          sound_row table values (ap (λ (x : Option Table). is_row_in x values) (sym (ap (λ (k : Option ℕ). option_and_then (slice_get plan.tables) k) o ∙ e)) ∙ here) q);
    }))

-- queries

query_name : (number : ℕ) (o : Option Statement) (plan : ProxyPlan) → (with_query number o plan).name ≡ plan.name
query_name number None plan = refl
query_name number (Some st) plan = refl

query_grows : (number : ℕ) (o : Option Statement) (q : ℕ) (plan : ProxyPlan) → has_number q (Some plan) ≡ true → has_number q (Some (with_query number o plan)) ≡ true
query_grows number None q plan h = h
query_grows number (Some st) q plan h =
    rw (list_any-append (λ (x : Query). x.number == q) plan.queries (record { number = number; statement = st } ∷ []), h) refl

query_sound : (number : ℕ) (o : Option Statement) (plan : ProxyPlan) → length plan.queries < MOST_QUERIES → has_query plan.queries number ≡ false → is_sound_plan plan ≡ true → is_sound_plan (with_query number o plan) ≡ true
query_sound number None plan less free h = h
query_sound number (Some st) plan less free h =
    let a = parts_of plan h in
    let new : Query = record { number = number; statement = st } in
    let other : list_any (λ (n : ℕ). n == number) (map (λ (q : Query). q.number) plan.queries) ≡ false = any_map (λ (n : ℕ). n == number) (λ (q : Query). q.number) plan.queries ∙ free in
    of_parts (with_query number (Some st) plan) (record {
      tables = a.tables;
      queries = le-leb (length (plan.queries ++ new ∷ [])) MOST_QUERIES (length_push plan.queries new MOST_QUERIES less);
      names = a.names;
      numbers = ap (are_distinct (λ (x y : ℕ). x == y)) (map-append (λ (q : Query). q.number) plan.queries (new ∷ []))
          ∙ distinct_push (λ (x y : ℕ). x == y) (map (λ (q : Query). q.number) plan.queries) number a.numbers other;
      each = a.each;
    })

pub after_query : (above : Above) (p number text : List ℕ) → IsSound above.config → IsUnbroken above (QueryLine p number text) → IsSound (after above (QueryLine p number text)).config
unfolding takes_query has_too_many_queries
after_query above p number text s u =
    let C : Config = above.config in
    let n : ℕ = decimal_value number in
    let o : Option Statement = statement_at C p text in
    sound_change above p (with_query n o) s (query_name n o) (query_grows n o) (λ plan is h.
    let same : queries_at C p ≡ plan.queries = ap queries_of is in
    let less : length plan.queries < MOST_QUERIES = rw same at (room (length (queries_at C p)) MOST_QUERIES u.few) in
    let free : has_query plan.queries n ≡ false = ap (λ (qs : List Query). has_query qs n) (sym same) ∙ u.free in
    query_sound n o plan less free h)

-- grants

named : (C : Config) (s p : ℕ) (queries : List Query) (numbers : List ℕ) → nat_lt s (length C.services) ≡ true → queries_of (slice_get C.proxies p) ≡ queries → list_all (has_query queries) numbers ≡ true → list_all (names_query C) (granted_of s p numbers) ≡ true
named C s p queries [] low same h = refl
named C s p queries (q ∷ more) low same h =
    let parts = and_parts (has_query queries q) (list_all (has_query queries) more) h in
    let here : has_number q (slice_get C.proxies p) ≡ true = ap (λ (qs : List Query). has_query qs q) same ∙ parts.0 in
    and_from _ _ (and_from _ _ low here) (named C s p queries more low same parts.1)

at_found : (C : Config) (o : Option ℕ) → is_none o ≡ false → slice_get C.proxies (unwrap_or o 0) ≡ option_and_then (slice_get C.proxies) o
at_found C None h = absurd (cc)
at_found C (Some k) h = refl

pub after_grant : (above : Above) (name p : List ℕ) (numbers : List (List ℕ)) → IsSound above.config → IsUnbroken above (Grant name p numbers) → IsSound (after above (Grant name p numbers)).config
after_grant above name p numbers s u =
    let C : Config = above.config in
    let known = or_false (is_none (service_number C name)) (is_none (proxy_number C p) || not (list_all (has_query (queries_at C p)) (map decimal_value numbers))) u.declared in
    let rest = or_false (is_none (proxy_number C p)) (not (list_all (has_query (queries_at C p)) (map decimal_value numbers))) known.1 in
    let new : List Granted = granted_of (found (service_number C name)) (found (proxy_number C p)) (map decimal_value numbers) in
    let low : nat_lt (found (service_number C name)) (length C.services) ≡ true = found_below (λ (x : ServicePlan). same_bytes x.name name) C.services known.0 in
    let each : list_all (names_query C) new ≡ true = named C _ _ (queries_at C p) (map decimal_value numbers) low (ap queries_of (at_found C (proxy_number C p) rest.0)) (not-false _ rest.1) in
    record {
      few_proxies = s.few_proxies;
      few_services = s.few_services;
      few_templates = s.few_templates;
      low_retry = s.low_retry;
      proxy_names = s.proxy_names;
      service_names = s.service_names;
      template_names = s.template_names;
      distinct_paths = s.distinct_paths;
      owners = s.owners;
      granted = list_all-append (names_query C) C.grants new ∙ and_from _ _ s.granted each;
      readable = s.readable;
      logging = s.logging;
      plans = s.plans;
    }
