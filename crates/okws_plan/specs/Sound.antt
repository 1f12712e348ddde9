-- What every lawful configuration keeps.
use Rattle.std.specs.Prelude.{◌≡◌, ℕ, ◌≤◌, Bool, true, false, not, ◌&&◌, ◌==◌, nat_lt, nat_le, List, [], ◌∷◌, length, map, slice_get, count_by, Option, Some, None}
use Rattle.std.specs.List.{list_all, list_any}
use Rattle.okws_base.specs.Value.{same_bytes, value_eq}
use Rattle.okws_base.specs.declared.limit.TheConstants.{MOST_PROXIES, MOST_SERVICES, MOST_TEMPLATES, MOST_TABLES, MOST_COLUMNS, MOST_QUERIES, GREATEST_RETRY}
use Rattle.okws_base.specs.declared.value.Kind.{Kind}
use Rattle.okws_base.specs.declared.value.Value.{Value}
use Rattle.okws_plan.specs.Configuration.{queries_of}
use Rattle.okws_plan.specs.Fits.{fits}
use Rattle.okws_plan.specs.Meaning.{key_place, at_column}
use Rattle.okws_plan.specs.declared.configuration.Config.{Config}
use Rattle.okws_plan.specs.declared.configuration.ProxyPlan.{ProxyPlan}
use Rattle.okws_plan.specs.declared.configuration.ServicePlan.{ServicePlan}
use Rattle.okws_plan.specs.declared.configuration.Column.{Column}
use Rattle.okws_plan.specs.declared.configuration.Table.{Table}
use Rattle.okws_plan.specs.declared.configuration.Query.{Query}
use Rattle.okws_plan.specs.declared.configuration.Owned.{Owned}
use Rattle.okws_plan.specs.declared.configuration.Granted.{Granted}
use Rattle.okws_plan.specs.declared.configuration.Readable.{Readable}

-- No item of a list is the same as a later one.
abbrev pub are_distinct : {A : Type 0} → (A → A → Bool) → List A → Bool
are_distinct same [] = true
are_distinct {A} same (x ∷ more) = not (list_any (λ (later : A). same x later) more) && are_distinct same more

-- The values of two rows in the KEY column are the same; without a KEY column they never are.
abbrev pub same_key_at : Option ℕ → List Value → List Value → Bool
same_key_at None a b = false
same_key_at (Some k) a b = value_eq (at_column a k) (at_column b k)

-- Two rows have the same value in the KEY column.
abbrev pub same_key : List Column → List Value → List Value → Bool
same_key columns a b = same_key_at (key_place columns) a b

-- The kinds of the columns, in order.
abbrev pub column_kinds : List Column → List Kind
column_kinds columns = map (λ (c : Column). c.kind) columns

-- The first rows of a table fit its columns in count and kinds, and no two have one KEY value.
abbrev pub has_sound_rows : Table → Bool
has_sound_rows t = list_all (λ (row : List Value). fits (column_kinds t.columns) row) t.first && are_distinct (same_key t.columns) t.first

-- A table has at most 16 columns with names of their own, at most one of them KEY, and sound rows.
abbrev pub is_sound_table : Table → Bool
is_sound_table t =
    nat_le (length t.columns) MOST_COLUMNS && (are_distinct same_bytes (map (λ (c : Column). c.name) t.columns)
    && (nat_le (count_by (λ (c : Column). c.key) t.columns) 1 && has_sound_rows t))

-- A proxy has at most 32 tables with names of their own, at most 256 queries with numbers of their own, and its tables are sound.
abbrev pub is_sound_plan : ProxyPlan → Bool
is_sound_plan plan =
    nat_le (length plan.tables) MOST_TABLES && (nat_le (length plan.queries) MOST_QUERIES
    && (are_distinct same_bytes (map (λ (t : Table). t.name) plan.tables) && (are_distinct (λ (a b : ℕ). a == b) (map (λ (q : Query). q.number) plan.queries)
    && list_all is_sound_table plan.tables)))

-- A service and a query that are declared.
abbrev pub names_query : Config → Granted → Bool
names_query C g = nat_lt g.service (length C.services) && list_any (λ (q : Query). q.number == g.query) (queries_of (slice_get C.proxies g.proxy))

-- A service and a template that are declared.
abbrev pub names_template : Config → Readable → Bool
names_template C r = nat_lt r.service (length C.services) && nat_lt r.template (length C.templates)

-- What every configuration keeps that was read from a lawful file.
pub record IsSound (C : Config) : Type 0 where
  pub few_proxies : length C.proxies ≤ MOST_PROXIES
  pub few_services : length C.services ≤ MOST_SERVICES
  pub few_templates : length C.templates ≤ MOST_TEMPLATES
  pub low_retry : C.retry ≤ GREATEST_RETRY
  pub proxy_names : are_distinct same_bytes (map (λ (p : ProxyPlan). p.name) C.proxies) ≡ true
  pub service_names : are_distinct same_bytes (map (λ (s : ServicePlan). s.name) C.services) ≡ true
  pub template_names : are_distinct same_bytes C.templates ≡ true
  pub distinct_paths : are_distinct same_bytes (map (λ (o : Owned). o.path) C.paths) ≡ true
  pub owners : list_all (λ (o : Owned). nat_lt o.service (length C.services)) C.paths ≡ true
  pub granted : list_all (names_query C) C.grants ≡ true
  pub readable : list_all (names_template C) C.readables ≡ true
  pub logging : list_all (λ (s : ℕ). nat_lt s (length C.services)) C.loggers ≡ true
  pub plans : list_all is_sound_plan C.proxies ≡ true
