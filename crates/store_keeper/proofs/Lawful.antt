-- A site whose tables begin with other rows, which are sound.
use Rattle.std.proofs.Common.{◌≡◌, ◌∙◌, ℕ, zero, suc, ◌≤◌, ◌&&◌, Bool, true, List, [], ◌∷◌, length, map, refl, sym, ap, subst}
use Rattle.std.specs.Prelude.{◌==◌, nat_le, nat_lt, slice_get}
use Rattle.std.specs.List.{list_all, list_any, count_by}
use Rattle.std.proofs.lemmas.Bool.{and_from, and_parts}
use Rattle.std.proofs.lemmas.List.{length-map}
use Rattle.okws_base.specs.declared.limit.TheConstants.{MOST_COLUMNS, MOST_PROXIES, MOST_QUERIES, MOST_TABLES}
use Rattle.okws_base.specs.Value.{same_bytes}
use Rattle.okws_plan.specs.Configuration.{queries_of}
use Rattle.okws_plan.specs.Sound.{IsSound, are_distinct, has_sound_rows, is_sound_plan, is_sound_table, names_query}
use Rattle.okws_plan.specs.declared.configuration.Column.{Column}
use Rattle.okws_plan.specs.declared.configuration.Config.{Config}
use Rattle.okws_plan.specs.declared.configuration.Granted.{Granted}
use Rattle.okws_plan.specs.declared.configuration.ProxyPlan.{ProxyPlan}
use Rattle.okws_plan.specs.declared.configuration.Query.{Query}
use Rattle.okws_plan.specs.declared.configuration.Table.{Table}
use Rattle.store_keeper.specs.Alike.{AreAlike, bare}
use Rattle.store_keeper.specs.Sites.{bare_plan}
use Rattle.store_keeper.proofs.Unsound.{of_parts, table_parts}

table_with : (t u : Table) → bare t ≡ bare u → is_sound_table u ≡ true → has_sound_rows t ≡ true → is_sound_table t ≡ true
table_with t u alike h rows =
    let parts = table_parts u h in
    let same : u.columns ≡ t.columns = ap (λ (x : Table). x.columns) (sym alike) in
    of_parts t (record {
      columns = subst (λ (cs : List Column). nat_le (length cs) MOST_COLUMNS ≡ true) same parts.columns;
      names = subst (λ (cs : List Column). are_distinct same_bytes (map (λ (c : Column). c.name) cs) ≡ true) same parts.names;
      keys = subst (λ (cs : List Column). nat_le (count_by (λ (c : Column). c.key) cs) 1 ≡ true) same parts.keys;
      rows = rows;
    })

head_or : List Table → Table → Table
head_or [] d = d
head_or (t ∷ ts) d = t

tail_of : List Table → List Table
tail_of [] = []
tail_of (t ∷ ts) = ts

tables_with : (ts us : List Table) → map bare ts ≡ map bare us → list_all is_sound_table us ≡ true → list_all has_sound_rows ts ≡ true → list_all is_sound_table ts ≡ true
unfolding head_or tail_of
tables_with [] us alike h rows = refl
tables_with (t ∷ ts) [] alike h rows = cc
tables_with (t ∷ ts) (u ∷ us) alike h rows =
    let both = and_parts (is_sound_table u) (list_all is_sound_table us) h in
    let mine = and_parts (has_sound_rows t) (list_all has_sound_rows ts) rows in
    and_from (is_sound_table t) (list_all is_sound_table ts) (table_with t u (ap (λ (xs : List Table). head_or xs (bare t)) alike) both.0 mine.0) (tables_with ts us (ap tail_of alike) both.1 mine.1)

names_bare : (ts : List Table) → map (λ (t : Table). t.name) (map bare ts) ≡ map (λ (t : Table). t.name) ts
names_bare [] = refl
names_bare (t ∷ ts) = ap (λ (xs : List (List ℕ)). t.name ∷ xs) (names_bare ts)

-- a plan whose tables begin with other rows is sound where these are
pub plan_with : (plan : ProxyPlan) (ts : List Table) → AreAlike ts plan.tables → is_sound_plan plan ≡ true → list_all has_sound_rows ts ≡ true → is_sound_plan (record plan { tables = ts }) ≡ true
plan_with plan ts alike h rows =
    let old : List Table = plan.tables in
    let queries : Bool = nat_le (length plan.queries) MOST_QUERIES in
    let numbers : Bool = are_distinct (λ (a b : ℕ). a == b) (map (λ (q : Query). q.number) plan.queries) in
    let names : List Table → Bool = λ (xs : List Table). are_distinct same_bytes (map (λ (t : Table). t.name) xs) in
    let one = and_parts (nat_le (length old) MOST_TABLES) (queries && (names old && (numbers && list_all is_sound_table old))) h in
    let two = and_parts queries (names old && (numbers && list_all is_sound_table old)) one.1 in
    let three = and_parts (names old) (numbers && list_all is_sound_table old) two.1 in
    let four = and_parts numbers (list_all is_sound_table old) three.1 in
    let many : length old ≡ length ts = sym (length-map old bare) ∙ ap length (sym alike) ∙ length-map ts bare in
    let named : map (λ (t : Table). t.name) old ≡ map (λ (t : Table). t.name) ts = sym (names_bare old) ∙ ap (map (λ (t : Table). t.name)) (sym alike) ∙ names_bare ts in
    and_from (nat_le (length ts) MOST_TABLES) (queries && (names ts && (numbers && list_all is_sound_table ts))) (subst (λ (n : ℕ). nat_le n MOST_TABLES ≡ true) many one.0)
    (and_from queries (names ts && (numbers && list_all is_sound_table ts)) two.0
    (and_from (names ts) (numbers && list_all is_sound_table ts) (subst (λ (ns : List (List ℕ)). are_distinct same_bytes ns ≡ true) named three.0)
    (and_from numbers (list_all is_sound_table ts) four.0 (tables_with ts old alike four.1 rows))))

plan_names_bare : (ps : List ProxyPlan) → map (λ (p : ProxyPlan). p.name) (map bare_plan ps) ≡ map (λ (p : ProxyPlan). p.name) ps
plan_names_bare [] = refl
plan_names_bare (p ∷ ps) = ap (λ (xs : List (List ℕ)). p.name ∷ xs) (plan_names_bare ps)

queries_bare : (ps : List ProxyPlan) (p : ℕ) → queries_of (slice_get (map bare_plan ps) p) ≡ queries_of (slice_get ps p)
queries_bare [] p = refl
queries_bare (x ∷ ps) zero = refl
queries_bare (x ∷ ps) (suc p) = queries_bare ps p

all_named : (C D : Config) (grants : List Granted) → ((g : Granted) → names_query C g ≡ names_query D g) → list_all (names_query C) grants ≡ true → list_all (names_query D) grants ≡ true
all_named C D [] same h = refl
all_named C D (g ∷ grants) same h =
    let both = and_parts (names_query C g) (list_all (names_query C) grants) h in
    and_from (names_query D g) (list_all (names_query D) grants) (sym (same g) ∙ both.0) (all_named C D grants same both.1)

-- a site whose proxies' tables begin with other rows is sound where its plans are
pub site_with : (C : Config) (plans : List ProxyPlan) → map bare_plan plans ≡ map bare_plan C.proxies → list_all is_sound_plan plans ≡ true → IsSound C → IsSound (record C { proxies = plans })
site_with C plans alike all h =
    let many : length C.proxies ≡ length plans = sym (length-map C.proxies bare_plan) ∙ ap length (sym alike) ∙ length-map plans bare_plan in
    let named : map (λ (p : ProxyPlan). p.name) C.proxies ≡ map (λ (p : ProxyPlan). p.name) plans = sym (plan_names_bare C.proxies) ∙ ap (map (λ (p : ProxyPlan). p.name)) (sym alike) ∙ plan_names_bare plans in
    let asked : (p : ℕ) → queries_of (slice_get C.proxies p) ≡ queries_of (slice_get plans p) =
    λ p. sym (queries_bare C.proxies p) ∙ ap (λ (ps : List ProxyPlan). queries_of (slice_get ps p)) (sym alike) ∙ queries_bare plans p in
    record {
      few_proxies = subst (λ (n : ℕ). n ≤ MOST_PROXIES) many h.few_proxies;
      few_services = h.few_services;
      few_templates = h.few_templates;
      low_retry = h.low_retry;
      proxy_names = subst (λ (ns : List (List ℕ)). are_distinct same_bytes ns ≡ true) named h.proxy_names;
      service_names = h.service_names;
      template_names = h.template_names;
      distinct_paths = h.distinct_paths;
      owners = h.owners;
      granted = all_named C (record C { proxies = plans }) C.grants (λ g. ap (λ (qs : List Query). nat_lt g.service (length C.services) && list_any (λ (q : Query). q.number == g.query) qs) (asked g.proxy)) h.granted;
      readable = h.readable;
      logging = h.logging;
      plans = all;
    }
