-- Proxies of which each part is the same have the same tables, and the same query under each number.
use Rattle.std.proofs.Common.{◌≡◌, ℕ, zero, suc, true, ◌&&◌, List, [], ◌∷◌, map, slice_get, refl, sym, ap, ◌∙◌}
use Rattle.std.specs.Prelude.{◌==◌}
use Rattle.std.specs.Cmp.Lexicographic.{pointwise}
use Rattle.std.proofs.lemmas.Bool.{false≢true, and_parts, and_from, eqb-true}
use Rattle.okws_base.specs.Value.{same_bytes}
use Rattle.okws_plan.specs.Configuration.{tables_of, queries_of}
use Rattle.okws_plan.specs.declared.configuration.ProxyPlan.{ProxyPlan}
use Rattle.okws_plan.specs.declared.configuration.Query.{Query}
use Rattle.okws_plan.specs.declared.configuration.Table.{Table}
use Rattle.config_diff.specs.Sameness.{same_option, same_column, same_shape, same_first_rows, same_query, same_part, query_in, agree_on_queries, same_queries}
use Rattle.config_diff.specs.declared.site.ProxyPart.TheVariants.{Name, Tables, FirstRows, Queries}
use Rattle.config_diff.proofs.Decided.{bytes_same, bytes_itself, rows_decide, column_same, column_itself, query_same, query_itself}
use Rattle.config_diff.proofs.Lists.{list_same, list_itself, lists_are, options_are, all_of, one_under_key}

-- names

abbrev pub names : List ProxyPlan → List (List ℕ)
names plans = map (λ (plan : ProxyPlan). plan.name) plans

pub names_same : (xs ys : List ProxyPlan) → pointwise (same_part Name) xs ys ≡ true → names xs ≡ names ys
names_same [] [] h = refl
names_same [] (y ∷ ys) h = absurd (false≢true h)
names_same (x ∷ xs) [] h = absurd (false≢true h)
names_same (x ∷ xs) (y ∷ ys) h = let both = and_parts (same_bytes x.name y.name) (pointwise (same_part Name) xs ys) h in λ i. bytes_same x.name y.name both.0 i ∷ names_same xs ys both.1 i

by_names : (xs ys : List ProxyPlan) → pointwise same_bytes (names xs) (names ys) ≡ pointwise (same_part Name) xs ys
by_names [] [] = refl
by_names [] (y ∷ ys) = refl
by_names (x ∷ xs) [] = refl
by_names (x ∷ xs) (y ∷ ys) = ap (λ b. same_bytes x.name y.name && b) (by_names xs ys)

pub names_are : (xs ys : List ProxyPlan) → names xs ≡ names ys → pointwise (same_part Name) xs ys ≡ true
names_are xs ys e = sym (by_names xs ys) ∙ lists_are same_bytes bytes_itself (names xs) (names ys) e

-- tables

tables_same : (ts us : List Table) → pointwise same_shape ts us ≡ true → pointwise same_first_rows ts us ≡ true → ts ≡ us
tables_same [] [] h k = refl
tables_same [] (u ∷ us) h k = absurd (false≢true h)
tables_same (t ∷ ts) [] h k = absurd (false≢true h)
tables_same (t ∷ ts) (u ∷ us) h k =
    let one = and_parts (same_shape t u) (pointwise same_shape ts us) h in
    let two = and_parts (same_first_rows t u) (pointwise same_first_rows ts us) k in
    let shape = and_parts (same_bytes t.name u.name) (pointwise same_column t.columns u.columns) one.0 in
    λ i. record {
      name = bytes_same t.name u.name shape.0 i;
      columns = list_same same_column column_same t.columns u.columns shape.1 i;
      first = (rows_decide t.first u.first).0 two.0 i;
    } ∷ tables_same ts us one.1 two.1 i

pub tables_at : (xs ys : List ProxyPlan) → pointwise (same_part Tables) xs ys ≡ true → pointwise (same_part FirstRows) xs ys ≡ true → (p : ℕ) → tables_of (slice_get xs p) ≡ tables_of (slice_get ys p)
tables_at [] [] h k p = refl
tables_at [] (y ∷ ys) h k p = absurd (false≢true h)
tables_at (x ∷ xs) [] h k p = absurd (false≢true h)
tables_at (x ∷ xs) (y ∷ ys) h k zero = tables_same x.tables y.tables (and_parts (same_part Tables x y) (pointwise (same_part Tables) xs ys) h).0 (and_parts (same_part FirstRows x y) (pointwise (same_part FirstRows) xs ys) k).0
tables_at (x ∷ xs) (y ∷ ys) h k (suc p) = tables_at xs ys (and_parts (same_part Tables x y) (pointwise (same_part Tables) xs ys) h).1 (and_parts (same_part FirstRows x y) (pointwise (same_part FirstRows) xs ys) k).1 p

shape_itself : (t : Table) → same_shape t t ≡ true
shape_itself t = and_from (same_bytes t.name t.name) _ (bytes_itself t.name) (list_itself same_column column_itself t.columns)

first_itself : (t : Table) → same_first_rows t t ≡ true
first_itself t = (rows_decide t.first t.first).1 refl

pub shapes_are : (xs ys : List ProxyPlan) → pointwise (same_part Name) xs ys ≡ true → ((p : ℕ) → tables_of (slice_get xs p) ≡ tables_of (slice_get ys p)) → pointwise (same_part Tables) xs ys ≡ true
shapes_are [] [] h k = refl
shapes_are [] (y ∷ ys) h k = absurd (false≢true h)
shapes_are (x ∷ xs) [] h k = absurd (false≢true h)
shapes_are (x ∷ xs) (y ∷ ys) h k =
    and_from (same_part Tables x y) (pointwise (same_part Tables) xs ys) (lists_are same_shape shape_itself x.tables y.tables (k zero))
    (shapes_are xs ys (and_parts (same_part Name x y) (pointwise (same_part Name) xs ys) h).1 (λ p. k (suc p)))

pub rows_are : (xs ys : List ProxyPlan) → pointwise (same_part Name) xs ys ≡ true → ((p : ℕ) → tables_of (slice_get xs p) ≡ tables_of (slice_get ys p)) → pointwise (same_part FirstRows) xs ys ≡ true
rows_are [] [] h k = refl
rows_are [] (y ∷ ys) h k = absurd (false≢true h)
rows_are (x ∷ xs) [] h k = absurd (false≢true h)
rows_are (x ∷ xs) (y ∷ ys) h k =
    and_from (same_part FirstRows x y) (pointwise (same_part FirstRows) xs ys) (lists_are same_first_rows first_itself x.tables y.tables (k zero))
    (rows_are xs ys (and_parts (same_part Name x y) (pointwise (same_part Name) xs ys) h).1 (λ p. k (suc p)))

-- queries

one_query : (xs ys : List Query) → same_queries xs ys ≡ true → (q : ℕ) → query_in xs q ≡ query_in ys q
one_query xs ys h q =
    let both = and_parts (agree_on_queries xs xs ys) (agree_on_queries ys xs ys) h in
    one_under_key same_query query_same (λ (x : Query). x.number) (λ (n : ℕ) (x : Query). x.number == n) (λ n x is. eqb-true x.number n is) xs ys q both.0 both.1

pub queries_at : (xs ys : List ProxyPlan) → pointwise (same_part Queries) xs ys ≡ true → (p q : ℕ) → query_in (queries_of (slice_get xs p)) q ≡ query_in (queries_of (slice_get ys p)) q
queries_at [] [] h p q = refl
queries_at [] (y ∷ ys) h p q = absurd (false≢true h)
queries_at (x ∷ xs) [] h p q = absurd (false≢true h)
queries_at (x ∷ xs) (y ∷ ys) h zero q = one_query x.queries y.queries (and_parts (same_part Queries x y) (pointwise (same_part Queries) xs ys) h).0 q
queries_at (x ∷ xs) (y ∷ ys) h (suc p) q = queries_at xs ys (and_parts (same_part Queries x y) (pointwise (same_part Queries) xs ys) h).1 p q

agree_anywhere : (xs ys numbered : List Query) → ((q : ℕ) → query_in xs q ≡ query_in ys q) → agree_on_queries numbered xs ys ≡ true
agree_anywhere xs ys numbered h =
    all_of (λ (x : Query). same_option same_query (query_in xs x.number) (query_in ys x.number)) (λ x. options_are same_query query_itself (query_in xs x.number) (query_in ys x.number) (h x.number)) numbered

pub queries_are : (xs ys : List ProxyPlan) → pointwise (same_part Name) xs ys ≡ true
    → ((p q : ℕ) → query_in (queries_of (slice_get xs p)) q ≡ query_in (queries_of (slice_get ys p)) q) → pointwise (same_part Queries) xs ys ≡ true
queries_are [] [] h k = refl
queries_are [] (y ∷ ys) h k = absurd (false≢true h)
queries_are (x ∷ xs) [] h k = absurd (false≢true h)
queries_are (x ∷ xs) (y ∷ ys) h k =
    and_from (same_part Queries x y) (pointwise (same_part Queries) xs ys)
    (and_from (agree_on_queries x.queries x.queries y.queries) (agree_on_queries y.queries x.queries y.queries) (agree_anywhere x.queries y.queries x.queries (k zero)) (agree_anywhere x.queries y.queries y.queries (k zero)))
    (queries_are xs ys (and_parts (same_part Name x y) (pointwise (same_part Name) xs ys) h).1 (λ p. k (suc p)))
