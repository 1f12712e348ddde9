-- The canonical text of a join compiles to it again.
use Rattle.std.proofs.Common.{◌≡◌, ℕ, suc, zero, ◌-◌, ◌+◌, ◌≤◌, ◌<◌, Bool, true, false, not, ◌&&◌, ◌||◌, List, [], ◌∷◌, ◌++◌, map, replicate, Option, Some, None, option_map, Result, Ok, Err, refl, sym, ap, subst, ◌∙◌, ◌⊎◌, arith, length}
use Rattle.std.specs.Prelude.{nat_le, nat_lt, ◌==◌, slice_get, if◌then◌else◌}
use Rattle.std.specs.List.{list_all}
use Rattle.std.proofs.lemmas.Bool.{false≢true, true≢false, and_parts, and_from, leb-true, ltb-true, lt-ltb, ne_eqb, eq-eqb, not-true}
use Rattle.std.proofs.lemmas.List.{length-map, length-append}
use Rattle.std.proofs.lemmas.Option.{slice_get_past}
use Rattle.okws_base.specs.Value.{same_bytes, same_kind}
use Rattle.okws_base.specs.declared.limit.TheConstants.{MOST_PARAMETERS}
use Rattle.okws_base.specs.declared.value.Kind.{Kind}
use Rattle.okws_plan.specs.Configuration.{numbered_from}
use Rattle.okws_plan.specs.Meaning.{columns_in, columns_of}
use Rattle.okws_plan.specs.Rules.{keeps_rules, selection_fits, is_column, condition_fits, stands_in, join_of, join_fits, read_columns, are_apart, are_of_kind}
use Rattle.okws_plan.specs.declared.configuration.Column.{Column}
use Rattle.okws_plan.specs.declared.configuration.Table.{Table}
use Rattle.okws_plan.specs.declared.statement.Condition.{Condition}
use Rattle.okws_plan.specs.declared.statement.Join.{Join}
use Rattle.okws_plan.specs.declared.statement.Selection.{Selection}
use Rattle.okws_plan.specs.declared.statement.Action.{Action}
use Rattle.okws_plan.specs.declared.statement.Action.TheVariants as action
use Rattle.okws_plan.specs.declared.statement.Statement.{Statement}
use Rattle.query_syntax.specs.declared.error.Refusal.{Refusal}
use Rattle.query_syntax.specs.declared.token.Fixed.TheVariants as fixed
use Rattle.query_syntax.specs.declared.token.Token.{Token}
use Rattle.query_syntax.specs.declared.token.Token.TheVariants as token
use Rattle.query_syntax.specs.declared.token.Placed.{Placed}
use Rattle.query_syntax.specs.declared.syntax.Named.{Named}
use Rattle.query_syntax.specs.declared.syntax.JoinSelect.{JoinSelect}
use Rattle.query_syntax.specs.declared.syntax.Query.{Query}
use Rattle.query_syntax.specs.declared.syntax.Query.TheVariants as query
use Rattle.query_syntax.specs.Answers.{◌>>=◌}
use Rattle.query_syntax.specs.Tokens.{tokens}
use Rattle.query_syntax.specs.Grammar.{parsed}
use Rattle.query_syntax.specs.Forms.{tokens_in, has_items, may_limit, bare_qualified, bare_join_test, bare_join, join_tokens, read_barely}
use Rattle.query_syntax.specs.ReadAgain.{is_spelled}
use Rattle.query_syntax.proofs.TokensAgain.{tokens_again}
use Rattle.query_syntax.proofs.FormsAgain.{forms_again}
use Rattle.statement_core.specs.Canonical.{statement_tokens, canonical, select_tokens}
use Rattle.query_syntax.specs.declared.error.TextRule.TheVariants as rule
use Rattle.statement_core.specs.Resolving.{Judged, noted, besides, table_number, column_number, number, or_zero, parameters}
use Rattle.statement_core.specs.Joining.{joined_columns, joined_word, joined_test, qualifier_judged, order_qualifier_judged, test_qualifiers_judged, qualifiers_judged, on_judged, join_excess, join_judged_on, join_statement_of, on_tables, resolved}
use Rattle.statement_core.specs.Compiled.{compiled}
use Rattle.statement_core.specs.Recompiled.{names_differ, is_declarable, are_declarable, are_numbered, holds_literals}
use lib.Pointwise.{bytes_decides}
use Rattle.statement_core.proofs.Stated.{selects, fitting, spelled_limit}
use Rattle.statement_core.proofs.Judged.{Sound, number_is, state}
use Rattle.statement_text.proofs.Recompiles.{all_met, no_gap, their_kinds, few_conditions}
use Rattle.statement_text.proofs.SelectsAgain.{NamesAll, SelectsAgain, select_again}
use Rattle.statement_text.proofs.Found.{found_tokens, at_place, Declared, declared, has_some, limit_low}
use Rattle.statement_core.proofs.Renamed.{SameKinds, kinds_joined, kind_like, selection_like}
use Rattle.statement_text.proofs.JoinReads.{words_read, tests_read, order_read, known_table, list_known, tests_known, order_known, word_kept, on_known}
use Rattle.statement_text.proofs.Sides.{side, join_test_of, join_on, pair_same, Named2, join_spelled, sound_joined}

-- what was read, but for its places

record ReadJoin (f : JoinSelect) (read : Result Query Refusal) : Type 0 where
  it : JoinSelect
  is : read ≡ Ok (query.Two it)
  same : bare_join it ≡ bare_join f

read_join : (f : JoinSelect) (read : Result Query Refusal) → read_barely read ≡ Ok (query.Two (bare_join f)) → ReadJoin f read
read_join f (Ok (query.Two it)) e = record { it = it; is = refl; same = cc }
read_join f (Ok (query.One it)) e = absurd (cc)
read_join f (Err r) e = absurd (let none : Err r ≡ Ok (query.Two (bare_join f)) = e in cc)

-- what is known of a join that keeps the rules
record JoinFits (t u : Table) (ks : List Kind) (join : Join) (s : Selection) : Type 0 where
  fits : selection_fits (joined_columns t.name t.columns u.name u.columns) ks s ≡ true
  left : is_column (joined_columns t.name t.columns u.name u.columns) join.left ≡ true
  right : is_column (joined_columns t.name t.columns u.name u.columns) join.right ≡ true
  apart : are_apart (length t.columns) join.left join.right ≡ true
  alike : are_of_kind (slice_get (joined_columns t.name t.columns u.name u.columns) join.left) (slice_get (joined_columns t.name t.columns u.name u.columns) join.right) ≡ true
  all : list_all (λ (n : ℕ). stands_in n (action.Select s)) (numbered_from 1 (length ks)) ≡ true

tested_columns : (columns : List Column) (ks : List Kind) (cs : List Condition) → list_all (λ (c : Condition). condition_fits columns ks c) cs ≡ true → list_all (λ (c : Condition). is_column columns c.column) cs ≡ true
tested_columns columns ks [] h = refl
tested_columns columns ks (c ∷ cs) h =
    let both = and_parts (condition_fits columns ks c) (list_all (λ (c : Condition). condition_fits columns ks c) cs) h in
    let found = fitting ks columns c.column c.operand both.0 in
    rw (lt-ltb c.column (length columns) (inside columns c.column found.0 found.1)) (tested_columns columns ks cs both.1)
  where
    inside : {A : Type 0} (xs : List A) (i : ℕ) (x : A) → slice_get xs i ≡ Some x → i < length xs
    inside [] i x e = absurd (let none : None ≡ Some x = e in cc)
    inside (y ∷ more) zero x e = omega arith
    inside (y ∷ more) (suc i) x e = let below = inside more i x e in omega arith

same_kinds : (o p : Option Column) (a b : Column) → o ≡ Some a → p ≡ Some b → are_of_kind o p ≡ true → same_kind a.kind b.kind ≡ true
same_kinds o p a b e f h = subst (λ (x : Option Column). are_of_kind (Some a) x ≡ true) f (subst (λ (x : Option Column). are_of_kind x p ≡ true) e h)

-- the judgement and the statement of what was read
record PairFine (t u : Table) (i j : ℕ) (ks : List Kind) (join : Join) (s : Selection) (g : JoinSelect) : Type 0 where
  judged : join_judged_on (length t.columns) (i == j) (joined_columns g.joined.table.name t.columns g.joined.second.name u.columns) g ≡ state (all_met ks) (replicate (length (joined_columns t.name t.columns u.name u.columns)) false)
  statement : (met : Judged) → join_statement_of (joined_columns g.joined.table.name t.columns g.joined.second.name u.columns) i j g met ≡ record { table = i; parameters = parameters met.met; action = action.Select (record s { join = Some (record join { table = j }) }) }

pair_fine : (t u : Table) (i j : ℕ) (ks : List Kind) (join : Join) (s : Selection) (g : JoinSelect) → Sound (joined_columns t.name t.columns u.name u.columns) → length ks ≤ 16 → (i == j) ≡ false → JoinFits t u ks join s
    → bare_join g ≡ bare_join (join_on t u join s) → PairFine t u i j ks join s g
unfolding join_judged_on
pair_fine t u i j ks join s g sound few other known e =
    let columns : List Column = joined_columns t.name t.columns u.name u.columns in
    let taken : List Bool = replicate (length columns) false in
    let fits = selects columns ks s known.fits in
    let table : g.joined.table.name ≡ t.name = ap (λ (x : JoinSelect). x.joined.table.name) e in
    let second : g.joined.second.name ≡ u.name = ap (λ (x : JoinSelect). x.joined.second.name) e in
    let list : map bare_qualified g.columns ≡ map bare_qualified (map (side t u) s.columns) = ap (λ (x : JoinSelect). x.columns) e in
    let tests : map bare_join_test g.tests ≡ map bare_join_test (map (join_test_of t u) s.conditions) = ap (λ (x : JoinSelect). x.tests) e in
    let order : option_map bare_qualified g.order ≡ option_map bare_qualified (option_map (side t u) s.order) = ap (λ (x : JoinSelect). x.order) e in
    let limit : g.limit ≡ s.limit = ap (λ (x : JoinSelect). x.limit) e in
    let left = word_kept t u sound g.joined.left join.left known.left (ap (λ (x : JoinSelect). x.joined.left) e) in
    let right = word_kept t u sound g.joined.right join.right known.right (ap (λ (x : JoinSelect). x.joined.right) e) in
    let part = few_conditions columns ks s.conditions fits.conditions in
    let names : NamesAll columns s (map joined_word g.columns) (map joined_test g.tests) (option_map joined_word g.order) = record {
      list = words_read t u g.columns s.columns fits.list list;
      tests = tests_read t u g.tests s.conditions (tested_columns columns ks s.conditions part.1) tests;
      order = order_read t u g.order s.order fits.order order;
    } in
    let again : SelectsAgain columns ks s (map joined_word g.columns) (map joined_test g.tests) (option_map joined_word g.order) =
    select_again columns ks s (map joined_word g.columns) (map joined_test g.tests) (option_map joined_word g.order) sound few fits known.all names in
    let few_columns : length g.columns ≤ 16 = omega (arith, again.few_columns, length-map g.columns joined_word) in
    let few_tests : length g.tests ≤ 16 = omega (arith, again.few_tests, length-map g.tests joined_test) in
    let excess : join_excess g ≡ None = rw (slice_get_past g.columns 16 few_columns, slice_get_past g.tests 16 few_tests) refl in
    let on' = on_known t u (length t.columns) (all_met ks) taken g.joined join left right known.apart
    (same_kinds (slice_get columns join.left) (slice_get columns join.right) left.column right.column left.there right.there known.alike) in
    let at : Judged = state (all_met ks) taken in
    let whole : join_judged_on (length t.columns) (i == j) columns g ≡ at =
    ap (λ (k : Judged). besides (qualifiers_judged g (noted (on_judged (length t.columns) columns k g.joined) (i == j) g.joined.second.at rule.SelfJoin)) (join_excess g)) again.judged
    ∙ ap (λ (k : Judged). besides (qualifiers_judged g (noted k (i == j) g.joined.second.at rule.SelfJoin)) (join_excess g)) on'
    ∙ ap (λ (b : Bool). besides (qualifiers_judged g (noted at b g.joined.second.at rule.SelfJoin)) (join_excess g)) other
    ∙ ap (λ (k : Judged). besides k (join_excess g)) (known_qualifiers t u g s join table second list tests order (ap (λ (x : JoinSelect). x.joined.left) e) (ap (λ (x : JoinSelect). x.joined.right) e) at)
    ∙ ap (besides at) excess in
    record {
      judged = ap (λ (cs : List Column). join_judged_on (length t.columns) (i == j) cs g) (λ k. joined_columns (table k) t.columns (second k) u.columns) ∙ whole;
      statement = λ met.
          ap (λ (cs : List Column). join_statement_of cs i j g met) (λ k. joined_columns (table k) t.columns (second k) u.columns)
          ∙ λ k. record {
            table = i;
            parameters = parameters met.met;
            action = action.Select (record {
              join = Some (record { table = j; left = number_of (joined_word g.joined.left) join.left left.number k; right = number_of (joined_word g.joined.right) join.right right.number k });
              columns = again.list k;
              conditions = again.conditions k;
              order = again.order k;
              limit = limit k;
            });
          };
    }
  where
    number_of : (w : Named) (c : ℕ) → column_number (joined_columns t.name t.columns u.name u.columns) w.name ≡ Some c → number (joined_columns t.name t.columns u.name u.columns) w ≡ c
    number_of w c h = ap or_zero h

    known_qualifiers : (t u : Table) (g : JoinSelect) (s : Selection) (join : Join) → g.joined.table.name ≡ t.name → g.joined.second.name ≡ u.name → map bare_qualified g.columns ≡ map bare_qualified (map (side t u) s.columns)
        → map bare_join_test g.tests ≡ map bare_join_test (map (join_test_of t u) s.conditions) → option_map bare_qualified g.order ≡ option_map bare_qualified (option_map (side t u) s.order)
        → bare_qualified g.joined.left ≡ bare_qualified (side t u join.left) → bare_qualified g.joined.right ≡ bare_qualified (side t u join.right) → (k : Judged) → qualifiers_judged g k ≡ k
    known_qualifiers t u g s join table second list tests order left right k =
        let one = list_known t u g.joined table second g.columns s.columns list k in
        let three : qualifier_judged g.joined (qualifier_judged g.joined k g.joined.left) g.joined.right ≡ k =
        rw (known_table t u g.joined g.joined.left join.left table second left, known_table t u g.joined g.joined.right join.right table second right) refl in
        ap (λ (j : Judged). order_qualifier_judged g.joined (test_qualifiers_judged g.joined (qualifier_judged g.joined (qualifier_judged g.joined j g.joined.left) g.joined.right) g.tests) g.order) one
        ∙ ap (λ (j : Judged). order_qualifier_judged g.joined (test_qualifiers_judged g.joined j g.tests) g.order) three
        ∙ ap (λ (j : Judged). order_qualifier_judged g.joined j g.order) (tests_known t u g.joined table second g.tests s.conditions tests k)
        ∙ order_known t u g.joined table second g.order s.order order k

-- the statement of what was read

resolved_again : (tables : List Table) (end i : ℕ) (t u : Table) (ks : List Kind) (join : Join) (s : Selection) (g : JoinSelect) → names_differ (λ (x : Table). x.name) tables ≡ true → length tables ≤ 256
    → slice_get tables i ≡ Some t → slice_get tables join.table ≡ Some u → g.joined.table.name ≡ t.name → g.joined.second.name ≡ u.name → s.join ≡ Some join → PairFine t u i join.table ks join s g
    → resolved tables end (query.Two g) ≡ Ok (record { table = i; parameters = ks; action = action.Select s })
unfolding on_tables
resolved_again tables end i t u ks join s g differ few e f table second is fine =
    let j : ℕ = join.table in
    let first : table_number tables g.joined.table.name ≡ Some i = ap (table_number tables) table ∙ number_is (λ (x : Table). x.name) tables i t differ few e in
    let other : table_number tables g.joined.second.name ≡ Some j = ap (table_number tables) second ∙ number_is (λ (x : Table). x.name) tables j u differ few f in
    let met : List (Option Kind) = all_met ks in
    rw (first, other, e, f, fine.judged, no_gap ks (16 - length ks))
    (ap (λ (x : Statement). Ok x) (fine.statement (state met (replicate (length (joined_columns t.name t.columns u.name u.columns)) false))
    ∙ λ k. record { table = i; parameters = their_kinds ks (16 - length ks) k; action = action.Select (record s { join = sym is k }) }))

-- tables of two numbers have two names
two_names : (tables : List Table) (i j : ℕ) (t u : Table) → names_differ (λ (x : Table). x.name) tables ≡ true → length tables ≤ 256 → slice_get tables i ≡ Some t → slice_get tables j ≡ Some u → (i == j) ≡ false → same_bytes t.name u.name ≡ false
two_names tables i j t u differ few e f other = by (same_bytes t.name u.name) refl
  where
    by : (b : Bool) → same_bytes t.name u.name ≡ b → same_bytes t.name u.name ≡ false
    by false k = k
    by true k =
        let same : t.name ≡ u.name = (bytes_decides t.name u.name).0 k in
        let first : table_number tables t.name ≡ Some i = number_is (λ (x : Table). x.name) tables i t differ few e in
        let second : table_number tables u.name ≡ Some j = number_is (λ (x : Table). x.name) tables j u differ few f in
        let both : Some i ≡ Some j = sym first ∙ ap (table_number tables) same ∙ second in
        let one : i ≡ j = cc in
        absurd (true≢false (sym (eq-eqb i j one) ∙ other))

not_either : (t u : ℕ) → not (u == t) ≡ true → (t == u) ≡ false
not_either t u h = ne_eqb t u (λ (e : t ≡ u). true≢false (sym (eq-eqb u t (sym e)) ∙ not-true (u == t) h))

abbrev is_some_column : Option Column → Bool
is_some_column None = false
is_some_column (Some c) = true

-- a column that is there, of columns of other names
there_like : (o p : Option Column) → are_of_kind o p ≡ true → (is_some_column o ≡ true) × (is_some_column p ≡ true)
there_like (Some x) (Some y) h = (refl, refl)
there_like None p h = absurd (false≢true h)
there_like (Some x) None h = absurd (false≢true h)

some_below : (xs : List Column) (c : ℕ) → is_some_column (slice_get xs c) ≡ true → is_column xs c ≡ true
some_below [] c h = absurd (false≢true h)
some_below (x ∷ xs) zero h = lt-ltb zero (suc (length xs)) (omega arith)
some_below (x ∷ xs) (suc c) h = let below : c < length xs = ltb-true c (length xs) (some_below xs c h) in lt-ltb (suc c) (suc (length xs)) (omega arith)

kinds_alike : (o p x y : Option Column) → option_map (λ (c : Column). c.kind) o ≡ option_map (λ (c : Column). c.kind) x → option_map (λ (c : Column). c.kind) p ≡ option_map (λ (c : Column). c.kind) y → are_of_kind o p ≡ true → are_of_kind x y ≡ true
kinds_alike None p x y e f h = absurd (false≢true h)
kinds_alike (Some a) None x y e f h = absurd (false≢true h)
kinds_alike (Some a) (Some b) None y e f h = absurd (let none : Some a.kind ≡ None = e in cc)
kinds_alike (Some a) (Some b) (Some c) None e f h = absurd (let none : Some b.kind ≡ None = f in cc)
kinds_alike (Some a) (Some b) (Some c) (Some d) e f h =
    let one : a.kind ≡ c.kind = (let some : Some a.kind ≡ Some c.kind = e in cc) in
    let two : b.kind ≡ d.kind = (let some : Some b.kind ≡ Some d.kind = f in cc) in
    rw (← one, ← two) h

join_again : (tables : List Table) (i : ℕ) (ks : List Kind) (join : Join) (s : Selection) → s.join ≡ Some join → are_declarable tables ≡ true → are_numbered tables i (Some join) ≡ true → holds_literals (action.Select s) ≡ true
    → keeps_rules tables (record { table = i; parameters = ks; action = action.Select s }) ≡ true
    → compiled tables (canonical tables (record { table = i; parameters = ks; action = action.Select s })) ≡ Ok (record { table = i; parameters = ks; action = action.Select s })
join_again tables i ks join s is h numbered held kept =
    let b = and_parts (nat_le (length tables) 256) (list_all is_declarable tables && names_differ (λ (x : Table). x.name) tables) h in
    let c = and_parts (list_all is_declarable tables) (names_differ (λ (x : Table). x.name) tables) b.1 in
    let many : length tables ≤ 256 = leb-true (length tables) 256 b.0 in
    let all : Bool = list_all (λ (n : ℕ). stands_in n (action.Select s)) (numbered_from 1 (length ks)) in
    let P : Option Join → Type 0 = λ (o : Option Join). (nat_lt i (length tables) && (nat_le (length ks) MOST_PARAMETERS && (join_fits tables i o && (selection_fits (read_columns tables i o) ks s && all)))) ≡ true in
    let rules : P (Some join) = subst P is kept in
    let d = and_parts (nat_lt i (length tables)) _ rules in
    let e = and_parts (nat_le (length ks) MOST_PARAMETERS) _ d.1 in
    let f = and_parts (join_fits tables i (Some join)) _ e.1 in
    let g = and_parts (selection_fits (read_columns tables i (Some join)) ks s) all f.1 in
    let k = and_parts (nat_lt join.table (length tables)) _ f.0 in
    let l = and_parts (not (join.table == i)) _ k.1 in
    let place = at_place is_declarable tables i c.0 (ltb-true i (length tables) d.0) in
    let other = at_place is_declarable tables join.table c.0 (ltb-true join.table (length tables) k.0) in
    of_tables place.0 other.0 place.1 other.1 (declared place.0 place.2) (declared other.0 other.2) c.1 many (leb-true (length ks) 16 e.0) (not_either i join.table l.0)
    (leb-true (length (read_columns tables i (Some join))) 256 numbered) l.1 g.0 g.1
  where
    of_tables : (t u : Table) → slice_get tables i ≡ Some t → slice_get tables join.table ≡ Some u → Declared t → Declared u → names_differ (λ (x : Table). x.name) tables ≡ true → length tables ≤ 256 → length ks ≤ 16
        → (i == join.table) ≡ false → length (columns_of tables i ++ columns_of tables join.table) ≤ 256
        → (are_apart (length (columns_of tables i)) join.left join.right && are_of_kind (slice_get (columns_of tables i ++ columns_of tables join.table) join.left) (slice_get (columns_of tables i ++ columns_of tables join.table) join.right)) ≡ true
        → selection_fits (columns_of tables i ++ columns_of tables join.table) ks s ≡ true → list_all (λ (n : ℕ). stands_in n (action.Select s)) (numbered_from 1 (length ks)) ≡ true
        → compiled tables (canonical tables (record { table = i; parameters = ks; action = action.Select s })) ≡ Ok (record { table = i; parameters = ks; action = action.Select s })
    of_tables t u e f known other differ many few apart short sides fits all =
        let st : Statement = record { table = i; parameters = ks; action = action.Select s } in
        let both : columns_of tables i ++ columns_of tables join.table ≡ t.columns ++ u.columns = λ k. columns_in (e k) ++ columns_in (f k) in
        let columns : List Column = joined_columns t.name t.columns u.name u.columns in
        let same : SameKinds columns (t.columns ++ u.columns) = kinds_joined t.name t.columns u.name u.columns in
        let size : length (t.columns ++ u.columns) ≡ length t.columns + length u.columns = length-append t.columns u.columns in
        let whole : length (t.columns ++ u.columns) ≤ 256 = subst (λ (cs : List Column). length cs ≤ 256) both short in
        let named : Named2 t u = record { table = known.word; second = other.word; columns = known.named; others = other.named } in
        let sound : Sound columns = sound_joined t u named (two_names tables i join.table t u differ many e f apart) known.sound other.sound (omega (arith, size, whole)) in
        let own : columns_of tables i ≡ t.columns = ap columns_in e in
        let ends = and_parts (are_apart (length (columns_of tables i)) join.left join.right) _ sides in
        let kinds : are_of_kind (slice_get (t.columns ++ u.columns) join.left) (slice_get (t.columns ++ u.columns) join.right) ≡ true =
        subst (λ (cs : List Column). are_of_kind (slice_get cs join.left) (slice_get cs join.right) ≡ true) both ends.1 in
        let alike : are_of_kind (slice_get columns join.left) (slice_get columns join.right) ≡ true =
        kinds_alike (slice_get (t.columns ++ u.columns) join.left) (slice_get (t.columns ++ u.columns) join.right) (slice_get columns join.left) (slice_get columns join.right)
        (sym (kind_like columns (t.columns ++ u.columns) join.left same)) (sym (kind_like columns (t.columns ++ u.columns) join.right same)) kinds in
        let there = there_like (slice_get columns join.left) (slice_get columns join.right) alike in
        let fine : JoinFits t u ks join s = record {
          fits = selection_like ks s columns (t.columns ++ u.columns) same ∙ subst (λ (cs : List Column). selection_fits cs ks s ≡ true) both fits;
          left = some_below columns join.left there.0;
          right = some_below columns join.right there.1;
          apart = ap (λ (cs : List Column). are_apart (length cs) join.left join.right) (sym own) ∙ ends.0;
          alike = alike;
          all = all;
        } in
        let parts = selects columns ks s fine.fits in
        let form' : JoinSelect = join_on t u join s in
        let spells : statement_tokens tables st ≡ join_tokens form' = ap (select_tokens tables i s) is ∙ pair_same tables i join.table t u join s e f in
        let good : list_all is_spelled (statement_tokens tables st) ≡ true =
        ap (list_all is_spelled) spells
        ∙ join_spelled t u ks join s named few parts.list fine.left fine.right (few_conditions columns ks s.conditions parts.conditions).1 held parts.order (spelled_limit s.limit parts.limit) in
        let found = found_tokens (statement_tokens tables st ++ token.Fixed fixed.End ∷ []) (tokens (canonical tables st)) (tokens_again (statement_tokens tables st) good) in
        let theirs : tokens_in found.them ≡ join_tokens form' ++ token.Fixed fixed.End ∷ [] = found.are ∙ ap (λ (ts : List Token). ts ++ token.Fixed fixed.End ∷ []) spells in
        let allowed : (has_items form'.columns && may_limit form'.limit) ≡ true = and_from (has_items form'.columns) (may_limit form'.limit) (has_some (side t u) s.columns parts.some) (limit_low s.limit parts.limit) in
        let read = read_join form' (parsed found.them) (forms_again (query.Two form') allowed found.them theirs) in
        let pair = pair_fine t u i join.table ks join s read.it sound few apart fine read.same in
        let last = resolved_again tables (length (canonical tables st)) i t u ks join s read.it differ many e f (ap (λ (x : JoinSelect). x.joined.table.name) read.same) (ap (λ (x : JoinSelect). x.joined.second.name) read.same) is pair in
        ap (λ (r : Result (List Placed) Refusal). r >>= λ found. parsed found >>= λ query. resolved tables (length (canonical tables st)) query) found.is
        ∙ ap (λ (r : Result Query Refusal). r >>= λ query. resolved tables (length (canonical tables st)) query) read.is
        ∙ last

pub joins_again : (tables : List Table) (st : Statement) (join : Join) → join_of st.action ≡ Some join → are_declarable tables ≡ true → are_numbered tables st.table (Some join) ≡ true → holds_literals st.action ≡ true → keeps_rules tables st ≡ true
    → compiled tables (canonical tables st) ≡ Ok st
joins_again tables st join is h numbered held kept = by st.action is held kept
  where
    by : (a : Action) → join_of a ≡ Some join → holds_literals a ≡ true → keeps_rules tables (record { table = st.table; parameters = st.parameters; action = a }) ≡ true
        → compiled tables (canonical tables (record { table = st.table; parameters = st.parameters; action = a })) ≡ Ok (record { table = st.table; parameters = st.parameters; action = a })
    by (action.Select s) is held kept = join_again tables st.table st.parameters join s is h numbered held kept
    by (action.Insert os) is held kept = absurd (let none : None ≡ Some join = is in cc)
    by (action.Update xs cs) is held kept = absurd (let none : None ≡ Some join = is in cc)
    by (action.Delete cs) is held kept = absurd (let none : None ≡ Some join = is in cc)
