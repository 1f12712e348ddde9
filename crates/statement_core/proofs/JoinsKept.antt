-- A SELECT from two tables that breaks no rule keeps the rules of the query language.
use Rattle.std.proofs.Common.{◌≡◌, ℕ, ◌≤◌, ◌<◌, Bool, true, false, not, ◌&&◌, List, [], ◌∷◌, ◌++◌, map, fold, Option, Some, None, option_map, Ok, Err, refl, sym, ap, ◌∙◌, arith, length}
use Rattle.std.specs.Prelude.{nat_le, nat_lt, ◌==◌, slice_get, ◌||◌}
use Rattle.std.specs.List.{list_all}
use Rattle.std.proofs.lemmas.Bool.{and_from, lt-ltb, le-leb, ne_eqb, eq-eqb, true≢false}
use Rattle.std.proofs.lemmas.List.{length-map}
use Rattle.okws_base.specs.Value.{same_kind}
use Rattle.okws_base.specs.declared.limit.TheConstants.{MOST_PARAMETERS, MOST_COLUMNS, MOST_CONDITIONS}
use Rattle.okws_base.specs.declared.value.Kind.{Kind}
use Rattle.okws_plan.specs.Configuration.{numbered_from}
use Rattle.okws_plan.specs.Meaning.{columns_of}
use Rattle.okws_plan.specs.Rules.{keeps_rules, selection_fits, stands_in, join_fits, are_apart, are_of_kind}
use Rattle.okws_plan.specs.declared.configuration.Column.{Column}
use Rattle.okws_plan.specs.declared.configuration.Table.{Table}
use Rattle.okws_plan.specs.declared.statement.Join.{Join}
use Rattle.okws_plan.specs.declared.statement.Selection.{Selection}
use Rattle.okws_plan.specs.declared.statement.Action.TheVariants as action
use Rattle.okws_plan.specs.declared.statement.Statement.{Statement}
use Rattle.query_syntax.specs.declared.error.Refusal.{Refusal}
use Rattle.query_syntax.specs.declared.error.TextRule.TheVariants as rule
use Rattle.query_syntax.specs.declared.syntax.Named.{Named}
use Rattle.query_syntax.specs.declared.syntax.Qualified.{Qualified}
use Rattle.query_syntax.specs.declared.syntax.JoinTest.{JoinTest}
use Rattle.query_syntax.specs.declared.syntax.Joined.{Joined}
use Rattle.query_syntax.specs.declared.syntax.JoinSelect.{JoinSelect}
use Rattle.query_syntax.specs.Forms.{has_items, may_limit}
use Rattle.statement_core.specs.Resolving.{Judged, noted, too_many, word_judged, columns_judged, nothing_found, has_gap, parameters, number, fault_of, unless, column_number, kind_in, parts_excess}
use Rattle.statement_core.specs.Joining.{joined_columns, joined_word, joined_test, joined_select, is_neither, qualifier_judged, order_qualifier_judged, list_qualifiers_judged, test_qualifiers_judged, qualifiers_judged, kinds_differ, are_together, on_judged, join_excess, join_judged_on, join_selection_of, join_statement_of, on_tables}
use Rattle.statement_core.proofs.Judged.{list_within, tests_within}
use Rattle.statement_core.proofs.Keeps.{noted_clean, noted_before, IsColumn, word_clean, word_before, kind_found, number_found}
use Rattle.statement_core.proofs.KeepsForms.{sooner_none, few_from, FitsAll, select_keeps}
use Rattle.statement_core.proofs.Renamed.{kinds_joined, kind_like, selection_like}

-- the tables of columns

qualifier_before : (joined : Joined) (j : Judged) (q : Qualified) → (qualifier_judged joined j q).fault ≡ None → j.fault ≡ None
qualifier_before joined j q h = noted_before j (is_neither joined q) q.table.at rule.NoSuchTable h

qualifier_clean : (joined : Joined) (j : Judged) (q : Qualified) → (qualifier_judged joined j q).fault ≡ None → qualifier_judged joined j q ≡ j
qualifier_clean joined j q h = (noted_clean j (is_neither joined q) q.table.at rule.NoSuchTable h).1

fold_clean : {A : Type 0} (f : Judged → A → Judged) → ((j : Judged) (a : A) → (f j a).fault ≡ None → f j a ≡ j) → (xs : List A) (j : Judged) → (fold f j xs).fault ≡ None → fold f j xs ≡ j
fold_clean f clean [] j h = refl
fold_clean {A} f clean (x ∷ more) j h =
    let rest : fold f (f j x) more ≡ f j x = fold_clean f clean more (f j x) h in
    rest ∙ clean j x (sym (ap (λ (k : Judged). k.fault) rest) ∙ h)

order_clean : (joined : Joined) (j : Judged) (o : Option Qualified) → (order_qualifier_judged joined j o).fault ≡ None → order_qualifier_judged joined j o ≡ j
order_clean joined j None h = refl
order_clean joined j (Some q) h = qualifier_clean joined j q h

qualifiers_clean : (s : JoinSelect) (j : Judged) → (qualifiers_judged s j).fault ≡ None → qualifiers_judged s j ≡ j
qualifiers_clean s j h =
    let one : Judged = list_qualifiers_judged s.joined j s.columns in
    let two : Judged = qualifier_judged s.joined one s.joined.left in
    let three : Judged = qualifier_judged s.joined two s.joined.right in
    let four : Judged = test_qualifiers_judged s.joined three s.tests in
    let e = order_clean s.joined four s.order h in
    let he : four.fault ≡ None = sym (ap (λ (k : Judged). k.fault) e) ∙ h in
    let d : four ≡ three = fold_clean (λ (j : Judged) (t : JoinTest). qualifier_judged s.joined j t.column) (λ j t k. qualifier_clean s.joined j t.column k) s.tests three he in
    let hd : three.fault ≡ None = sym (ap (λ (k : Judged). k.fault) d) ∙ he in
    let c : three ≡ two = qualifier_clean s.joined two s.joined.right hd in
    let hc : two.fault ≡ None = sym (ap (λ (k : Judged). k.fault) c) ∙ hd in
    let b : two ≡ one = qualifier_clean s.joined one s.joined.left hc in
    let hb : one.fault ≡ None = sym (ap (λ (k : Judged). k.fault) b) ∙ hc in
    e ∙ d ∙ c ∙ b ∙ fold_clean (qualifier_judged s.joined) (qualifier_clean s.joined) s.columns j hb

-- the columns that ON names

record OnKept (n : ℕ) (columns : List Column) (j : Judged) (joined : Joined) : Type 0 where
  left : IsColumn columns (joined_word joined.left).name
  right : IsColumn columns (joined_word joined.right).name
  kinds : kinds_differ (kind_in columns (joined_word joined.left).name) (kind_in columns (joined_word joined.right).name) ≡ false
  apart : are_together n (column_number columns (joined_word joined.left).name) (column_number columns (joined_word joined.right).name) ≡ false
  same : on_judged n columns j joined ≡ j

on_clean : (n : ℕ) (columns : List Column) (j : Judged) (joined : Joined) → (on_judged n columns j joined).fault ≡ None → OnKept n columns j joined
on_clean n columns j joined h =
    let l : Named = joined_word joined.left in
    let r : Named = joined_word joined.right in
    let one : Judged = word_judged columns j l in
    let two : Judged = word_judged columns one r in
    let differ : Bool = kinds_differ (kind_in columns l.name) (kind_in columns r.name) in
    let together : Bool = are_together n (column_number columns l.name) (column_number columns r.name) in
    let three : Judged = noted two differ joined.right.table.at rule.JoinKinds in
    let d = noted_clean three together joined.right.table.at rule.JoinSides h in
    let hd : three.fault ≡ None = noted_before three together joined.right.table.at rule.JoinSides h in
    let c = noted_clean two differ joined.right.table.at rule.JoinKinds hd in
    let hc : two.fault ≡ None = noted_before two differ joined.right.table.at rule.JoinKinds hd in
    let b = word_clean columns one r hc in
    let hb : one.fault ≡ None = word_before columns one r hc in
    let a = word_clean columns j l hb in
    record { left = a.0; right = b.0; kinds = c.0; apart = d.0; same = d.1 ∙ c.1 ∙ b.1 ∙ a.1 }

-- what is known where no rule is broken

record PairKept (n : ℕ) (is_one : Bool) (columns : List Column) (s : JoinSelect) : Type 0 where
  on : OnKept n columns (columns_judged columns (nothing_found (length columns)) (joined_select s)) s.joined
  two : is_one ≡ false
  excess : join_excess s ≡ None
  clean : (columns_judged columns (nothing_found (length columns)) (joined_select s)).fault ≡ None
  met : (join_judged_on n is_one columns s).met ≡ (columns_judged columns (nothing_found (length columns)) (joined_select s)).met

pair_kept : (n : ℕ) (is_one : Bool) (columns : List Column) (s : JoinSelect) → (join_judged_on n is_one columns s).fault ≡ None → PairKept n is_one columns s
unfolding join_judged_on
pair_kept n is_one columns s h =
    let start : Judged = columns_judged columns (nothing_found (length columns)) (joined_select s) in
    let on' : Judged = on_judged n columns start s.joined in
    let self : Judged = noted on' is_one s.joined.second.at rule.SelfJoin in
    let parts = sooner_none (qualifiers_judged s self).fault (join_excess s) h in
    let c = qualifiers_clean s self parts.0 in
    let hc : self.fault ≡ None = sym (ap (λ (k : Judged). k.fault) c) ∙ parts.0 in
    let b = noted_clean on' is_one s.joined.second.at rule.SelfJoin hc in
    let hb : on'.fault ≡ None = noted_before on' is_one s.joined.second.at rule.SelfJoin hc in
    let a = on_clean n columns start s.joined hb in
    let whole : qualifiers_judged s self ≡ start = c ∙ b.1 ∙ a.same in
    record {
      on = a;
      two = b.0;
      excess = parts.1;
      clean = sym (ap (λ (k : Judged). k.fault) a.same) ∙ hb;
      met = ap (λ (k : Judged). k.met) whole;
    }

few_parts : (s : JoinSelect) → join_excess s ≡ None → parts_excess (joined_select s) ≡ None
few_parts s h =
    let parts = sooner_none (option_map (λ (q : Qualified). too_many q.table.at) (slice_get s.columns MOST_COLUMNS)) (option_map (λ (t : JoinTest). too_many t.column.table.at) (slice_get s.tests MOST_CONDITIONS)) h in
    let columns : length s.columns ≤ 16 = few_from s.columns (λ (q : Qualified). too_many q.table.at) parts.0 in
    let tests : length s.tests ≤ 16 = few_from s.tests (λ (t : JoinTest). too_many t.column.table.at) parts.1 in
    rw (list_within (map joined_word s.columns) (omega (arith, length-map s.columns joined_word)), tests_within (map joined_test s.tests) (omega (arith, length-map s.tests joined_test))) refl

join_keeps : (columns : List Column) (s : JoinSelect) → has_items s.columns ≡ true → may_limit s.limit ≡ true
    → (columns_judged columns (nothing_found (length columns)) (joined_select s)).fault ≡ None → join_excess s ≡ None → has_gap (columns_judged columns (nothing_found (length columns)) (joined_select s)).met ≡ false
    → FitsAll columns (joined_select s) (columns_judged columns (nothing_found (length columns)) (joined_select s)).met
join_keeps columns s some low clean excess gap =
    select_keeps columns (map joined_word s.columns) s.joined.table (map joined_test s.tests) (option_map joined_word s.order) s.limit (has_some s.columns some) low clean (few_parts s excess) gap
  where
    has_some : (qs : List Qualified) → has_items qs ≡ true → has_items (map joined_word qs) ≡ true
    has_some [] h = h
    has_some (q ∷ more) h = refl

-- the join

apart_from : (n : ℕ) (o p : Option ℕ) (a b : ℕ) → o ≡ Some a → p ≡ Some b → are_together n o p ≡ false → are_apart n a b ≡ true
apart_from n o p a b e f h =
    let k : not (are_apart n a b) ≡ false = sym (λ i. are_together n (e i) (f i)) ∙ h in
    by (are_apart n a b) k
  where
    by : (c : Bool) → not c ≡ false → c ≡ true
    by true h = refl
    by false h = absurd (true≢false h)

alike_from : (o p : Option Kind) (a b : Kind) → o ≡ Some a → p ≡ Some b → kinds_differ o p ≡ false → same_kind a b ≡ true
alike_from o p a b e f h =
    let k : not (same_kind a b) ≡ false = sym (λ i. kinds_differ (e i) (f i)) ∙ h in
    by (same_kind a b) k
  where
    by : (c : Bool) → not c ≡ false → c ≡ true
    by true h = refl
    by false h = absurd (true≢false h)

-- two columns are there and of one kind
of_kind_from : (o p : Option Column) (a b : Kind) → option_map (λ (c : Column). c.kind) o ≡ Some a → option_map (λ (c : Column). c.kind) p ≡ Some b → same_kind a b ≡ true → are_of_kind o p ≡ true
of_kind_from None p a b e f h = absurd (let none : None ≡ Some a = e in cc)
of_kind_from (Some x) None a b e f h = absurd (let none : None ≡ Some b = f in cc)
of_kind_from (Some x) (Some y) a b e f h =
    let left : x.kind ≡ a = (let some : Some x.kind ≡ Some a = e in cc) in
    let right : y.kind ≡ b = (let some : Some y.kind ≡ Some b = f in cc) in
    rw (left, right) h

differs : (t u : ℕ) → (t == u) ≡ false → (u == t) ≡ false
differs t u h = ne_eqb u t (λ (e : u ≡ t). true≢false (sym (eq-eqb t u (sym e)) ∙ h))

-- a SELECT from two tables that is a statement keeps the rules

given_unless : (o : Option Refusal) (a b : Statement) → unless o a ≡ Ok b → (o ≡ None) × (a ≡ b)
given_unless None a b h = (refl, cc)
given_unless (Some f) a b h = absurd (let none : Err f ≡ Ok b = h in cc)

pub tables_keep : (tables : List Table) (end t u : ℕ) (s : JoinSelect) (st : Statement) → has_items s.columns ≡ true → may_limit s.limit ≡ true → t < length tables → u < length tables
    → ((end : ℕ) (j : Judged) → fault_of end j ≡ None → (j.fault ≡ None) × (has_gap j.met ≡ false))
    → on_tables end (length (columns_of tables t)) (joined_columns s.joined.table.name (columns_of tables t) s.joined.second.name (columns_of tables u)) t u s ≡ Ok st → keeps_rules tables st ≡ true
unfolding on_tables
tables_keep tables end t u s st some low there other no_fault h =
    let own : List Column = columns_of tables t in
    let others : List Column = columns_of tables u in
    let columns : List Column = joined_columns s.joined.table.name own s.joined.second.name others in
    let j : Judged = join_judged_on (length own) (t == u) columns s in
    let given = given_unless (fault_of end j) (join_statement_of columns t u s j) st h in
    let clean = no_fault end j given.0 in
    let kept = pair_kept (length own) (t == u) columns s clean.0 in
    let found : Judged = columns_judged columns (nothing_found (length columns)) (joined_select s) in
    let gap : has_gap found.met ≡ false = sym (ap has_gap kept.met) ∙ clean.1 in
    let lawful = join_keeps columns s some low kept.clean kept.excess gap in
    let sel : Selection = join_selection_of columns u s in
    let join : Join = record { table = u; left = number columns (joined_word s.joined.left); right = number columns (joined_word s.joined.right) } in
    let ks : List Kind = parameters found.met in
    let both : List Column = own ++ others in
    let same = kinds_joined s.joined.table.name own s.joined.second.name others in
    let fits : selection_fits both ks sel ≡ true = sym (selection_like ks sel columns both same) ∙ lawful.fits in
    let all : list_all (λ (n : ℕ). stands_in n (action.Select sel)) (numbered_from 1 (length ks)) ≡ true = lawful.all in
    let left : column_number columns (joined_word s.joined.left).name ≡ Some join.left = kept.on.left.is ∙ ap (λ (n : ℕ). Some n) (sym (number_found columns (joined_word s.joined.left) kept.on.left)) in
    let right : column_number columns (joined_word s.joined.right).name ≡ Some join.right = kept.on.right.is ∙ ap (λ (n : ℕ). Some n) (sym (number_found columns (joined_word s.joined.right) kept.on.right)) in
    let apart : are_apart (length own) join.left join.right ≡ true =
    apart_from (length own) (column_number columns (joined_word s.joined.left).name) (column_number columns (joined_word s.joined.right).name) join.left join.right left right kept.on.apart in
    let alike : same_kind kept.on.left.column.kind kept.on.right.column.kind ≡ true =
    alike_from (kind_in columns (joined_word s.joined.left).name) (kind_in columns (joined_word s.joined.right).name) kept.on.left.column.kind kept.on.right.column.kind
    (kind_found columns (joined_word s.joined.left).name kept.on.left) (kind_found columns (joined_word s.joined.right).name kept.on.right) kept.on.kinds in
    let first : option_map (λ (c : Column). c.kind) (slice_get both join.left) ≡ Some kept.on.left.column.kind =
    sym (kind_like columns both join.left same)
    ∙ ap (λ (n : ℕ). option_map (λ (c : Column). c.kind) (slice_get columns n)) (number_found columns (joined_word s.joined.left) kept.on.left) ∙ ap (option_map (λ (c : Column). c.kind)) kept.on.left.there in
    let second : option_map (λ (c : Column). c.kind) (slice_get both join.right) ≡ Some kept.on.right.column.kind =
    sym (kind_like columns both join.right same)
    ∙ ap (λ (n : ℕ). option_map (λ (c : Column). c.kind) (slice_get columns n)) (number_found columns (joined_word s.joined.right) kept.on.right) ∙ ap (option_map (λ (c : Column). c.kind)) kept.on.right.there in
    let kinds : are_of_kind (slice_get both join.left) (slice_get both join.right) ≡ true = of_kind_from (slice_get both join.left) (slice_get both join.right) kept.on.left.column.kind kept.on.right.column.kind first second alike in
    let rules : join_fits tables t (Some join) ≡ true =
    and_from (nat_lt u (length tables)) _ (lt-ltb u (length tables) other) (and_from (not (u == t)) _ (ap not (differs t u kept.two)) (and_from (are_apart (length own) join.left join.right) _ apart kinds)) in
    let few : nat_le (length ks) MOST_PARAMETERS ≡ true = le-leb (length ks) 16 lawful.few in
    let whole : keeps_rules tables (record { table = t; parameters = ks; action = action.Select sel }) ≡ true =
    and_from (nat_lt t (length tables)) _ (lt-ltb t (length tables) there) (and_from (nat_le (length ks) MOST_PARAMETERS) _ few (and_from (join_fits tables t (Some join)) _ rules (and_from (selection_fits both ks sel) _ fits all))) in
    ap (keeps_rules tables) (sym given.1) ∙ ap (λ (met : List (Option Kind)). keeps_rules tables (record { table = t; parameters = parameters met; action = action.Select sel })) kept.met ∙ whole
