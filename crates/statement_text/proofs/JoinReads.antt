-- The words of a SELECT from two tables that was read of a canonical text.
use Rattle.std.proofs.Common.{◌≡◌, ℕ, ◌-◌, Bool, true, false, not, ◌||◌, cond, List, [], ◌∷◌, map, Option, Some, None, option_map, refl, sym, ap, subst, ◌∙◌, ◌⊎◌, inl, inr, ⊎_elim, length}
use Rattle.std.specs.Prelude.{nat_lt, slice_get}
use Rattle.std.specs.List.{list_all}
use Rattle.std.proofs.lemmas.Bool.{and_parts}
use Rattle.std.proofs.lemmas.Cmp.{nat_list_eq_equiv}
use Rattle.okws_base.specs.Value.{same_bytes, same_kind}
use Rattle.okws_base.specs.declared.value.Kind.{Kind}
use Rattle.okws_plan.specs.Rules.{is_column, order_fits, are_apart}
use Rattle.okws_plan.specs.declared.configuration.Column.{Column}
use Rattle.okws_plan.specs.declared.configuration.Table.{Table}
use Rattle.okws_plan.specs.declared.statement.Condition.{Condition}
use Rattle.okws_plan.specs.declared.statement.Join.{Join}
use Rattle.query_syntax.specs.declared.syntax.Named.{Named}
use Rattle.query_syntax.specs.declared.syntax.Qualified.{Qualified}
use Rattle.query_syntax.specs.declared.syntax.JoinTest.{JoinTest}
use Rattle.query_syntax.specs.declared.syntax.Joined.{Joined}
use Rattle.query_syntax.specs.Forms.{bare_name, bare_value, bare_test, bare_qualified, bare_join_test}
use Rattle.query_syntax.specs.declared.error.TextRule.TheVariants as rule
use Rattle.statement_core.specs.Resolving.{Judged, noted, word_judged, kind_in, column_number}
use Rattle.statement_core.specs.Joining.{joined_columns, joined_word, joined_test, is_neither, order_qualifier_judged, list_qualifiers_judged, test_qualifiers_judged, kinds_differ, are_together, on_judged}
use Rattle.statement_core.proofs.Stated.{bare_word, name_at, test_of, given_of, column_there}
use Rattle.statement_core.proofs.Judged.{Sound, column_number_is, kind_is, state, words_kept, name_is}
use Rattle.statement_text.proofs.Sides.{side, join_test_of, side_name}

-- the words of columns

module _ (t u : Table) where
  abbrev columns : List Column
  columns = joined_columns t.name t.columns u.name u.columns

  word_read : (q : Qualified) (c : ℕ) → is_column columns c ≡ true → bare_qualified q ≡ bare_qualified (side t u c) → bare_name (joined_word q) ≡ name_at columns c
  word_read q c h e = ap (λ (x : Qualified). bare_name (joined_word x)) e ∙ side_name t u c h

  pub words_read : (qs : List Qualified) (cs : List ℕ) → list_all (λ (c : ℕ). is_column columns c) cs ≡ true → map bare_qualified qs ≡ map bare_qualified (map (side t u) cs) → map bare_name (map joined_word qs) ≡ map (name_at columns) cs
  words_read [] [] h e = refl
  words_read [] (c ∷ cs) h e = absurd (let some : [] ≡ bare_qualified (side t u c) ∷ map bare_qualified (map (side t u) cs) = e in cc)
  words_read (q ∷ qs) [] h e = absurd (let some : bare_qualified q ∷ map bare_qualified qs ≡ [] = e in cc)
  words_read (q ∷ qs) (c ∷ cs) h e =
      let both = and_parts (is_column columns c) (list_all (λ (c : ℕ). is_column columns c) cs) h in
      let head : bare_qualified q ≡ bare_qualified (side t u c) = cc in
      let tail : map bare_qualified qs ≡ map bare_qualified (map (side t u) cs) = cc in
      rw (word_read q c both.0 head, words_read qs cs both.1 tail) refl

  test_read : (x : JoinTest) (c : Condition) → is_column columns c.column ≡ true → bare_join_test x ≡ bare_join_test (join_test_of t u c) → bare_test (joined_test x) ≡ test_of columns c
  test_read x c h e =
      let column : bare_name (joined_word x.column) ≡ name_at columns c.column = word_read x.column c.column h (ap (λ (y : JoinTest). y.column) e) in
      let sign : x.comparison ≡ c.comparison = ap (λ (y : JoinTest). y.comparison) e in
      let value : bare_value x.value ≡ given_of c.operand = ap (λ (y : JoinTest). y.value) e in
      λ i. record { column = column i; comparison = sign i; value = value i }

  pub tests_read : (xs : List JoinTest) (cs : List Condition) → list_all (λ (c : Condition). is_column columns c.column) cs ≡ true → map bare_join_test xs ≡ map bare_join_test (map (join_test_of t u) cs)
      → map bare_test (map joined_test xs) ≡ map (test_of columns) cs
  tests_read [] [] h e = refl
  tests_read [] (c ∷ cs) h e = absurd (let some : [] ≡ bare_join_test (join_test_of t u c) ∷ map bare_join_test (map (join_test_of t u) cs) = e in cc)
  tests_read (x ∷ xs) [] h e = absurd (let some : bare_join_test x ∷ map bare_join_test xs ≡ [] = e in cc)
  tests_read (x ∷ xs) (c ∷ cs) h e =
      let both = and_parts (is_column columns c.column) (list_all (λ (c : Condition). is_column columns c.column) cs) h in
      let head : bare_join_test x ≡ bare_join_test (join_test_of t u c) = cc in
      let tail : map bare_join_test xs ≡ map bare_join_test (map (join_test_of t u) cs) = cc in
      rw (test_read x c both.0 head, tests_read xs cs both.1 tail) refl

  pub order_read : (o : Option Qualified) (order : Option ℕ) → order_fits columns order ≡ true → option_map bare_qualified o ≡ option_map bare_qualified (option_map (side t u) order) → option_map bare_name (option_map joined_word o) ≡ option_map (name_at columns) order
  order_read None None h e = refl
  order_read None (Some c) h e = absurd (let some : None ≡ Some (bare_qualified (side t u c)) = e in cc)
  order_read (Some q) None h e = absurd (let some : Some (bare_qualified q) ≡ None = e in cc)
  order_read (Some q) (Some c) h e =
      let head : bare_qualified q ≡ bare_qualified (side t u c) = cc in
      ap (λ (n : Named). Some n) (word_read q c h head)

  -- the tables of columns

  side_table : (c : ℕ) → ((side t u c).table.name ≡ t.name) ⊎ ((side t u c).table.name ≡ u.name)
  side_table c = by (nat_lt c (length t.columns))
    where
      by : (b : Bool) → ((cond {A = Qualified} b (record { table = bare_word t.name; column = name_at t.columns c }) (record { table = bare_word u.name; column = name_at u.columns (c - length t.columns) })).table.name ≡ t.name)
          ⊎ ((cond {A = Qualified} b (record { table = bare_word t.name; column = name_at t.columns c }) (record { table = bare_word u.name; column = name_at u.columns (c - length t.columns) })).table.name ≡ u.name)
      by true = inl refl
      by false = inr refl

  pub known_table : (j : Joined) (q : Qualified) (c : ℕ) → j.table.name ≡ t.name → j.second.name ≡ u.name → bare_qualified q ≡ bare_qualified (side t u c) → is_neither j q ≡ false
  known_table j q c a b e =
      let name : q.table.name ≡ (side t u c).table.name = ap (λ (x : Qualified). x.table.name) e in
      ⊎_elim (λ (k : (side t u c).table.name ≡ t.name). first (j.table.name) q.table.name (a ∙ sym k ∙ sym name))
      (λ (k : (side t u c).table.name ≡ u.name). second (j.second.name) q.table.name (b ∙ sym k ∙ sym name)) (side_table c)
    where
      first : (m n : List ℕ) → m ≡ n → not (same_bytes m n || same_bytes j.second.name n) ≡ false
      first m n e = rw (subst (λ (x : List ℕ). same_bytes m x ≡ true) e (nat_list_eq_equiv.refl m)) refl

      second : (m n : List ℕ) → m ≡ n → not (same_bytes j.table.name n || same_bytes m n) ≡ false
      second m n e = rw (subst (λ (x : List ℕ). same_bytes m x ≡ true) e (nat_list_eq_equiv.refl m)) (either (same_bytes j.table.name n))
        where
          either : (b : Bool) → not (b || true) ≡ false
          either true = refl
          either false = refl

  pub list_known : (j : Joined) → j.table.name ≡ t.name → j.second.name ≡ u.name → (qs : List Qualified) (cs : List ℕ) → map bare_qualified qs ≡ map bare_qualified (map (side t u) cs) → (k : Judged) → list_qualifiers_judged j k qs ≡ k
  list_known j a b [] cs e k = refl
  list_known j a b (q ∷ qs) [] e k = absurd (let some : bare_qualified q ∷ map bare_qualified qs ≡ [] = e in cc)
  list_known j a b (q ∷ qs) (c ∷ cs) e k =
      let head : bare_qualified q ≡ bare_qualified (side t u c) = cc in
      let tail : map bare_qualified qs ≡ map bare_qualified (map (side t u) cs) = cc in
      rw (known_table j q c a b head) (list_known j a b qs cs tail k)

  pub tests_known : (j : Joined) → j.table.name ≡ t.name → j.second.name ≡ u.name → (xs : List JoinTest) (cs : List Condition) → map bare_join_test xs ≡ map bare_join_test (map (join_test_of t u) cs) → (k : Judged) → test_qualifiers_judged j k xs ≡ k
  tests_known j a b [] cs e k = refl
  tests_known j a b (x ∷ xs) [] e k = absurd (let some : bare_join_test x ∷ map bare_join_test xs ≡ [] = e in cc)
  tests_known j a b (x ∷ xs) (c ∷ cs) e k =
      let head : bare_join_test x ≡ bare_join_test (join_test_of t u c) = cc in
      let tail : map bare_join_test xs ≡ map bare_join_test (map (join_test_of t u) cs) = cc in
      rw (known_table j x.column c.column a b (ap (λ (y : JoinTest). y.column) head)) (tests_known j a b xs cs tail k)

  pub order_known : (j : Joined) → j.table.name ≡ t.name → j.second.name ≡ u.name → (o : Option Qualified) (order : Option ℕ) → option_map bare_qualified o ≡ option_map bare_qualified (option_map (side t u) order) → (k : Judged) → order_qualifier_judged j k o ≡ k
  order_known j a b None order e k = refl
  order_known j a b (Some q) None e k = absurd (let some : Some (bare_qualified q) ≡ None = e in cc)
  order_known j a b (Some q) (Some c) e k =
      let head : bare_qualified q ≡ bare_qualified (side t u c) = cc in
      rw (known_table j q c a b head) refl

  -- a qualified word is that of a column
  pub record WordKept (q : Qualified) (c : ℕ) : Type 0 where
    pub column : Column
    pub there : slice_get columns c ≡ Some column
    pub number : column_number columns (joined_word q).name ≡ Some c
    pub kind : kind_in columns (joined_word q).name ≡ Some column.kind
    pub kept : (met : List (Option Kind)) (taken : List Bool) → word_judged columns (state met taken) (joined_word q) ≡ state met taken

  pub word_kept : Sound columns → (q : Qualified) (c : ℕ) → is_column columns c ≡ true → bare_qualified q ≡ bare_qualified (side t u c) → WordKept q c
  word_kept sound q c h e =
      let found = column_there columns c h in
      let read : bare_name (joined_word q) ≡ name_at columns c = word_read q c h e in
      let name : (joined_word q).name ≡ found.0.name = name_is columns c found.0 (joined_word q) read found.1 in
      record {
        column = found.0;
        there = found.1;
        number = ap (column_number columns) name ∙ column_number_is columns c found.0 sound found.1;
        kind = ap (kind_in columns) name ∙ kind_is columns c found.0 sound found.1;
        kept = λ met taken. words_kept columns met taken (c ∷ []) (joined_word q ∷ []) sound (rw h refl) (ap (λ (n : Named). n ∷ []) read);
      }

  -- ON breaks no rule
  pub on_known : (n : ℕ) (met : List (Option Kind)) (taken : List Bool) (j : Joined) (join : Join) (l : WordKept j.left join.left) (r : WordKept j.right join.right)
      → are_apart n join.left join.right ≡ true → same_kind l.column.kind r.column.kind ≡ true → on_judged n columns (state met taken) j ≡ state met taken
  on_known n met taken j join l r apart alike =
      let s : Judged = state met taken in
      let at : ℕ = j.right.table.at in
      let tested : Judged → Judged = λ (k : Judged).
      noted (noted k (kinds_differ (kind_in columns (joined_word j.left).name) (kind_in columns (joined_word j.right).name)) at rule.JoinKinds)
      (are_together n (column_number columns (joined_word j.left).name) (column_number columns (joined_word j.right).name)) at rule.JoinSides in
      ap (λ (k : Judged). tested (word_judged columns k (joined_word j.right))) (l.kept met taken)
      ∙ ap tested (r.kept met taken)
      ∙ (λ i. noted (noted s (kinds_differ (l.kind i) (r.kind i)) at rule.JoinKinds) (are_together n (l.number i) (r.number i)) at rule.JoinSides)
      ∙ λ i. noted (noted s (not (alike i)) at rule.JoinKinds) (not (apart i)) at rule.JoinSides
