-- The SELECT from two tables that spells a join: its tokens are the statement's, each can be spelled, and its words are names of joined rows' columns.
use Rattle.std.proofs.Common.{◌≡◌, ℕ, suc, zero, ◌-◌, ◌+◌, ◌≤◌, ◌<◌, Bool, true, false, not, ◌&&◌, ◌||◌, cond, List, [], ◌∷◌, ◌++◌, map, Option, Some, None, option_map, refl, sym, ap, subst, ◌∙◌, ⊎_elim, arith, length}
use Rattle.std.specs.Prelude.{nat_le, nat_lt, ◌==◌, slice_get, if◌then◌else◌}
use Rattle.std.specs.List.{list_all, list_any}
use Rattle.std.proofs.lemmas.Bool.{false≢true, true≢false, and_parts, and_from, or_parts, lt-ltb, ltb-true, le-ltb, ne_eqb, eq-eqb, not-true, cases_lt}
use Rattle.std.proofs.lemmas.List.{length-map, length-append}
use Rattle.okws_base.specs.Names.{is_identifier, is_word, is_keyword, is_word_byte, is_first_byte}
use Rattle.okws_base.specs.Value.{same_bytes}
use Rattle.okws_plan.specs.Rules.{is_column, condition_fits, order_fits}
use Rattle.okws_plan.specs.declared.configuration.Column.{Column}
use Rattle.okws_plan.specs.declared.configuration.Table.{Table}
use Rattle.okws_base.specs.declared.value.Kind.{Kind}
use Rattle.okws_plan.specs.declared.statement.Condition.{Condition}
use Rattle.okws_plan.specs.declared.statement.Join.{Join}
use Rattle.okws_plan.specs.declared.statement.Selection.{Selection}
use Rattle.query_syntax.specs.declared.token.Fixed.{Fixed}
use Rattle.query_syntax.specs.declared.token.Fixed.TheVariants as fixed
use Rattle.query_syntax.specs.declared.token.Token.{Token}
use Rattle.query_syntax.specs.declared.token.Token.TheVariants as token
use Rattle.query_syntax.specs.declared.syntax.Qualified.{Qualified}
use Rattle.query_syntax.specs.declared.syntax.JoinTest.{JoinTest}
use Rattle.query_syntax.specs.declared.syntax.Joined.{Joined}
use Rattle.query_syntax.specs.declared.syntax.JoinSelect.{JoinSelect}
use Rattle.query_syntax.specs.Spelling.{comparison_sign, limit_tokens}
use Rattle.query_syntax.specs.Forms.{written_token, qualified_tokens, join_test_tokens, behind_separators, separated, join_where_tokens, join_order_tokens, joined_tokens, join_tokens}
use Rattle.query_syntax.specs.ReadAgain.{is_spelled}
use Rattle.statement_core.specs.Canonical.{column_token, table_token, side_tokens, side_list_tokens, side_condition_tokens, side_order_tokens, sides_tokens, pair_tokens}
use Rattle.statement_core.specs.Joining.{qualified_name, qualified_columns, joined_columns, joined_word}
use Rattle.statement_core.specs.Recompiled.{names_differ, holds_literal, conditions_hold}
use Rattle.statement_core.proofs.Judged.{Sound}
use Rattle.statement_core.proofs.Renamed.{front_at, behind_at, mapped_at}
use Rattle.statement_core.proofs.Stated.{bare_word, name_at, written_of, given_of, operand_same, regroup_five, spelled, spelled_both, spelled_separated, spelled_name, spelled_column, spelled_operand, sign_spelled, all_both, all_named, column_there, fitting}

-- a column of joined rows, behind the name of its table
abbrev pub side : Table → Table → ℕ → Qualified
side t u c =
    if nat_lt c (length t.columns) then record { table = bare_word t.name; column = name_at t.columns c }
    else record { table = bare_word u.name; column = name_at u.columns (c - length t.columns) }

abbrev pub join_test_of : Table → Table → Condition → JoinTest
join_test_of t u c = record { column = side t u c.column; comparison = c.comparison; value = given_of c.operand }

abbrev pub joined_on : Table → Table → Join → Joined
joined_on t u join = record { table = bare_word t.name; second = bare_word u.name; left = side t u join.left; right = side t u join.right }

-- the SELECT of a join of these tables
abbrev pub join_on : Table → Table → Join → Selection → JoinSelect
join_on t u join s = record { columns = map (side t u) s.columns; joined = joined_on t u join; tests = map (join_test_of t u) s.conditions; order = option_map (side t u) s.order; limit = s.limit }

-- its tokens are the statement's

side_same : (tables : List Table) (i j : ℕ) (t u : Table) → slice_get tables i ≡ Some t → slice_get tables j ≡ Some u → (c : ℕ) → side_tokens tables i j c ≡ qualified_tokens (side t u c)
side_same tables i j t u e f c = rw (e, f) (by (nat_lt c (length t.columns)))
  where
    by : (b : Bool) → cond b (token.Word t.name ∷ token.Fixed fixed.Dot ∷ column_token t.columns c ∷ []) (token.Word u.name ∷ token.Fixed fixed.Dot ∷ column_token u.columns (c - length t.columns) ∷ [])
        ≡ qualified_tokens (cond b (record { table = bare_word t.name; column = name_at t.columns c }) (record { table = bare_word u.name; column = name_at u.columns (c - length t.columns) }))
    by true = refl
    by false = refl

module _ (spell : ℕ → List Token) (q : ℕ → Qualified) (same : (c : ℕ) → spell c ≡ qualified_tokens (q c)) where
  list_behind : (cs : List ℕ) → side_list_tokens spell false cs ≡ behind_separators fixed.Comma qualified_tokens (map q cs)
  list_behind [] = refl
  list_behind (c ∷ more) = rw (same c, list_behind more) refl

  list_same : (cs : List ℕ) → side_list_tokens spell true cs ≡ separated fixed.Comma qualified_tokens (map q cs)
  list_same [] = refl
  list_same (c ∷ more) = rw (same c, list_behind more) refl

  order_same : (order : Option ℕ) → side_order_tokens spell order ≡ join_order_tokens (option_map q order)
  order_same None = refl
  order_same (Some c) = rw (same c) refl

  sides_same : (table second : List ℕ) (join : Join) → sides_tokens spell (token.Word table) (token.Word second) join
      ≡ joined_tokens (record { table = bare_word table; second = bare_word second; left = q join.left; right = q join.right })
  sides_same table second join = rw (same join.left, same join.right) refl

tests_behind : (spell : ℕ → List Token) (t u : Table) → ((c : ℕ) → spell c ≡ qualified_tokens (side t u c)) → (cs : List Condition) → side_condition_tokens spell false cs ≡ behind_separators fixed.And join_test_tokens (map (join_test_of t u) cs)
tests_behind spell t u same [] = refl
tests_behind spell t u same (c ∷ more) = rw (same c.column, operand_same c.operand, tests_behind spell t u same more) refl

tests_same : (spell : ℕ → List Token) (t u : Table) → ((c : ℕ) → spell c ≡ qualified_tokens (side t u c)) → (cs : List Condition) → side_condition_tokens spell true cs ≡ join_where_tokens (map (join_test_of t u) cs)
tests_same spell t u same [] = refl
tests_same spell t u same (c ∷ more) = rw (same c.column, operand_same c.operand, tests_behind spell t u same more) refl

pub pair_same : (tables : List Table) (i j : ℕ) (t u : Table) (join : Join) (s : Selection) → slice_get tables i ≡ Some t → slice_get tables j ≡ Some u
    → pair_tokens (side_tokens tables i j) (table_token tables i) (table_token tables j) join s ≡ join_tokens (join_on t u join s)
pair_same tables i j t u join s e f =
    let spell : ℕ → List Token = side_tokens tables i j in
    let same : (c : ℕ) → spell c ≡ qualified_tokens (side t u c) = side_same tables i j t u e f in
    let table : table_token tables i ≡ token.Word t.name = rw e refl in
    let second : table_token tables j ≡ token.Word u.name = rw f refl in
    (λ k. pair_tokens spell (table k) (second k) join s)
    ∙ rw (list_same spell (side t u) same s.columns, sides_same spell (side t u) same t.name u.name join, tests_same spell t u same s.conditions, order_same spell (side t u) same s.order)
    (ap (λ (ts : List Token). token.Fixed fixed.Select ∷ ts)
    (regroup_five (separated fixed.Comma qualified_tokens (map (side t u) s.columns)) (joined_tokens (joined_on t u join)) (join_where_tokens (map (join_test_of t u) s.conditions))
    (join_order_tokens (option_map (side t u) s.order)) (limit_tokens s.limit)))

-- each token can be spelled

pub long : (t u : Table) → length (joined_columns t.name t.columns u.name u.columns) ≡ length t.columns + length u.columns
long t u =
    let front : length (qualified_columns t.name t.columns) ≡ length t.columns = length-map t.columns (λ (c : Column). record c { name = qualified_name t.name c.name }) in
    let behind : length (qualified_columns u.name u.columns) ≡ length u.columns = length-map u.columns (λ (c : Column). record c { name = qualified_name u.name c.name }) in
    length-append (qualified_columns t.name t.columns) (qualified_columns u.name u.columns) ∙ omega (arith, front, behind)

-- what is known of the two tables
pub record Named2 (t u : Table) : Type 0 where
  pub table : is_identifier t.name ≡ true
  pub second : is_identifier u.name ≡ true
  pub columns : all_named t.columns ≡ true
  pub others : all_named u.columns ≡ true

spelled_side : (t u : Table) → Named2 t u → (c : ℕ) → is_column (joined_columns t.name t.columns u.name u.columns) c ≡ true → spelled (qualified_tokens (side t u c))
spelled_side t u named c h = by (nat_lt c (length t.columns)) refl
  where
    below : c < length t.columns + length u.columns
    below = let all = ltb-true c (length (joined_columns t.name t.columns u.name u.columns)) h in omega (arith, long t u)

    by : (b : Bool) → nat_lt c (length t.columns) ≡ b
        → spelled (qualified_tokens (cond b (record { table = bare_word t.name; column = name_at t.columns c }) (record { table = bare_word u.name; column = name_at u.columns (c - length t.columns) })))
    by true e = rw (spelled_name t.name named.table, spelled_column t.columns named.columns c e) refl
    by false e =
        let high : length t.columns ≤ c = from_not c (length t.columns) e in
        rw (spelled_name u.name named.second, spelled_column u.columns named.others (c - length t.columns) (lt-ltb (c - length t.columns) (length u.columns) (omega (arith, below)))) refl
      where
        from_not : (a b : ℕ) → nat_lt a b ≡ false → b ≤ a
        from_not a b e = ⊎_elim (λ (k : a < b). absurd (true≢false (sym (lt-ltb a b k) ∙ e))) (λ (k : b ≤ a). k) (cases_lt a b)

spelled_join_test : (t u : Table) (parameters : List Kind) → Named2 t u → length parameters ≤ 16 → (c : Condition)
    → (condition_fits (joined_columns t.name t.columns u.name u.columns) parameters c && holds_literal c.operand) ≡ true → spelled (join_test_tokens (join_test_of t u c))
spelled_join_test t u parameters named few c h =
    let columns : List Column = joined_columns t.name t.columns u.name u.columns in
    let both = and_parts (condition_fits columns parameters c) (holds_literal c.operand) h in
    let fits = fitting parameters columns c.column c.operand both.0 in
    let value : is_spelled (written_token (written_of c.operand)) ≡ true = spelled_operand parameters fits.0.kind c.operand few fits.2 both.1 in
    let there : is_column columns c.column ≡ true = lt-ltb c.column (length columns) (inside columns c.column fits.0 fits.1) in
    spelled_both (qualified_tokens (side t u c.column)) (token.Fixed (comparison_sign c.comparison) ∷ written_token (written_of c.operand) ∷ []) (spelled_side t u named c.column there)
    (rw (sign_spelled c.comparison, value) refl)
  where
    inside : {A : Type 0} (xs : List A) (i : ℕ) (x : A) → slice_get xs i ≡ Some x → i < length xs
    inside [] i x e = absurd (let none : None ≡ Some x = e in cc)
    inside (y ∷ more) zero x e = omega arith
    inside (y ∷ more) (suc i) x e = let below = inside more i x e in omega arith

spelled_join_tests : (t u : Table) (parameters : List Kind) → Named2 t u → length parameters ≤ 16 → (cs : List Condition)
    → list_all (λ (c : Condition). condition_fits (joined_columns t.name t.columns u.name u.columns) parameters c) cs ≡ true → conditions_hold cs ≡ true → spelled (join_where_tokens (map (join_test_of t u) cs))
spelled_join_tests t u parameters named few [] h k = refl
spelled_join_tests t u parameters named few (c ∷ more) h k =
    let columns : List Column = joined_columns t.name t.columns u.name u.columns in
    spelled_separated fixed.And (λ (c : Condition). condition_fits columns parameters c && holds_literal c.operand) (join_test_of t u) join_test_tokens refl (spelled_join_test t u parameters named few) (c ∷ more)
    (all_both (λ (c : Condition). condition_fits columns parameters c) (λ (c : Condition). holds_literal c.operand) (c ∷ more) h k)

spelled_join_order : (t u : Table) → Named2 t u → (order : Option ℕ) → order_fits (joined_columns t.name t.columns u.name u.columns) order ≡ true → spelled (join_order_tokens (option_map (side t u) order))
spelled_join_order t u named None h = refl
spelled_join_order t u named (Some c) h = spelled_side t u named c h

pub join_spelled : (t u : Table) (parameters : List Kind) (join : Join) (s : Selection) → Named2 t u → length parameters ≤ 16
    → list_all (λ (c : ℕ). is_column (joined_columns t.name t.columns u.name u.columns) c) s.columns ≡ true
    → is_column (joined_columns t.name t.columns u.name u.columns) join.left ≡ true → is_column (joined_columns t.name t.columns u.name u.columns) join.right ≡ true
    → list_all (λ (c : Condition). condition_fits (joined_columns t.name t.columns u.name u.columns) parameters c) s.conditions ≡ true → conditions_hold s.conditions ≡ true
    → order_fits (joined_columns t.name t.columns u.name u.columns) s.order ≡ true → spelled (limit_tokens s.limit) → spelled (join_tokens (join_on t u join s))
join_spelled t u parameters join s named few list left right tests held order limit =
    let columns : List Column = joined_columns t.name t.columns u.name u.columns in
    let l : List Token = separated fixed.Comma qualified_tokens (map (side t u) s.columns) in
    let j : List Token = joined_tokens (joined_on t u join) in
    let w : List Token = join_where_tokens (map (join_test_of t u) s.conditions) in
    let o : List Token = join_order_tokens (option_map (side t u) s.order) in
    let one : spelled l = spelled_separated fixed.Comma (λ (c : ℕ). is_column columns c) (side t u) qualified_tokens refl (spelled_side t u named) s.columns list in
    let on : spelled (qualified_tokens (side t u join.left) ++ (token.Fixed fixed.Equal ∷ qualified_tokens (side t u join.right))) =
    spelled_both (qualified_tokens (side t u join.left)) (token.Fixed fixed.Equal ∷ qualified_tokens (side t u join.right)) (spelled_side t u named join.left left) (spelled_side t u named join.right right) in
    let two : spelled j = rw (spelled_name t.name named.table, spelled_name u.name named.second) on in
    spelled_both l (j ++ (w ++ (o ++ limit_tokens s.limit))) one (spelled_both j (w ++ (o ++ limit_tokens s.limit)) two
    (spelled_both w (o ++ limit_tokens s.limit) (spelled_join_tests t u parameters named few s.conditions tests held) (spelled_both o (limit_tokens s.limit) (spelled_join_order t u named s.order order) limit)))

-- the names of joined rows' columns

pub side_name : (t u : Table) (c : ℕ) → is_column (joined_columns t.name t.columns u.name u.columns) c ≡ true → bare_word (joined_word (side t u c)).name ≡ name_at (joined_columns t.name t.columns u.name u.columns) c
side_name t u c h = ⊎_elim first second (cases_lt c (length t.columns))
  where
    columns : List Column
    columns = joined_columns t.name t.columns u.name u.columns

    front : length (qualified_columns t.name t.columns) ≡ length t.columns
    front = length-map t.columns (λ (c : Column). record c { name = qualified_name t.name c.name })

    first : c < length t.columns → bare_word (joined_word (side t u c)).name ≡ name_at columns c
    first below =
        let there = column_there t.columns c (lt-ltb c (length t.columns) below) in
        let at : slice_get columns c ≡ Some (record there.0 { name = qualified_name t.name there.0.name }) =
        front_at (qualified_columns t.name t.columns) (qualified_columns u.name u.columns) c (omega (arith, front, below)) ∙ mapped_at (λ (c : Column). record c { name = qualified_name t.name c.name }) t.columns c there.0 there.1 in
        rw (lt-ltb c (length t.columns) below, there.1, at) refl

    second : length t.columns ≤ c → bare_word (joined_word (side t u c)).name ≡ name_at columns c
    second high =
        let all = ltb-true c (length columns) h in
        let d : ℕ = c - length t.columns in
        let there = column_there u.columns d (lt-ltb d (length u.columns) (omega (arith, all, high, long t u))) in
        let at : slice_get columns c ≡ Some (record there.0 { name = qualified_name u.name there.0.name }) =
        behind_at (qualified_columns t.name t.columns) (qualified_columns u.name u.columns) c d (omega (arith, front, high)) (omega (arith, front)) ∙ mapped_at (λ (c : Column). record c { name = qualified_name u.name c.name }) u.columns d there.0 there.1 in
        rw (le-ltb c (length t.columns) high, there.1, at) refl

-- joined rows' columns have names of their own

same_front : (a x y : List ℕ) → same_bytes (a ++ x) (a ++ y) ≡ same_bytes x y
same_front [] x y = refl
same_front (b ∷ a) x y = rw (eq-eqb b b refl) (same_front a x y)

any_same : {A : Type 0} (f g : A → Bool) (xs : List A) → ((x : A) → f x ≡ g x) → list_any f xs ≡ list_any g xs
any_same f g [] h = refl
any_same f g (x ∷ xs) h = rw (h x, any_same f g xs h) refl

any_mapped : {A B : Type 0} (f : A → B) (p : B → Bool) (xs : List A) → list_any p (map f xs) ≡ list_any (λ (x : A). p (f x)) xs
any_mapped f p [] = refl
any_mapped f p (x ∷ xs) = rw (any_mapped f p xs) refl

any_front : {A : Type 0} (p : A → Bool) (xs ys : List A) → list_any p xs ≡ false → list_any p ys ≡ false → list_any p (xs ++ ys) ≡ false
any_front p [] ys h k = k
any_front p (x ∷ xs) ys h k =
    let parts = or_parts (p x) (list_any p xs) h in
    rw parts.0 (any_front p xs ys parts.1 k)

none_mapped : {A B : Type 0} (f : A → B) (p : B → Bool) (xs : List A) → ((x : A) → p (f x) ≡ false) → list_any p (map f xs) ≡ false
none_mapped f p [] h = refl
none_mapped f p (x ∷ xs) h = rw (h x) (none_mapped f p xs h)

abbrev name_of : Column → List ℕ
name_of c = c.name

-- no later column of the table has the name
none_later : (table name : List ℕ) (more : List Column) → list_any (λ (other : Column). same_bytes name other.name) more ≡ false → list_any (λ (other : Column). same_bytes (qualified_name table name) other.name) (qualified_columns table more) ≡ false
none_later table name more h =
    any_mapped (λ (d : Column). record d { name = qualified_name table d.name }) (λ (other : Column). same_bytes (qualified_name table name) other.name) more
    ∙ any_same (λ (d : Column). same_bytes (qualified_name table name) (qualified_name table d.name)) (λ (d : Column). same_bytes name d.name) more (λ d. same_front table (46 ∷ name) (46 ∷ d.name)) ∙ h

differ_renamed : (table : List ℕ) (columns : List Column) → names_differ name_of columns ≡ true → names_differ name_of (qualified_columns table columns) ≡ true
differ_renamed table [] h = refl
differ_renamed table (c ∷ more) h =
    let parts = and_parts (not (list_any (λ (other : Column). same_bytes c.name other.name) more)) (names_differ name_of more) h in
    let none = none_later table c.name more (not-true (list_any (λ (other : Column). same_bytes c.name other.name) more) parts.0) in
    and_from (not (list_any (λ (other : Column). same_bytes (qualified_name table c.name) other.name) (qualified_columns table more))) (names_differ name_of (qualified_columns table more))
    (ap not none) (differ_renamed table more parts.1)

-- a name without a `.`
abbrev undotted : List ℕ → Bool
undotted w = list_all (λ (b : ℕ). not (b == 46)) w

apart : (a b x y : List ℕ) → undotted a ≡ true → undotted b ≡ true → same_bytes a b ≡ false → same_bytes (qualified_name a x) (qualified_name b y) ≡ false
apart [] [] x y h k d = absurd (true≢false d)
apart [] (q ∷ b) x y h k d =
    let parts = and_parts (not (q == 46)) (undotted b) k in
    rw (ne_eqb 46 q (λ (e : 46 ≡ q). true≢false (sym (eq_at q e) ∙ not-true (q == 46) parts.0))) refl
  where
    eq_at : (q : ℕ) → 46 ≡ q → (q == 46) ≡ true
    eq_at q e = subst (λ (n : ℕ). (n == 46) ≡ true) e refl
apart (p ∷ a) [] x y h k d =
    let parts = and_parts (not (p == 46)) (undotted a) h in
    rw (not-true (p == 46) parts.0) refl
apart (p ∷ a) (q ∷ b) x y h k d = by (p == q) refl (apart a b x y (and_parts (not (p == 46)) (undotted a) h).1 (and_parts (not (q == 46)) (undotted b) k).1) d
  where
    by : (s : Bool) → (p == q) ≡ s → (same_bytes a b ≡ false → same_bytes (qualified_name a x) (qualified_name b y) ≡ false) → (s && same_bytes a b) ≡ false → (s && same_bytes (qualified_name a x) (qualified_name b y)) ≡ false
    by true e more d = more d
    by false e more d = refl

differ_joined : (t u : List ℕ) (columns others : List Column) → undotted t ≡ true → undotted u ≡ true → same_bytes t u ≡ false → names_differ name_of columns ≡ true → names_differ name_of others ≡ true
    → names_differ name_of (joined_columns t columns u others) ≡ true
differ_joined t u [] others p q d h k = differ_renamed u others k
differ_joined t u (c ∷ more) others p q d h k =
    let parts = and_parts (not (list_any (λ (other : Column). same_bytes c.name other.name) more)) (names_differ name_of more) h in
    let own = none_later t c.name more (not-true (list_any (λ (other : Column). same_bytes c.name other.name) more) parts.0) in
    let theirs : list_any (λ (other : Column). same_bytes (qualified_name t c.name) other.name) (qualified_columns u others) ≡ false =
    none_mapped (λ (e : Column). record e { name = qualified_name u e.name }) (λ (other : Column). same_bytes (qualified_name t c.name) other.name) others (λ e. apart t u c.name e.name p q d) in
    let none = any_front (λ (other : Column). same_bytes (qualified_name t c.name) other.name) (qualified_columns t more) (qualified_columns u others) own theirs in
    and_from (not (list_any (λ (other : Column). same_bytes (qualified_name t c.name) other.name) (joined_columns t more u others))) (names_differ name_of (joined_columns t more u others))
    (ap not none) (differ_joined t u more others p q d parts.1 k)

-- an identifier has no `.`

word_undotted : (w : List ℕ) → list_all is_word_byte w ≡ true → undotted w ≡ true
word_undotted [] h = refl
word_undotted (b ∷ more) h =
    let parts = and_parts (is_word_byte b) (list_all is_word_byte more) h in
    let other : (b == 46) ≡ false = ne_eqb b 46 (λ (e : b ≡ 46). let P : ℕ → Type 0 = λ n. is_word_byte n ≡ true in false≢true (subst P e parts.0)) in
    rw other (word_undotted more parts.1)

pub identifier_undotted : (w : List ℕ) → is_identifier w ≡ true → undotted w ≡ true
identifier_undotted [] h = refl
identifier_undotted (b ∷ more) h =
    let word = (and_parts (is_word (b ∷ more)) (not (is_keyword (b ∷ more))) (and_parts (nat_le (length (b ∷ more)) 64) (is_word (b ∷ more) && not (is_keyword (b ∷ more))) h).1).0 in
    let parts = and_parts (is_first_byte b) (list_all is_word_byte more) word in
    let other : (b == 46) ≡ false = ne_eqb b 46 (λ (e : b ≡ 46). let P : ℕ → Type 0 = λ n. is_first_byte n ≡ true in false≢true (subst P e parts.0)) in
    rw other (word_undotted more parts.1)

-- the columns of joined rows of two tables are sound
pub sound_joined : (t u : Table) → Named2 t u → same_bytes t.name u.name ≡ false → Sound t.columns → Sound u.columns → length t.columns + length u.columns ≤ 256 → Sound (joined_columns t.name t.columns u.name u.columns)
sound_joined t u named other a b few = record {
  differ = differ_joined t.name u.name t.columns u.columns (identifier_undotted t.name named.table) (identifier_undotted u.name named.second) other a.differ b.differ;
  few = omega (arith, long t u, few);
}
