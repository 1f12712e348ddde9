-- The tokens of a part of a form are read as that part.
use Rattle.std.proofs.Common.{◌≡◌, ℕ, suc, zero, ◌+◌, ◌≤◌, Bool, true, false, List, [], ◌∷◌, ◌++◌, map, Option, Some, None, option_map, Result, Ok, refl, ap, ◌∙◌, append_assoc, arith, length}
use Rattle.std.specs.Prelude.{nat_le, pos, codes}
use Rattle.std.proofs.lemmas.Bool.{false≢true, eq-eqb}
use Rattle.std.proofs.lemmas.List.{length-append}
use Rattle.okws_base.specs.Names.{same_word}
use Rattle.okws_base.specs.declared.limit.TheConstants.{GREATEST_LIMIT}
use Rattle.okws_base.specs.declared.value.Value.TheVariants as value
use Rattle.okws_plan.specs.declared.statement.Comparison.{Comparison}
use Rattle.okws_plan.specs.declared.statement.Comparison.TheVariants as comparison
use Rattle.query_syntax.specs.declared.error.Refusal.{Refusal}
use Rattle.query_syntax.specs.declared.token.Fixed.{Fixed}
use Rattle.query_syntax.specs.declared.token.Fixed.TheVariants as fixed
use Rattle.query_syntax.specs.declared.token.Token.{Token}
use Rattle.query_syntax.specs.declared.token.Token.TheVariants as token
use Rattle.query_syntax.specs.declared.token.Placed.{Placed}
use Rattle.query_syntax.specs.declared.syntax.Named.{Named}
use Rattle.query_syntax.specs.declared.syntax.Written.{Written}
use Rattle.query_syntax.specs.declared.syntax.Written.TheVariants as written
use Rattle.query_syntax.specs.declared.syntax.Given.{Given}
use Rattle.query_syntax.specs.declared.syntax.Setting.{Setting}
use Rattle.query_syntax.specs.declared.syntax.Test.{Test}
use Rattle.query_syntax.specs.declared.syntax.Qualified.{Qualified}
use Rattle.query_syntax.specs.declared.syntax.JoinTest.{JoinTest}
use Rattle.query_syntax.specs.declared.syntax.Joined.{Joined}
use Rattle.query_syntax.specs.Answers.{◌>>=◌}
use Rattle.query_syntax.specs.Spelling.{comparison_sign, limit_tokens}
use Rattle.query_syntax.specs.Tokens.{same_fixed, fixed_number}
use Rattle.query_syntax.specs.Grammar.{Reader, begins, is_token, rest_of, fixed_at, name_at, value_at, comparison_at, comparison_in, number_at, setting_at, test_at, said_at, qualified_at, join_test_at, join_where_at, join_order_at, joined_at, more_at, items_at, where_at, order_at, limit_at}
use Rattle.query_syntax.specs.Forms.{tokens_in, named_tokens, written_token, given_tokens, setting_tokens, test_tokens, behind_separators, separated, where_tokens, order_by_tokens, qualified_tokens, join_test_tokens, join_where_tokens, join_order_tokens, joined_tokens, has_items, may_limit, bare_name, bare_value, bare_setting, bare_test, bare_qualified, bare_join_test, bare_joined}

-- one step of a reading, and what follows it
step : {A B : Type 0} (r : Result A Refusal) (f : A → Result B Refusal) (a : A) (y : Result B Refusal) → r ≡ Ok a → f a ≡ y → (r >>= f) ≡ y
step r f a y e h = rw e h

-- a token of one spelling is read
pub record FixedRead (f : Fixed) (ps : List Placed) (after : List Token) : Type 0 where
  pub at : ℕ
  pub rest : List Placed
  pub is : fixed_at f ps ≡ Ok (at, rest)
  pub left : tokens_in rest ≡ after

is_itself : (f : Fixed) → same_fixed f f ≡ true
is_itself f = eq-eqb (fixed_number f) (fixed_number f) refl

pub fixed_read : (f : Fixed) (ps : List Placed) (after : List Token) → tokens_in ps ≡ token.Fixed f ∷ after → FixedRead f ps after
fixed_read f [] after e = absurd (let none : [] ≡ token.Fixed f ∷ after = e in cc)
fixed_read f (p ∷ more) after e =
    let head : p.token ≡ token.Fixed f = cc in
    record { at = p.at; rest = more; is = rw (head, is_itself f) refl; left = cc }

-- the first of the tokens is this one
abbrev pub starts : Fixed → List Token → Bool
starts f [] = false
starts f (t ∷ more) = is_token f t

pub begins_as : (f : Fixed) (ps : List Placed) (ts : List Token) → tokens_in ps ≡ ts → begins f ps ≡ starts f ts
begins_as f ps ts e = by_list ps ∙ ap (starts f) e
  where
    by_list : (ps : List Placed) → begins f ps ≡ starts f (tokens_in ps)
    by_list [] = refl
    by_list (p ∷ more) = refl

pub rest_as : (ps : List Placed) (t : Token) (ts : List Token) → tokens_in ps ≡ t ∷ ts → tokens_in (rest_of ps) ≡ ts
rest_as [] t ts e = absurd (let none : [] ≡ t ∷ ts = e in cc)
rest_as (p ∷ more) t ts e = cc

-- what was read is the same but for places, and what is left
pub record Reads {A B : Type 0} (read : Result (A × List Placed) Refusal) (view : A → B) (b : A) (after : List Token) : Type 0 where
  pub it : A
  pub rest : List Placed
  pub is : read ≡ Ok (it, rest)
  pub same : view it ≡ view b
  pub left : tokens_in rest ≡ after

pub name_read : (w : Named) (ps : List Placed) (after : List Token) → tokens_in ps ≡ token.Word w.name ∷ after → Reads (name_at ps) bare_name w after
name_read w [] after e = absurd (let none : [] ≡ token.Word w.name ∷ after = e in cc)
name_read w (p ∷ more) after e =
    let head : p.token ≡ token.Word w.name = cc in
    record { it = record { at = p.at; name = w.name }; rest = more; is = rw head refl; same = refl; left = cc }

written_read : (w : Written) (ps : List Placed) (after : List Token) → tokens_in ps ≡ written_token w ∷ after → Reads (value_at ps) bare_value (record { at = 0; value = w }) after
written_read w [] after e = absurd (let none : [] ≡ written_token w ∷ after = e in cc)
written_read (written.Parameter n) (p ∷ more) after e =
    let head : p.token ≡ token.Parameter n = cc in
    record { it = record { at = p.at; value = written.Parameter n }; rest = more; is = rw head refl; same = refl; left = cc }
written_read (written.Literal v) (p ∷ more) after e =
    let head : p.token ≡ token.Literal v = cc in
    record { it = record { at = p.at; value = written.Literal v }; rest = more; is = rw head refl; same = refl; left = cc }

value_read : (v : Given) (ps : List Placed) (after : List Token) → tokens_in ps ≡ written_token v.value ∷ after → Reads (value_at ps) bare_value v after
value_read v ps after e =
    let h = written_read v.value ps after e in
    record { it = h.it; rest = h.rest; is = h.is; same = h.same; left = h.left }

comparison_again : (c : Comparison) → comparison_in (token.Fixed (comparison_sign c)) ≡ Some c
comparison_again comparison.Equal = refl
comparison_again comparison.Differs = refl
comparison_again comparison.Below = refl
comparison_again comparison.AtMost = refl
comparison_again comparison.Above = refl
comparison_again comparison.AtLeast = refl

comparison_read : (c : Comparison) (ps : List Placed) (after : List Token) → tokens_in ps ≡ token.Fixed (comparison_sign c) ∷ after → Reads (comparison_at ps) (λ (x : Comparison). x) c after
comparison_read c [] after e = absurd (let none : [] ≡ token.Fixed (comparison_sign c) ∷ after = e in cc)
comparison_read c (p ∷ more) after e =
    let head : p.token ≡ token.Fixed (comparison_sign c) = cc in
    record { it = c; rest = more; is = rw (head, comparison_again c) refl; same = refl; left = cc }

setting_read : (s : Setting) (ps : List Placed) (after : List Token) → tokens_in ps ≡ setting_tokens s ++ after → Reads (setting_at ps) bare_setting s after
unfolding setting_at
setting_read s ps after e =
    let name = name_read s.column ps (token.Fixed fixed.Equal ∷ written_token s.value.value ∷ after) e in
    let equal = fixed_read fixed.Equal name.rest (written_token s.value.value ∷ after) name.left in
    let given = value_read s.value equal.rest after equal.left in
    record {
      it = record { column = name.it; value = given.it };
      rest = given.rest;
      is = rw (name.is, equal.is, given.is) refl;
      same = both name.it s.column given.it s.value name.same given.same;
      left = given.left;
    }
  where
    both : (a b : Named) (c d : Given) → bare_name a ≡ bare_name b → bare_value c ≡ bare_value d → bare_setting (record { column = a; value = c }) ≡ bare_setting (record { column = b; value = d })
    both a b c d h k = rw (h, k) refl

test_read : (t : Test) (ps : List Placed) (after : List Token) → tokens_in ps ≡ test_tokens t ++ after → Reads (test_at ps) bare_test t after
unfolding test_at
test_read t ps after e =
    let name = name_read t.column ps (token.Fixed (comparison_sign t.comparison) ∷ written_token t.value.value ∷ after) e in
    let op = comparison_read t.comparison name.rest (written_token t.value.value ∷ after) name.left in
    let given = value_read t.value op.rest after op.left in
    record {
      it = record { column = name.it; comparison = op.it; value = given.it };
      rest = given.rest;
      is = rw (name.is, op.is, given.is) refl;
      same = all name.it t.column op.it t.comparison given.it t.value name.same op.same given.same;
      left = given.left;
    }
  where
    all : (a b : Named) (x y : Comparison) (c d : Given) → bare_name a ≡ bare_name b → x ≡ y → bare_value c ≡ bare_value d
        → bare_test (record { column = a; comparison = x; value = c }) ≡ bare_test (record { column = b; comparison = y; value = d })
    all a b x y c d h i k = rw (h, i, k) refl

-- a word that stands in its place alone is read
pub record SaidRead (w : List ℕ) (ps : List Placed) (after : List Token) : Type 0 where
  pub at : ℕ
  pub rest : List Placed
  pub is : said_at w ps ≡ Ok (at, rest)
  pub left : tokens_in rest ≡ after

said_read : (w : List ℕ) (ps : List Placed) (after : List Token) → same_word w w ≡ true → tokens_in ps ≡ token.Word w ∷ after → SaidRead w ps after
said_read w [] after h e = absurd (let none : [] ≡ token.Word w ∷ after = e in cc)
said_read w (p ∷ more) after h e =
    let head : p.token ≡ token.Word w = cc in
    record { at = p.at; rest = more; is = rw (head, h) refl; left = cc }

qualified_read : (q : Qualified) (ps : List Placed) (after : List Token) → tokens_in ps ≡ qualified_tokens q ++ after → Reads (qualified_at ps) bare_qualified q after
unfolding qualified_at
qualified_read q ps after e =
    let table = name_read q.table ps (token.Fixed fixed.Dot ∷ token.Word q.column.name ∷ after) e in
    let dot = fixed_read fixed.Dot table.rest (token.Word q.column.name ∷ after) table.left in
    let column = name_read q.column dot.rest after dot.left in
    record {
      it = record { table = table.it; column = column.it };
      rest = column.rest;
      is = rw (table.is, dot.is, column.is) refl;
      same = both table.it q.table column.it q.column table.same column.same;
      left = column.left;
    }
  where
    both : (a b c d : Named) → bare_name a ≡ bare_name b → bare_name c ≡ bare_name d → bare_qualified (record { table = a; column = c }) ≡ bare_qualified (record { table = b; column = d })
    both a b c d h k = rw (h, k) refl

join_test_read : (t : JoinTest) (ps : List Placed) (after : List Token) → tokens_in ps ≡ join_test_tokens t ++ after → Reads (join_test_at ps) bare_join_test t after
unfolding join_test_at
join_test_read t ps after e =
    let column = qualified_read t.column ps (token.Fixed (comparison_sign t.comparison) ∷ written_token t.value.value ∷ after) e in
    let op = comparison_read t.comparison column.rest (written_token t.value.value ∷ after) column.left in
    let given = value_read t.value op.rest after op.left in
    record {
      it = record { column = column.it; comparison = op.it; value = given.it };
      rest = given.rest;
      is = rw (column.is, op.is, given.is) refl;
      same = all column.it t.column op.it t.comparison given.it t.value column.same op.same given.same;
      left = given.left;
    }
  where
    all : (a b : Qualified) (x y : Comparison) (c d : Given) → bare_qualified a ≡ bare_qualified b → x ≡ y → bare_value c ≡ bare_value d
        → bare_join_test (record { column = a; comparison = x; value = c }) ≡ bare_join_test (record { column = b; comparison = y; value = d })
    all a b x y c d h i k = rw (h, i, k) refl

pub joined_read : (j : Joined) (ps : List Placed) (after : List Token) → tokens_in ps ≡ joined_tokens j ++ after → Reads (joined_at ps) bare_joined j after
unfolding joined_at
joined_read j ps after e =
    let ending : List Token = token.Fixed fixed.Equal ∷ (qualified_tokens j.right ++ after) in
    let sides : List Token = qualified_tokens j.left ++ ending in
    let from = fixed_read fixed.From ps (token.Word j.table.name ∷ token.Word (codes "JOIN") ∷ token.Word j.second.name ∷ token.Word (codes "ON") ∷ sides) e in
    let table = name_read j.table from.rest (token.Word (codes "JOIN") ∷ token.Word j.second.name ∷ token.Word (codes "ON") ∷ sides) from.left in
    let join = said_read (codes "JOIN") table.rest (token.Word j.second.name ∷ token.Word (codes "ON") ∷ sides) refl table.left in
    let second = name_read j.second join.rest (token.Word (codes "ON") ∷ sides) join.left in
    let on = said_read (codes "ON") second.rest sides refl second.left in
    let left = qualified_read j.left on.rest ending on.left in
    let equal = fixed_read fixed.Equal left.rest (qualified_tokens j.right ++ after) left.left in
    let right = qualified_read j.right equal.rest after equal.left in
    record {
      it = record { table = table.it; second = second.it; left = left.it; right = right.it };
      rest = right.rest;
      is = rw (from.is, table.is, join.is, second.is, on.is, left.is, equal.is, right.is) refl;
      same = all table.it j.table second.it j.second left.it j.left right.it j.right table.same second.same left.same right.same;
      left = right.left;
    }
  where
    all : (a b c d : Named) (p q r s : Qualified) → bare_name a ≡ bare_name b → bare_name c ≡ bare_name d → bare_qualified p ≡ bare_qualified q → bare_qualified r ≡ bare_qualified s
        → bare_joined (record { table = a; second = c; left = p; right = r }) ≡ bare_joined (record { table = b; second = d; left = q; right = s })
    all a b c d p q r s h i k l = rw (h, i, k, l) refl

-- lists

-- the reader of an item reads each item that is spelled
pub record IsReader {A : Type 0} (reader : Reader A) (view : A → A) (spell : A → List Token) : Type 0 where
  pub reads : (a : A) (ps : List Placed) (after : List Token) → tokens_in ps ≡ spell a ++ after → Reads (reader ps) view a after

more_read : {A : Type 0} (s : Fixed) (item : Reader A) (view : A → A) (spell : A → List Token) (r : IsReader item view spell) (xs : List A) (n : ℕ) (ps : List Placed) (after : List Token)
    → length xs ≤ n → starts s after ≡ false → tokens_in ps ≡ behind_separators s spell xs ++ after → Reads (more_at s item n ps) (map view) xs after
unfolding more_at
more_read s item view spell r [] zero ps after le other e = record { it = []; rest = ps; is = refl; same = refl; left = e }
more_read s item view spell r [] (suc n) ps after le other e =
    record { it = []; rest = ps; is = rw (begins_as s ps after e, other) refl; same = refl; left = e }
more_read s item view spell r (a ∷ more) zero ps after le other e = absurd (omega arith)
more_read s item view spell r (a ∷ more) (suc n) ps after le other e =
    let behind : List Token = behind_separators s spell more in
    let front : begins s ps ≡ true = begins_as s ps (token.Fixed s ∷ ((spell a ++ behind) ++ after)) e ∙ is_itself s in
    let first = r.reads a (rest_of ps) (behind ++ after) (rest_as ps (token.Fixed s) ((spell a ++ behind) ++ after) e ∙ append_assoc (spell a) behind after) in
    let tail = more_read s item view spell r more n first.rest after (omega arith) other first.left in
    record {
      it = first.it ∷ tail.it;
      rest = tail.rest;
      is = rw (front, first.is, tail.is) refl;
      same = rw (first.same, tail.same) refl;
      left = tail.left;
    }

length_behind : {A : Type 0} (s : Fixed) (spell : A → List Token) (xs : List A) (after : List Token) → length xs ≤ length (behind_separators s spell xs ++ after)
length_behind s spell [] after = omega arith
length_behind s spell (a ∷ more) after =
    let ih = length_behind s spell more after in
    let behind : List Token = behind_separators s spell more in
    let n : length ((spell a ++ behind) ++ after) ≡ length (spell a) + length (behind ++ after) = ap length (append_assoc (spell a) behind after) ∙ length-append (spell a) (behind ++ after) in
    omega arith

length_tokens : (ps : List Placed) → length (tokens_in ps) ≡ length ps
length_tokens [] = refl
length_tokens (p ∷ more) = ap suc (length_tokens more)

pub items_read : {A : Type 0} (s : Fixed) (item : Reader A) (view : A → A) (spell : A → List Token) (r : IsReader item view spell) (xs : List A) (ps : List Placed) (after : List Token)
    → has_items xs ≡ true → starts s after ≡ false → tokens_in ps ≡ separated s spell xs ++ after → Reads (items_at s item ps) (map view) xs after
items_read s item view spell r [] ps after some other e = absurd (false≢true some)
items_read s item view spell r (a ∷ more) ps after some other e =
    let behind : List Token = behind_separators s spell more in
    let first = r.reads a ps (behind ++ after) (e ∙ append_assoc (spell a) behind after) in
    let size : length more ≤ length first.rest = omega (arith, length_behind s spell more after, length_tokens first.rest, ap length first.left) in
    let tail = more_read s item view spell r more (length first.rest) first.rest after size other first.left in
    record {
      it = first.it ∷ tail.it;
      rest = tail.rest;
      is = rw (first.is, tail.is) refl;
      same = rw (first.same, tail.same) refl;
      left = tail.left;
    }

pub names : IsReader name_at bare_name named_tokens
names = record { reads = λ a ps after e. name_read a ps after e }

pub givens : IsReader value_at bare_value given_tokens
givens = record { reads = λ a ps after e. value_read a ps after e }

pub settings : IsReader setting_at bare_setting setting_tokens
settings = record { reads = λ a ps after e. setting_read a ps after e }

pub tests : IsReader test_at bare_test test_tokens
tests = record { reads = λ a ps after e. test_read a ps after e }

pub qualifieds : IsReader qualified_at bare_qualified qualified_tokens
qualifieds = record { reads = λ a ps after e. qualified_read a ps after e }

join_tests : IsReader join_test_at bare_join_test join_test_tokens
join_tests = record { reads = λ a ps after e. join_test_read a ps after e }

-- clauses

pub where_read : (ts : List Test) (ps : List Placed) (after : List Token) → starts fixed.Where after ≡ false → starts fixed.And after ≡ false → tokens_in ps ≡ where_tokens ts ++ after
    → Reads (where_at ps) (map bare_test) ts after
unfolding where_at
where_read [] ps after no_where no_and e = record { it = []; rest = ps; is = rw (begins_as fixed.Where ps after e, no_where) refl; same = refl; left = e }
where_read (t ∷ more) ps after no_where no_and e =
    let list : List Token = separated fixed.And test_tokens (t ∷ more) ++ after in
    let front : begins fixed.Where ps ≡ true = begins_as fixed.Where ps (token.Fixed fixed.Where ∷ list) e in
    let found = items_read fixed.And test_at bare_test test_tokens tests (t ∷ more) (rest_of ps) after refl no_and (rest_as ps (token.Fixed fixed.Where) list e) in
    record { it = found.it; rest = found.rest; is = rw (front, found.is) refl; same = found.same; left = found.left }

pub order_read : (order : Option Named) (ps : List Placed) (after : List Token) → starts fixed.Order after ≡ false → tokens_in ps ≡ order_by_tokens order ++ after → Reads (order_at ps) (option_map bare_name) order after
unfolding order_at
order_read None ps after other e = record { it = None; rest = ps; is = rw (begins_as fixed.Order ps after e, other) refl; same = refl; left = e }
order_read (Some w) ps after other e =
    let front : begins fixed.Order ps ≡ true = begins_as fixed.Order ps (token.Fixed fixed.Order ∷ token.Fixed fixed.By ∷ token.Word w.name ∷ after) e in
    let by = fixed_read fixed.By (rest_of ps) (token.Word w.name ∷ after) (rest_as ps (token.Fixed fixed.Order) (token.Fixed fixed.By ∷ token.Word w.name ∷ after) e) in
    let name = name_read w by.rest after by.left in
    record { it = Some name.it; rest = name.rest; is = rw (front, by.is, name.is) refl; same = ap (λ (n : Named). Some n) name.same; left = name.left }

pub join_where_read : (ts : List JoinTest) (ps : List Placed) (after : List Token) → starts fixed.Where after ≡ false → starts fixed.And after ≡ false → tokens_in ps ≡ join_where_tokens ts ++ after
    → Reads (join_where_at ps) (map bare_join_test) ts after
unfolding join_where_at
join_where_read [] ps after no_where no_and e = record { it = []; rest = ps; is = rw (begins_as fixed.Where ps after e, no_where) refl; same = refl; left = e }
join_where_read (t ∷ more) ps after no_where no_and e =
    let list : List Token = separated fixed.And join_test_tokens (t ∷ more) ++ after in
    let front : begins fixed.Where ps ≡ true = begins_as fixed.Where ps (token.Fixed fixed.Where ∷ list) e in
    let found = items_read fixed.And join_test_at bare_join_test join_test_tokens join_tests (t ∷ more) (rest_of ps) after refl no_and (rest_as ps (token.Fixed fixed.Where) list e) in
    record { it = found.it; rest = found.rest; is = rw (front, found.is) refl; same = found.same; left = found.left }

pub join_order_read : (order : Option Qualified) (ps : List Placed) (after : List Token) → starts fixed.Order after ≡ false → tokens_in ps ≡ join_order_tokens order ++ after
    → Reads (join_order_at ps) (option_map bare_qualified) order after
unfolding join_order_at
join_order_read None ps after other e = record { it = None; rest = ps; is = rw (begins_as fixed.Order ps after e, other) refl; same = refl; left = e }
join_order_read (Some q) ps after other e =
    let front : begins fixed.Order ps ≡ true = begins_as fixed.Order ps (token.Fixed fixed.Order ∷ token.Fixed fixed.By ∷ (qualified_tokens q ++ after)) e in
    let by = fixed_read fixed.By (rest_of ps) (qualified_tokens q ++ after) (rest_as ps (token.Fixed fixed.Order) (token.Fixed fixed.By ∷ (qualified_tokens q ++ after)) e) in
    let column = qualified_read q by.rest after by.left in
    record { it = Some column.it; rest = column.rest; is = rw (front, by.is, column.is) refl; same = ap (λ (n : Qualified). Some n) column.same; left = column.left }

number_read : (n : ℕ) (ps : List Placed) (after : List Token) → nat_le n GREATEST_LIMIT ≡ true → tokens_in ps ≡ token.Literal (value.Int (pos n)) ∷ after → Reads (number_at ps) (λ (x : ℕ). x) n after
number_read n [] after h e = absurd (let none : [] ≡ token.Literal (value.Int (pos n)) ∷ after = e in cc)
number_read n (p ∷ more) after h e =
    let head : p.token ≡ token.Literal (value.Int (pos n)) = cc in
    record { it = n; rest = more; is = rw (head, h) refl; same = refl; left = cc }

pub limit_read : (limit : Option ℕ) (ps : List Placed) (after : List Token) → may_limit limit ≡ true → starts fixed.Limit after ≡ false → tokens_in ps ≡ limit_tokens limit ++ after → Reads (limit_at ps) (λ (x : Option ℕ). x) limit after
unfolding limit_at
limit_read None ps after h other e = record { it = None; rest = ps; is = rw (begins_as fixed.Limit ps after e, other) refl; same = refl; left = e }
limit_read (Some n) ps after h other e =
    let behind : List Token = token.Literal (value.Int (pos n)) ∷ after in
    let front : begins fixed.Limit ps ≡ true = begins_as fixed.Limit ps (token.Fixed fixed.Limit ∷ behind) e in
    let number = number_read n (rest_of ps) after h (rest_as ps (token.Fixed fixed.Limit) behind e) in
    record { it = Some number.it; rest = number.rest; is = rw (front, number.is) refl; same = ap (λ (x : ℕ). Some x) number.same; left = number.left }
