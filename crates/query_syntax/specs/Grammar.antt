-- The grammar of statements, over tokens.
use Rattle.std.specs.Prelude.{ℕ, zero, suc, pos, negsuc, Bool, false, ◌&&◌, List, [], ◌∷◌, ◌++◌, length, nat_le, Option, Some, None, Result, Ok, Err, if◌then◌else◌, codes}
use Rattle.okws_base.specs.Names.{same_word}
use Rattle.okws_base.specs.declared.value.Value.{Value}
use Rattle.okws_base.specs.declared.value.Value.TheVariants as value
use Rattle.okws_base.specs.declared.limit.TheConstants.{GREATEST_LIMIT}
use Rattle.okws_plan.specs.declared.statement.Comparison.{Comparison}
use Rattle.okws_plan.specs.declared.statement.Comparison.TheVariants as comparison
use Rattle.query_syntax.specs.Answers.{◌>>=◌}
use Rattle.query_syntax.specs.Tokens.{same_fixed}
use Rattle.query_syntax.specs.declared.error.Refusal.{Refusal}
use Rattle.query_syntax.specs.declared.error.TextRule.TheVariants.{Expected}
use Rattle.query_syntax.specs.declared.token.Fixed.{Fixed}
use Rattle.query_syntax.specs.declared.token.Fixed.TheVariants as fixed
use Rattle.query_syntax.specs.declared.token.Token.{Token}
use Rattle.query_syntax.specs.declared.token.Token.TheVariants as token
use Rattle.query_syntax.specs.declared.token.Placed.{Placed}
use Rattle.query_syntax.specs.declared.syntax.Named.{Named}
use Rattle.query_syntax.specs.declared.syntax.Written.TheVariants as written
use Rattle.query_syntax.specs.declared.syntax.Given.{Given}
use Rattle.query_syntax.specs.declared.syntax.Setting.{Setting}
use Rattle.query_syntax.specs.declared.syntax.Test.{Test}
use Rattle.query_syntax.specs.declared.syntax.Qualified.{Qualified}
use Rattle.query_syntax.specs.declared.syntax.JoinTest.{JoinTest}
use Rattle.query_syntax.specs.declared.syntax.Joined.{Joined}
use Rattle.query_syntax.specs.declared.syntax.JoinSelect.{JoinSelect}
use Rattle.query_syntax.specs.declared.syntax.Form.{Form}
use Rattle.query_syntax.specs.declared.syntax.Form.TheVariants as form
use Rattle.query_syntax.specs.declared.syntax.Query.{Query}
use Rattle.query_syntax.specs.declared.syntax.Query.TheVariants as query

-- What stands at the front, and the tokens after it; or the refusal at the first token that can't stand there.
abbrev pub Reader : Type 0 → Type 0
Reader A = List Placed → Result (A × List Placed) Refusal

-- Rule 2 at a place.
abbrev pub unexpected : ℕ → Refusal
unexpected at = record { at = at; rule = Expected }

-- The place of the first token; there is always one, if only the end.
abbrev pub place_of : List Placed → ℕ
place_of [] = 0
place_of (t ∷ more) = t.at

-- A token is this one.
abbrev pub is_token : Fixed → Token → Bool
is_token f (token.Fixed g) = same_fixed g f
is_token f (token.Word w) = false
is_token f (token.Parameter n) = false
is_token f (token.Literal v) = false

-- The first token is this one.
abbrev pub begins : Fixed → List Placed → Bool
begins f [] = false
begins f (t ∷ more) = is_token f t.token

-- The tokens after the first.
abbrev pub rest_of : List Placed → List Placed
rest_of [] = []
rest_of (t ∷ more) = more

-- This token must stand; its place.
abbrev pub fixed_at : Fixed → Reader ℕ
fixed_at f tokens = if begins f tokens then Ok (place_of tokens, rest_of tokens) else Err (unexpected (place_of tokens))

-- A token is this word, in any ASCII case.
abbrev pub is_word_of : List ℕ → Token → Bool
is_word_of word (token.Word w) = same_word w word
is_word_of word (token.Fixed f) = false
is_word_of word (token.Parameter n) = false
is_word_of word (token.Literal v) = false

-- The first token is this word.
abbrev pub says : List ℕ → List Placed → Bool
says word [] = false
says word (t ∷ more) = is_word_of word t.token

-- This word must stand; its place.
abbrev pub said_at : List ℕ → Reader ℕ
said_at word tokens = if says word tokens then Ok (place_of tokens, rest_of tokens) else Err (unexpected (place_of tokens))

-- A word is a name; no other token is.
abbrev pub word_or : ℕ → List Placed → Token → Result (Named × List Placed) Refusal
word_or at more (token.Word w) = Ok (record { at = at; name = w }, more)
word_or at more (token.Fixed f) = Err (unexpected at)
word_or at more (token.Parameter n) = Err (unexpected at)
word_or at more (token.Literal v) = Err (unexpected at)

-- A word that is no keyword.
abbrev pub name_at : Reader Named
name_at [] = Err (unexpected 0)
name_at (t ∷ more) = word_or t.at more t.token

-- A parameter and a literal are values; no other token is.
abbrev pub value_or : ℕ → List Placed → Token → Result (Given × List Placed) Refusal
value_or at more (token.Parameter n) = Ok (record { at = at; value = written.Parameter n }, more)
value_or at more (token.Literal v) = Ok (record { at = at; value = written.Literal v }, more)
value_or at more (token.Fixed f) = Err (unexpected at)
value_or at more (token.Word w) = Err (unexpected at)

-- A parameter or a literal.
abbrev pub value_at : Reader Given
value_at [] = Err (unexpected 0)
value_at (t ∷ more) = value_or t.at more t.token

-- The comparison that a sign stands for, if it stands for one.
abbrev pub comparison_of : Fixed → Option Comparison
comparison_of fixed.Equal = Some comparison.Equal
comparison_of fixed.Differs = Some comparison.Differs
comparison_of fixed.Below = Some comparison.Below
comparison_of fixed.AtMost = Some comparison.AtMost
comparison_of fixed.Above = Some comparison.Above
comparison_of fixed.AtLeast = Some comparison.AtLeast
comparison_of _ = None

-- What was found at a place, or rule 2 there.
abbrev pub given_or : {A : Type 0} → ℕ → List Placed → Option A → Result (A × List Placed) Refusal
given_or at more (Some a) = Ok (a, more)
given_or at more None = Err (unexpected at)

-- The comparison that a token stands for, if it stands for one.
abbrev pub comparison_in : Token → Option Comparison
comparison_in (token.Fixed f) = comparison_of f
comparison_in (token.Word w) = None
comparison_in (token.Parameter n) = None
comparison_in (token.Literal v) = None

-- `=`, `<>`, `<`, `<=`, `>` or `>=`.
abbrev pub comparison_at : Reader Comparison
comparison_at [] = Err (unexpected 0)
comparison_at (t ∷ more) = given_or t.at more (comparison_in t.token)

-- The limit that a value gives: an integer from 0 to 1,000,000,000.
abbrev pub limit_of : Value → Option ℕ
limit_of (value.Int (pos n)) = if nat_le n GREATEST_LIMIT then Some n else None
limit_of (value.Int (negsuc n)) = None
limit_of (value.Text t) = None
limit_of (value.Bytes b) = None

-- The limit that a token gives, if it gives one.
abbrev pub limit_in : Token → Option ℕ
limit_in (token.Literal v) = limit_of v
limit_in (token.Fixed f) = None
limit_in (token.Word w) = None
limit_in (token.Parameter n) = None

-- An integer from 0 to 1,000,000,000.
abbrev pub number_at : Reader ℕ
number_at [] = Err (unexpected 0)
number_at (t ∷ more) = given_or t.at more (limit_in t.token)

-- c = v
unfoldable pub setting_at : Reader Setting
setting_at tokens = do
  column ← name_at tokens
  equal ← fixed_at fixed.Equal column.1
  value ← value_at equal.1
  Ok (record { column = column.0; value = value.0 }, value.1)

-- c op v
unfoldable pub test_at : Reader Test
test_at tokens = do
  column ← name_at tokens
  op ← comparison_at column.1
  value ← value_at op.1
  Ok (record { column = column.0; comparison = op.0; value = value.0 }, value.1)

-- t.c
unfoldable pub qualified_at : Reader Qualified
qualified_at tokens = do
  table ← name_at tokens
  dot ← fixed_at fixed.Dot table.1
  column ← name_at dot.1
  Ok (record { table = table.0; column = column.0 }, column.1)

-- t.c op v
unfoldable pub join_test_at : Reader JoinTest
join_test_at tokens = do
  column ← qualified_at tokens
  op ← comparison_at column.1
  value ← value_at op.1
  Ok (record { column = column.0; comparison = op.0; value = value.0 }, value.1)

-- Items before those that were read.
abbrev pub with_front : {A : Type 0} → List A → Result (List A × List Placed) Refusal → Result (List A × List Placed) Refusal
with_front front read = read >>= λ x. Ok (front ++ x.0, x.1)

-- Up to n items, each behind its separator.
unfoldable pub more_at : {A : Type 0} → Fixed → Reader A → ℕ → Reader (List A)
more_at separator item zero tokens = Ok ([], tokens)
more_at separator item (suc n) tokens =
    if begins separator tokens
    then (item (rest_of tokens) >>= λ first. with_front (first.0 ∷ []) (more_at separator item n first.1))
    else Ok ([], tokens)

-- One item, and as many more as follow behind separators: there are fewer than tokens.
abbrev pub items_at : {A : Type 0} → Fixed → Reader A → Reader (List A)
items_at separator item tokens = item tokens >>= λ first. with_front (first.0 ∷ []) (more_at separator item (length first.1) first.1)

-- c {, c}
abbrev pub names_at : Reader (List Named)
names_at tokens = items_at fixed.Comma name_at tokens

-- v {, v}
abbrev pub values_at : Reader (List Given)
values_at tokens = items_at fixed.Comma value_at tokens

-- c = v {, c = v}
abbrev pub settings_at : Reader (List Setting)
settings_at tokens = items_at fixed.Comma setting_at tokens

-- c op v {AND c op v}
abbrev pub tests_at : Reader (List Test)
tests_at tokens = items_at fixed.And test_at tokens

-- [WHERE c op v {AND c op v}]
unfoldable pub where_at : Reader (List Test)
where_at tokens = if begins fixed.Where tokens then tests_at (rest_of tokens) else Ok ([], tokens)

-- [ORDER BY c]
unfoldable pub order_at : Reader (Option Named)
order_at tokens =
    if begins fixed.Order tokens
    then (fixed_at fixed.By (rest_of tokens) >>= λ by. name_at by.1 >>= λ column. Ok (Some column.0, column.1))
    else Ok (None, tokens)

-- [LIMIT n]
unfoldable pub limit_at : Reader (Option ℕ)
limit_at tokens =
    if begins fixed.Limit tokens
    then (number_at (rest_of tokens) >>= λ n. Ok (Some n.0, n.1))
    else Ok (None, tokens)

-- Behind SELECT: c {, c} FROM t [where] [ORDER BY c] [LIMIT n]
unfoldable pub select_at : Reader Form
select_at tokens = do
  columns ← names_at tokens
  from ← fixed_at fixed.From columns.1
  table ← name_at from.1
  tests ← where_at table.1
  order ← order_at tests.1
  limit ← limit_at order.1
  Ok (form.Select columns.0 table.0 tests.0 order.0 limit.0, limit.1)

-- t.c {, t.c}
abbrev pub qualifieds_at : Reader (List Qualified)
qualifieds_at tokens = items_at fixed.Comma qualified_at tokens

-- t.c op v {AND t.c op v}
abbrev pub join_tests_at : Reader (List JoinTest)
join_tests_at tokens = items_at fixed.And join_test_at tokens

-- [WHERE t.c op v {AND t.c op v}]
unfoldable pub join_where_at : Reader (List JoinTest)
join_where_at tokens = if begins fixed.Where tokens then join_tests_at (rest_of tokens) else Ok ([], tokens)

-- [ORDER BY t.c]
unfoldable pub join_order_at : Reader (Option Qualified)
join_order_at tokens =
    if begins fixed.Order tokens
    then (fixed_at fixed.By (rest_of tokens) >>= λ by. qualified_at by.1 >>= λ column. Ok (Some column.0, column.1))
    else Ok (None, tokens)

-- FROM t JOIN u ON t.c = u.d, where JOIN and ON are words that have their meaning in these places alone
unfoldable pub joined_at : Reader Joined
joined_at tokens = do
  from ← fixed_at fixed.From tokens
  table ← name_at from.1
  join ← said_at (codes "JOIN") table.1
  second ← name_at join.1
  on ← said_at (codes "ON") second.1
  left ← qualified_at on.1
  equal ← fixed_at fixed.Equal left.1
  right ← qualified_at equal.1
  Ok (record { table = table.0; second = second.0; left = left.0; right = right.0 }, right.1)

-- Behind SELECT: t.c {, t.c} FROM t JOIN u ON t.c = u.d [WHERE t.c op v {AND t.c op v}] [ORDER BY t.c] [LIMIT n]
unfoldable pub join_at : Reader JoinSelect
join_at tokens = do
  columns ← qualifieds_at tokens
  joined ← joined_at columns.1
  tests ← join_where_at joined.1
  order ← join_order_at tests.1
  limit ← limit_at order.1
  Ok (record { columns = columns.0; joined = joined.0; tests = tests.0; order = order.0; limit = limit.0 }, limit.1)

-- Behind INSERT: INTO t ( c {, c} ) VALUES ( v {, v} )
unfoldable pub insert_at : Reader Form
insert_at tokens = do
  into ← fixed_at fixed.Into tokens
  table ← name_at into.1
  list ← fixed_at fixed.Open table.1
  columns ← names_at list.1
  end ← fixed_at fixed.Close columns.1
  said ← fixed_at fixed.Values end.1
  start ← fixed_at fixed.Open said.1
  values ← values_at start.1
  close ← fixed_at fixed.Close values.1
  Ok (form.Insert table.0 list.0 columns.0 values.0, close.1)

-- Behind UPDATE: t SET c = v {, c = v} [where]
unfoldable pub update_at : Reader Form
update_at tokens = do
  table ← name_at tokens
  set ← fixed_at fixed.Set table.1
  settings ← settings_at set.1
  tests ← where_at settings.1
  Ok (form.Update table.0 settings.0 tests.0, tests.1)

-- Behind DELETE: FROM t [where]
unfoldable pub delete_at : Reader Form
delete_at tokens = do
  from ← fixed_at fixed.From tokens
  table ← name_at from.1
  tests ← where_at table.1
  Ok (form.Delete table.0 tests.0, tests.1)

-- A statement at one table begins with SELECT, INSERT, UPDATE or DELETE.
unfoldable pub form_at : Reader Form
form_at tokens =
    if begins fixed.Select tokens then select_at (rest_of tokens)
    else if begins fixed.Insert tokens then insert_at (rest_of tokens)
    else if begins fixed.Update tokens then update_at (rest_of tokens)
    else if begins fixed.Delete tokens then delete_at (rest_of tokens)
    else Err (unexpected (place_of tokens))

-- A `.` behind the first word of a SELECT makes it a join.
abbrev pub begins_join : List Placed → Bool
begins_join tokens = begins fixed.Select tokens && begins fixed.Dot (rest_of (rest_of tokens))

-- A SELECT from two tables, or a statement at one.
abbrev pub query_at : Reader Query
query_at tokens =
    if begins_join tokens
    then (join_at (rest_of tokens) >>= λ join. Ok (query.Two join.0, join.1))
    else (form_at tokens >>= λ form. Ok (query.One form.0, form.1))

-- A whole text: a query, and then its end.
unfoldable pub parsed : List Placed → Result Query Refusal
parsed tokens = query_at tokens >>= λ found. fixed_at fixed.End found.1 >>= λ end. Ok found.0
