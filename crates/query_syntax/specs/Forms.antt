-- The tokens that spell a form, and what is left of a form without its places.
use Rattle.std.specs.Prelude.{◌≡◌, ℕ, Bool, true, false, ◌&&◌, nat_le, IsTrue, List, [], ◌∷◌, ◌++◌, map, Option, Some, None, option_map, Result, Ok, Err, codes}
use Rattle.okws_base.specs.declared.limit.TheConstants.{GREATEST_LIMIT}
use Rattle.query_syntax.specs.declared.error.Refusal.{Refusal}
use Rattle.query_syntax.specs.declared.token.Fixed.{Fixed}
use Rattle.query_syntax.specs.declared.token.Fixed.TheVariants as fixed
use Rattle.query_syntax.specs.declared.token.Token.{Token}
use Rattle.query_syntax.specs.declared.token.Token.TheVariants as token
use Rattle.query_syntax.specs.declared.token.Placed.{Placed}
use Rattle.query_syntax.specs.declared.syntax.Named.{Named}
use Rattle.query_syntax.specs.declared.syntax.Written.{Written}
use Rattle.query_syntax.specs.declared.syntax.Written.TheVariants as written
use Rattle.query_syntax.specs.declared.syntax.Given.{Given}
use Rattle.query_syntax.specs.declared.syntax.Setting.{Setting}
use Rattle.query_syntax.specs.declared.syntax.Test.{Test}
use Rattle.query_syntax.specs.declared.syntax.Qualified.{Qualified}
use Rattle.query_syntax.specs.declared.syntax.JoinTest.{JoinTest}
use Rattle.query_syntax.specs.declared.syntax.Joined.{Joined}
use Rattle.query_syntax.specs.declared.syntax.JoinSelect.{JoinSelect}
use Rattle.query_syntax.specs.declared.syntax.Form.{Form}
use Rattle.query_syntax.specs.declared.syntax.Form.TheVariants as form
use Rattle.query_syntax.specs.declared.syntax.Query.{Query}
use Rattle.query_syntax.specs.declared.syntax.Query.TheVariants as query
use Rattle.query_syntax.specs.Spelling.{comparison_sign, limit_tokens}
use Rattle.query_syntax.specs.Grammar.{parsed}

-- The tokens, whatever their places are.
abbrev pub tokens_in : List Placed → List Token
tokens_in placed = map (λ (p : Placed). p.token) placed

-- A name is one word.
abbrev pub named_tokens : Named → List Token
named_tokens w = token.Word w.name ∷ []

-- A value is one token.
abbrev pub written_token : Written → Token
written_token (written.Parameter n) = token.Parameter n
written_token (written.Literal v) = token.Literal v

-- v
abbrev pub given_tokens : Given → List Token
given_tokens v = written_token v.value ∷ []

-- c = v
abbrev pub setting_tokens : Setting → List Token
setting_tokens s = token.Word s.column.name ∷ token.Fixed fixed.Equal ∷ written_token s.value.value ∷ []

-- c op v
abbrev pub test_tokens : Test → List Token
test_tokens t = token.Word t.column.name ∷ token.Fixed (comparison_sign t.comparison) ∷ written_token t.value.value ∷ []

-- t.c
abbrev pub qualified_tokens : Qualified → List Token
qualified_tokens q = token.Word q.table.name ∷ token.Fixed fixed.Dot ∷ token.Word q.column.name ∷ []

-- t.c op v
abbrev pub join_test_tokens : JoinTest → List Token
join_test_tokens t = qualified_tokens t.column ++ (token.Fixed (comparison_sign t.comparison) ∷ written_token t.value.value ∷ [])

-- Items, each of them behind the separator.
abbrev pub behind_separators : {A : Type 0} → Fixed → (A → List Token) → List A → List Token
behind_separators separator item [] = []
behind_separators separator item (x ∷ more) = token.Fixed separator ∷ (item x ++ behind_separators separator item more)

-- Items with the separator between them.
abbrev pub separated : {A : Type 0} → Fixed → (A → List Token) → List A → List Token
separated separator item [] = []
separated separator item (x ∷ more) = item x ++ behind_separators separator item more

-- WHERE c op v {AND c op v}, and nothing without a condition.
abbrev pub where_tokens : List Test → List Token
where_tokens [] = []
where_tokens (t ∷ more) = token.Fixed fixed.Where ∷ separated fixed.And test_tokens (t ∷ more)

-- ORDER BY c, and nothing without an order.
abbrev pub order_by_tokens : Option Named → List Token
order_by_tokens None = []
order_by_tokens (Some w) = token.Fixed fixed.Order ∷ token.Fixed fixed.By ∷ token.Word w.name ∷ []

-- WHERE t.c op v {AND t.c op v}, and nothing without a condition.
abbrev pub join_where_tokens : List JoinTest → List Token
join_where_tokens [] = []
join_where_tokens (t ∷ more) = token.Fixed fixed.Where ∷ separated fixed.And join_test_tokens (t ∷ more)

-- ORDER BY t.c, and nothing without an order.
abbrev pub join_order_tokens : Option Qualified → List Token
join_order_tokens None = []
join_order_tokens (Some q) = token.Fixed fixed.Order ∷ token.Fixed fixed.By ∷ qualified_tokens q

-- FROM t JOIN u ON t.c = u.d
abbrev pub joined_tokens : Joined → List Token
joined_tokens j =
    token.Fixed fixed.From ∷ token.Word j.table.name ∷ token.Word (codes "JOIN") ∷ token.Word j.second.name ∷ token.Word (codes "ON") ∷ (qualified_tokens j.left ++ (token.Fixed fixed.Equal ∷ qualified_tokens j.right))

-- The tokens of a form, in the order of the grammar.
abbrev pub form_tokens : Form → List Token
form_tokens (form.Select columns table tests order limit) =
    token.Fixed fixed.Select ∷ (separated fixed.Comma named_tokens columns ++ (token.Fixed fixed.From ∷ token.Word table.name ∷ (where_tokens tests ++ (order_by_tokens order ++ limit_tokens limit))))
form_tokens (form.Insert table list columns values) =
    token.Fixed fixed.Insert ∷ token.Fixed fixed.Into ∷ token.Word table.name ∷ token.Fixed fixed.Open ∷ (separated fixed.Comma named_tokens columns
    ++ (token.Fixed fixed.Close ∷ token.Fixed fixed.Values ∷ token.Fixed fixed.Open ∷ (separated fixed.Comma given_tokens values ++ (token.Fixed fixed.Close ∷ []))))
form_tokens (form.Update table settings tests) =
    token.Fixed fixed.Update ∷ token.Word table.name ∷ token.Fixed fixed.Set ∷ (separated fixed.Comma setting_tokens settings ++ where_tokens tests)
form_tokens (form.Delete table tests) = token.Fixed fixed.Delete ∷ token.Fixed fixed.From ∷ token.Word table.name ∷ where_tokens tests

-- The tokens of a SELECT from two tables.
abbrev pub join_tokens : JoinSelect → List Token
join_tokens j =
    token.Fixed fixed.Select ∷ (separated fixed.Comma qualified_tokens j.columns ++ (joined_tokens j.joined ++ (join_where_tokens j.tests ++ (join_order_tokens j.order ++ limit_tokens j.limit))))

-- The tokens of a query.
abbrev pub query_tokens : Query → List Token
query_tokens (query.One f) = form_tokens f
query_tokens (query.Two j) = join_tokens j

-- A list has an item.
abbrev pub has_items : {A : Type 0} → List A → Bool
has_items [] = false
has_items (x ∷ more) = true

-- A limit, where there is one, is at most 1,000,000,000.
abbrev pub may_limit : Option ℕ → Bool
may_limit None = true
may_limit (Some n) = nat_le n GREATEST_LIMIT

-- A form that the grammar allows: its lists but that of its conditions have an item, and its limit isn't too great.
abbrev pub is_grammatical : Form → Bool
is_grammatical (form.Select columns table tests order limit) = has_items columns && may_limit limit
is_grammatical (form.Insert table list columns values) = has_items columns && has_items values
is_grammatical (form.Update table settings tests) = has_items settings
is_grammatical (form.Delete table tests) = true

-- A query that the grammar allows.
abbrev pub is_allowed : Query → Bool
is_allowed (query.One f) = is_grammatical f
is_allowed (query.Two j) = has_items j.columns && may_limit j.limit

-- A name without its place.
abbrev pub bare_name : Named → Named
bare_name w = record { at = 0; name = w.name }

-- A value without its place.
abbrev pub bare_value : Given → Given
bare_value v = record { at = 0; value = v.value }

-- A setting without its places.
abbrev pub bare_setting : Setting → Setting
bare_setting s = record { column = bare_name s.column; value = bare_value s.value }

-- A condition without its places.
abbrev pub bare_test : Test → Test
bare_test t = record { column = bare_name t.column; comparison = t.comparison; value = bare_value t.value }

-- A qualified column without its places.
abbrev pub bare_qualified : Qualified → Qualified
bare_qualified q = record { table = bare_name q.table; column = bare_name q.column }

-- A condition on joined rows without its places.
abbrev pub bare_join_test : JoinTest → JoinTest
bare_join_test t = record { column = bare_qualified t.column; comparison = t.comparison; value = bare_value t.value }

-- Joined tables without their places.
abbrev pub bare_joined : Joined → Joined
bare_joined j = record { table = bare_name j.table; second = bare_name j.second; left = bare_qualified j.left; right = bare_qualified j.right }

-- A SELECT from two tables without its places.
abbrev pub bare_join : JoinSelect → JoinSelect
bare_join j = record { columns = map bare_qualified j.columns; joined = bare_joined j.joined; tests = map bare_join_test j.tests; order = option_map bare_qualified j.order; limit = j.limit }

-- A form without its places.
abbrev pub bare : Form → Form
bare (form.Select columns table tests order limit) = form.Select (map bare_name columns) (bare_name table) (map bare_test tests) (option_map bare_name order) limit
bare (form.Insert table list columns values) = form.Insert (bare_name table) 0 (map bare_name columns) (map bare_value values)
bare (form.Update table settings tests) = form.Update (bare_name table) (map bare_setting settings) (map bare_test tests)
bare (form.Delete table tests) = form.Delete (bare_name table) (map bare_test tests)

-- A query without its places.
abbrev pub bare_query : Query → Query
bare_query (query.One f) = query.One (bare f)
bare_query (query.Two j) = query.Two (bare_join j)

-- What was read, without its places.
abbrev pub read_barely : Result Query Refusal → Result Query Refusal
read_barely (Ok q) = Ok (bare_query q)
read_barely (Err e) = Err e

-- The tokens that spell a query, at whatever places they stand, are read as that query.
abbrev pub IsReadAgain : Query → Type 0
IsReadAgain q = (text : List Placed) → tokens_in text ≡ query_tokens q ++ token.Fixed fixed.End ∷ [] → read_barely (parsed text) ≡ Ok (bare_query q)

-- Each query that the grammar allows is read from its tokens.
abbrev pub FormsAreReadAgain : Type 0
FormsAreReadAgain = (q : Query) → IsTrue (is_allowed q) → IsReadAgain q
