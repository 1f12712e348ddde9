-- How tokens are spelled.
use Rattle.std.specs.Prelude.{ℕ, Bool, false, ◌||◌, ◌==◌, List, [], ◌∷◌, ◌++◌, pos, Option, Some, None, codes, if◌then◌else◌}
use Rattle.std.specs.Fmt.{decimal, signed_decimal}
use Rattle.okws_base.specs.declared.value.Value.{Value}
use Rattle.okws_base.specs.declared.value.Value.TheVariants as value
use Rattle.okws_plan.specs.declared.statement.Comparison.{Comparison}
use Rattle.okws_plan.specs.declared.statement.Comparison.TheVariants as comparison
use Rattle.plain_text.specs.Hexadecimal.{hex}
use Rattle.query_syntax.specs.Tokens.{same_fixed}
use Rattle.query_syntax.specs.declared.token.Fixed.{Fixed}
use Rattle.query_syntax.specs.declared.token.Fixed.TheVariants as fixed
use Rattle.query_syntax.specs.declared.token.Token.{Token}
use Rattle.query_syntax.specs.declared.token.Token.TheVariants as token

-- Keywords are spelled in upper case.
unfoldable pub fixed_text : Fixed → List ℕ
fixed_text fixed.Select = codes "SELECT"
fixed_text fixed.From = codes "FROM"
fixed_text fixed.Where = codes "WHERE"
fixed_text fixed.And = codes "AND"
fixed_text fixed.Order = codes "ORDER"
fixed_text fixed.By = codes "BY"
fixed_text fixed.Limit = codes "LIMIT"
fixed_text fixed.Insert = codes "INSERT"
fixed_text fixed.Into = codes "INTO"
fixed_text fixed.Values = codes "VALUES"
fixed_text fixed.Update = codes "UPDATE"
fixed_text fixed.Set = codes "SET"
fixed_text fixed.Delete = codes "DELETE"
fixed_text fixed.Int = codes "INT"
fixed_text fixed.Text = codes "TEXT"
fixed_text fixed.Bytes = codes "BYTES"
fixed_text fixed.Key = codes "KEY"
fixed_text fixed.Open = codes "("
fixed_text fixed.Close = codes ")"
fixed_text fixed.Comma = codes ","
fixed_text fixed.Dot = codes "."
fixed_text fixed.Equal = codes "="
fixed_text fixed.Differs = codes "<>"
fixed_text fixed.Below = codes "<"
fixed_text fixed.AtMost = codes "<="
fixed_text fixed.Above = codes ">"
fixed_text fixed.AtLeast = codes ">="
fixed_text fixed.End = []

-- A quote is doubled.
abbrev pub doubled : List ℕ → List ℕ
doubled [] = []
doubled (b ∷ more) = (if b == 39 then 39 ∷ 39 ∷ [] else b ∷ []) ++ doubled more

-- Integers without leading zeros, texts with doubled quotes, bytes as `x'..'`.
abbrev pub value_text : Value → List ℕ
value_text (value.Int n) = signed_decimal n
value_text (value.Text t) = (39 ∷ []) ++ doubled t ++ (39 ∷ [])
value_text (value.Bytes b) = (120 ∷ 39 ∷ []) ++ hex b ++ (39 ∷ [])

-- How a token is spelled: a word as it is, a parameter behind `?`, without leading zeros.
abbrev pub token_text : Token → List ℕ
token_text (token.Fixed f) = fixed_text f
token_text (token.Word w) = w
token_text (token.Parameter n) = (63 ∷ []) ++ decimal n
token_text (token.Literal v) = value_text v

-- a `(` or a `.`
abbrev pub opens : Token → Bool
opens (token.Fixed f) = same_fixed f fixed.Open || same_fixed f fixed.Dot
opens (token.Word w) = false
opens (token.Parameter n) = false
opens (token.Literal v) = false

-- a `)`, a `,` or a `.`
abbrev pub closes : Token → Bool
closes (token.Fixed f) = same_fixed f fixed.Close || (same_fixed f fixed.Comma || same_fixed f fixed.Dot)
closes (token.Word w) = false
closes (token.Parameter n) = false
closes (token.Literal v) = false

-- One space between two tokens, but none behind `(` and `.`, and none before `)`, `,` and `.`. `tight` tells that none is wanted before the first.
abbrev pub joined : Bool → List Token → List ℕ
joined tight [] = []
joined tight (t ∷ more) = ((if tight || closes t then [] else 32 ∷ []) ++ token_text t) ++ joined (opens t) more

-- The sign of a comparison.
abbrev pub comparison_sign : Comparison → Fixed
comparison_sign comparison.Equal = fixed.Equal
comparison_sign comparison.Differs = fixed.Differs
comparison_sign comparison.Below = fixed.Below
comparison_sign comparison.AtMost = fixed.AtMost
comparison_sign comparison.Above = fixed.Above
comparison_sign comparison.AtLeast = fixed.AtLeast

-- LIMIT n, and nothing without a limit.
abbrev pub limit_tokens : Option ℕ → List Token
limit_tokens None = []
limit_tokens (Some n) = token.Fixed fixed.Limit ∷ token.Literal (value.Int (pos n)) ∷ []
