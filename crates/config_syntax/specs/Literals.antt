-- The literals of a row.
use Rattle.std.specs.Prelude.{ℕ, ◌-◌, Bool, true, ◌==◌, if◌then◌else◌, List, [], ◌∷◌, slice_index, Option, Some, None, option_map, Result, Ok, Err}
use Rattle.okws_base.specs.declared.value.Value.{Value}
use Rattle.plain_text.specs.Words.{is_blank}
use Rattle.query_syntax.specs.declared.error.Refusal.{Refusal}
use Rattle.query_syntax.specs.declared.token.Token.{Token}
use Rattle.query_syntax.specs.declared.token.Token.TheVariants as token
use Rattle.query_syntax.specs.declared.token.Placed.{Placed}
use Rattle.query_syntax.specs.declared.token.Fixed.TheVariants as fixed
use Rattle.query_syntax.specs.Tokens.{tokens, same_fixed}

-- A place of a text is its start, or stands behind a blank.
abbrev pub is_apart : List ℕ → ℕ → Bool
is_apart text at = if at == 0 then true else is_blank (slice_index text (at - 1))

-- A value before others.
abbrev pub with_value : Value → Option (List Value) → Option (List Value)
with_value v more = option_map (λ (values : List Value). v ∷ values) more

-- A token and the values behind it: a literal that stands apart is a value, and the end of the text is none.
abbrev pub value_then : Token → Bool → Option (List Value) → Option (List Value)
value_then (token.Literal v) apart more = if apart then with_value v more else None
value_then (token.Fixed f) apart more = if same_fixed f fixed.End then more else None
value_then (token.Word w) apart more = None
value_then (token.Parameter n) apart more = None

-- The values of tokens, up to the end of the text, where each is a literal that stands apart from what is before it.
abbrev pub values_of : List ℕ → List Placed → Option (List Value)
values_of text [] = Some []
values_of text (t ∷ more) = value_then t.token (is_apart text t.at) (values_of text more)

-- The values of a text that has these tokens, if it has any.
abbrev pub literals_in : List ℕ → Result (List Placed) Refusal → Option (List Value)
literals_in text (Ok found) = values_of text found
literals_in text (Err refusal) = None

-- The literals that a text lists, separated by blanks; none where it is no such list.
unfoldable pub literals : List ℕ → Option (List Value)
literals text = literals_in text (tokens text)
