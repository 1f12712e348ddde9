use Rattle.std.proofs.Common.{◌≡◌, ℕ, Bool, true, false, cond, List, Option, Some, None, refl, ap, subst, ◌∙◌}
use Rattle.std.specs.Str.{is_utf8, IsUtf8}
use Rattle.std.proofs.lemmas.Str.{IsUtf8-from_is_utf8, is_utf8-from_IsUtf8, IsUtf8-had}
use Rattle.okws_base.specs.declared.value.Value.TheVariants as value
use Rattle.query_syntax.specs.declared.token.Token.{Token}
use Rattle.query_syntax.specs.declared.token.Token.TheVariants as token
use Rattle.query_syntax.proofs.lexer.text_token.Goals as goal

abbrev literal : List ℕ → Option Token
literal text = Some (token.Literal (value.Text text))

none_if : (b : Bool) (x : Option Token) → (b ≡ true → false ≡ true) → None ≡ cond b x None
none_if true x h = absurd (let e : false ≡ true = h refl in cc)
none_if false x h = refl

some_if : (text content : List ℕ) → IsUtf8 content → text ≡ content → literal text ≡ cond (is_utf8 content) (literal content) None
some_if text content h e = rw (is_utf8-from_IsUtf8 content h, e) refl

pub returns-in-Err : goal.returns-in-Err
returns-in-Err c = none_if (is_utf8 c.args.content.items) (literal c.args.content.items) (λ e. c.in-Err.ensures.succeeds (IsUtf8-from_is_utf8 c.args.content.items e))

pub returns : goal.returns
returns c = some_if c.of.result c.args.content.items (subst (λ v. IsUtf8 v.items) c.in-Ok.ensures.ok (IsUtf8-had _ c.in-Ok.text.ok)) (c.of.ensures ∙ ap (λ v. v.items) c.in-Ok.ensures.ok)
