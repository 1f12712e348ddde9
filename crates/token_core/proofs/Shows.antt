-- A token shows its numbers, and these tell tokens apart.
use Rattle.std.proofs.Common.{◌≡◌, ◌∙◌, Option, Some, None, refl, ap, sym}
use Rattle.std.proofs.lemmas.Nat.{from_be_bytes-to_be_bytes_2, from_be_bytes-to_be_bytes_4}
use Rattle.okws_base.specs.declared.value.Token.{Token}
use Rattle.token_core.specs.declared.Claims.{Claims}
use Rattle.token_core.specs.Token.{token_of, token_bytes, shown_of}
use Rattle.token_core.specs.Laws.{HasTwentyBytes, ShowsItsNumbers, DiffersByNumbers}

-- The bytes of the parts are 20.
pub token-length : HasTwentyBytes
unfolding token_of token_bytes
token-length seed s k p = refl

-- Each number is read back from the bytes that it was written in.
pub shown-token : ShowsItsNumbers
unfolding token_of token_bytes
shown-token seed s k p hs hk hp =
    let es = from_be_bytes-to_be_bytes_2 s hs in
    let ep = from_be_bytes-to_be_bytes_2 p hp in
    let ek = from_be_bytes-to_be_bytes_4 k hk in
    rw (es, ep, ek) refl

-- What bytes show, and else these claims.
claims_or : Claims → Option Claims → Claims
claims_or else None = else
claims_or else (Some claims) = claims

-- Two claims in a `Some` are one.
one_claim : (a b : Claims) → Some a ≡ Some b → a ≡ b
unfolding claims_or
one_claim a b e = ap (claims_or a) e

-- Equal tokens show the same.
pub tokens-differ : DiffersByNumbers
tokens-differ seed seed' s k p s' k' p' hs hk hp hs' hk' hp' same =
    let shows = sym (shown-token seed s k p hs hk hp) ∙ ap (λ (t : Token). shown_of t.bytes) same ∙ shown-token seed' s' k' p' hs' hk' hp' in
    let one = one_claim _ _ shows in
    (ap (λ (c : Claims). c.service) one, ap (λ (c : Claims). c.incarnation) one, ap (λ (c : Claims). c.proxy) one)
