-- The statuses that have a phrase are codes of three digits, and those by which bytes are refused have one.
use Rattle.std.proofs.Common.{ℕ, IsSome, arith}
use Rattle.std.proofs.lemmas.Grind.{common_steps}
use Rattle.http.specs.StatusCode.{IsStatusCode}
use Rattle.http_text.specs.Status.{phrase}

pub phrases_have_codes : (n : ℕ) → IsSome (phrase n) → IsStatusCode n
phrases_have_codes n some = grind (arith, common_steps)
