-- The bytes of a token, and the numbers that it shows.
use Rattle.std.specs.Prelude.{ℕ, ◌+◌, ◌*◌, ◌-◌, ◌==◌, List, ◌++◌, length, take, drop, Option, Some, None, if◌then◌else◌}
use Rattle.std.specs.Int.{w16, w32, to_be_bytes, from_be_bytes}
use Rattle.rand_chacha.specs.ChaCha.{word_at, key_of}
use Rattle.okws_base.specs.declared.value.Token.{Token}
use Rattle.token_core.specs.declared.Claims.{Claims}

-- The word at a place of a stream of ChaCha20, which is ChaCha of ten double rounds, with the seed as its key.
unfoldable pub word : List ℕ → ℕ → ℕ → ℕ
word seed stream place = word_at 10 (key_of seed) stream place

-- The place of the first of the three words that are drawn for incarnation k at proxy p, where incarnations count from 1 and each has 48 words.
abbrev pub place_of : ℕ → ℕ → ℕ
place_of k p = 48 * (k - 1) + 3 * p

-- The service's number in 2 bytes, the proxy's in 2, the incarnation's in 4 and three words of the service's stream in 4 each, the high byte first.
unfoldable pub token_bytes : List ℕ → ℕ → ℕ → ℕ → List ℕ
token_bytes seed s k p =
    to_be_bytes w16 s ++ to_be_bytes w16 p ++ to_be_bytes w32 k
    ++ to_be_bytes w32 (word seed s (place_of k p))
    ++ to_be_bytes w32 (word seed s (place_of k p + 1))
    ++ to_be_bytes w32 (word seed s (place_of k p + 2))

-- The token of incarnation k of service s at proxy p, under a seed.
unfoldable pub token_of : List ℕ → ℕ → ℕ → ℕ → Token
token_of seed s k p = record { bytes = token_bytes seed s k p }

-- Just 20 bytes show a service, a proxy and an incarnation: the numbers in the first 8 of them.
abbrev pub shown_of : List ℕ → Option Claims
shown_of bytes =
    if length bytes == 20
    then Some (record {
      service = from_be_bytes w16 (take 2 bytes);
      proxy = from_be_bytes w16 (take 2 (drop 2 bytes));
      incarnation = from_be_bytes w32 (take 4 (drop 4 bytes));
    })
    else None
