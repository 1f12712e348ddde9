-- What holds of the tokens under every seed.
use Rattle.std.specs.Prelude.{◌≡◌, ℕ, ◌<◌, ◌^◌, List, length, Some}
use Rattle.token_core.specs.Token.{token_of, shown_of}

-- A token has 20 bytes.
abbrev pub HasTwentyBytes : Type 0
HasTwentyBytes = (seed : List ℕ) (s k p : ℕ) → length (token_of seed s k p).bytes ≡ 20

-- A token shows the service, the proxy and the incarnation that it is of.
abbrev pub ShowsItsNumbers : Type 0
ShowsItsNumbers =
    (seed : List ℕ) (s k p : ℕ) → s < 2 ^ 16 → k < 2 ^ 32 → p < 2 ^ 16
    → shown_of (token_of seed s k p).bytes ≡ Some (record { service = s; proxy = p; incarnation = k })

-- Tokens of different services, incarnations or proxies differ, under one seed and under two.
abbrev pub DiffersByNumbers : Type 0
DiffersByNumbers =
    (seed seed' : List ℕ) (s k p s' k' p' : ℕ)
    → s < 2 ^ 16 → k < 2 ^ 32 → p < 2 ^ 16 → s' < 2 ^ 16 → k' < 2 ^ 32 → p' < 2 ^ 16
    → token_of seed s k p ≡ token_of seed' s' k' p' → (s ≡ s') × (k ≡ k') × (p ≡ p')
