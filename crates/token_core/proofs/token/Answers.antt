use Rattle.std.proofs.Common.{◌≡◌, ◌%◌, ◌^◌, ℕ, ◌+◌, ◌<◌, ap, refl, List, arith}
use Rattle.rand_chacha.specs.ChaCha.{ChaCha, key_of, next_word}
use Rattle.token_core.specs.Token.{word, token_of, token_bytes, place_of}
use Rattle.token_core.proofs.token.Goals as goal

-- Three words in a row of a generator that stands at a place of a stream.
drawn : (seed : List ℕ) (stream place at number a b c : ℕ) (g g1 g2 g3 : ChaCha) → place + 2 < 2 ^ 68 → at ≡ place → number ≡ stream
    → g ≡ record { key = key_of seed; stream = number; word_pos = at % 2 ^ 68 }
    → ◌≡◌ {A = ℕ × ChaCha} (a, g1) (next_word 10 g) → ◌≡◌ {A = ℕ × ChaCha} (b, g2) (next_word 10 g1) → ◌≡◌ {A = ℕ × ChaCha} (c, g3) (next_word 10 g2)
    → (a ≡ word seed stream place) × (b ≡ word seed stream (place + 1)) × (c ≡ word seed stream (place + 2))
unfolding word
drawn seed stream place at number a b c g g1 g2 g3 fits is same begins one two three =
    let p0 : at % 2 ^ 68 ≡ place = omega arith in
    let p1 : (place + 1) % 2 ^ 68 ≡ place + 1 = omega arith in
    let p2 : (place + 1 + 1) % 2 ^ 68 ≡ place + 2 = omega arith in
    let start = rw (p0, same) at begins in
    let e1 = rw start at one in
    let s1 = rw p1 at (ap (λ (x : ℕ × ChaCha). x.1) e1) in
    let e2 = rw s1 at two in
    let s2 = rw p2 at (ap (λ (x : ℕ × ChaCha). x.1) e2) in
    let e3 = rw s2 at three in
    (ap (λ (x : ℕ × ChaCha). x.0) e1, ap (λ (x : ℕ × ChaCha). x.0) e2, ap (λ (x : ℕ × ChaCha). x.0) e3)

pub returns : goal.returns
unfolding token_of token_bytes
returns c =
    let first = c.requires.first in
    let most = c.requires.most in
    let fits = c.ranges.proxy.fits in
    let words = drawn c.args.seed.now c.args.service (place_of c.args.incarnation c.args.proxy) _ _ _ _ _ _ _ _ _ (omega arith) (omega (arith, c.from-4.ensures, c.from.ensures, c.from-2.ensures)) c.from-3.ensures
    c.generator-words.ensures c.next_word.ensures c.next_word-2.ensures c.next_word-3.ensures in
    rw (
      c.copy_from_slice.ensures.after,
      c.copy_from_slice-2.ensures.after,
      c.copy_from_slice-3.ensures.after,
      c.copy_from_slice-4.ensures.after,
      c.copy_from_slice-5.ensures.after,
      c.copy_from_slice-6.ensures.after,
      c.to_be_bytes.ensures,
      c.to_be_bytes-2.ensures,
      c.to_be_bytes-3.ensures,
      c.to_be_bytes-4.ensures,
      c.to_be_bytes-5.ensures,
      c.to_be_bytes-6.ensures,
      words.0,
      words.1,
      words.2,
    ) refl
