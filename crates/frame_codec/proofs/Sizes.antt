-- How long numbers and lists of parts are.
use Rattle.std.proofs.Common.{◌≡◌, ℕ, ◌+◌, ◌<◌, ◌≤◌, List, [], ◌∷◌, length, get_or, refl, zero, suc, arith, ap}
use Rattle.std.specs.Prelude.{flat_map, fold}
use Rattle.std.proofs.lemmas.List.Sums.{sum_by-append, sum_by_from}
use Rattle.frame_codec.specs.Spelling.{two, four, eight, size}

pub length-two : (n : ℕ) → length (two n) ≡ 2
unfolding two
length-two n = refl

pub length-four : (n : ℕ) → length (four n) ≡ 4
unfolding four
length-four n = refl

pub length-eight : (n : ℕ) → length (eight n) ≡ 8
unfolding eight
length-eight n = refl

pub ruleset sizes = (length-two, length-four, length-eight)

-- a count that began at n
pub size_from : (n : ℕ) (parts : List (List ℕ)) → fold (λ (m : ℕ) (part : List ℕ). m + length part) n parts ≡ n + size parts
size_from n parts = sum_by_from length n parts
