-- Bytes that a link keeps.
use Rattle.std.proofs.Common.{◌≡◌, ℕ, ◌+◌, ◌-◌, ◌≤◌, ◌<◌, List, [], ◌++◌, length, take, drop, refl, sym, ap, subst, ◌∙◌, append_assoc, arith}
use Rattle.std.proofs.lemmas.List.{drop-drop, take_at, length-append}
use Rattle.std.specs.Prelude.{option_map}
use Rattle.std.specs.declared.option.Option.{Option}
use Rattle.std.specs.declared.option.Option.TheVariants.{Some, None}
use Rattle.std.specs.Io.KnownBytes.{Consumes}
use Rattle.std.proofs.Math.Seq.{take-add}
use Rattle.okws_outer.specs.Wire.{Wire}
use Rattle.svc_kit.specs.Ends.{holding}

map_nil : (o : Option (List ℕ)) → option_map (λ (left : List ℕ). [] ++ left) o ≡ o
map_nil (Some left) = refl
map_nil None = refl

pub holding_nothing : (wire : Wire) → holding [] wire ≡ wire
holding_nothing wire = ap (λ (left : Option (List ℕ)). record wire { left = left }) (map_nil wire.left)

-- the first of the bytes that are kept, and the others
kept_splits : (piece : List ℕ) (from to count : ℕ) → count ≤ to - from → take (to - from) (drop from piece) ≡ take count (drop from piece) ++ take (to - (from + count)) (drop (from + count) piece)
kept_splits piece from to count few =
    let all : to - from ≡ count + (to - (from + count)) = omega arith in
    ap (λ (n : ℕ). take n (drop from piece)) all ∙ take-add count (to - (from + count)) (drop from piece) ∙ ap (λ (t : List ℕ). take count (drop from piece) ++ take (to - (from + count)) t) (drop-drop count from piece)

front_consumed : (old : Option (List ℕ)) (all front behind : List ℕ) → all ≡ front ++ behind → Consumes (option_map (λ (left : List ℕ). all ++ left) old) (option_map (λ (left : List ℕ). behind ++ left) old) front
front_consumed None all front behind e = tt
front_consumed (Some left) all front behind e = ap (λ (t : List ℕ). t ++ left) e ∙ append_assoc front behind left

pub given : (old : Option (List ℕ)) (piece shown rest : List ℕ) (from to count : ℕ) → 0 < count → count ≤ to - from → length shown ≡ count → shown ≡ take count (drop from piece)
    → (0 < count) × (count ≤ length (shown ++ rest)) × Consumes (option_map (λ (left : List ℕ). take (to - from) (drop from piece) ++ left) old) (option_map (λ (left : List ℕ). take (to - (from + count)) (drop (from + count) piece) ++ left) old) (take count (shown ++ rest))
given old piece shown rest from to count some few len is =
    let front : take count (shown ++ rest) ≡ shown = take_at shown rest count len in (
      some,
      omega (arith, length-append shown rest, len),
      subst (λ (t : List ℕ). Consumes (option_map (λ (left : List ℕ). take (to - from) (drop from piece) ++ left) old) (option_map (λ (left : List ℕ). take (to - (from + count)) (drop (from + count) piece) ++ left) old) t) (sym (front ∙ is))
          (front_consumed old (take (to - from) (drop from piece)) (take count (drop from piece)) (take (to - (from + count)) (drop (from + count) piece)) (kept_splits piece from to count few)),
    )
