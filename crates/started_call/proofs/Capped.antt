use Rattle.std.proofs.Common.{◌≡◌, ℕ, ◌<◌, ◌≤◌, ◌-◌, ◌^◌, ◌⊎◌, inl, inr, refl, arith, ◌∙◌, sym, true, false, min}
use Rattle.std.specs.Prelude.{nat_le}
use Rattle.std.proofs.lemmas.Bool.Decides.{leb_tells}
use Rattle.frame_codec.specs.Size.{capped}

-- A count that stays at its last value is below a smaller bound just where the count is.
pub capped_within : (n bound : ℕ) → bound < 2 ^ 64 - 1 → nat_le (capped n) bound ≡ nat_le n bound
capped_within n bound below = grind (arith, leb_tells n bound, leb_tells (capped n) bound)
