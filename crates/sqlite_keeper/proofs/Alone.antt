-- A row of one value.
use Rattle.std.proofs.Common.{◌≡◌, ◌∷◌, [], List, length, ap, arith}
use Rattle.sqlite.specs.declared.types.Value.{Value}
use Rattle.sqlite.specs.Order.{column}

pub alone : (row : List Value) (v : Value) → length row ≡ 1 → column row 0 ≡ v → row ≡ v ∷ []
alone [] v one is = absurd (omega arith)
alone (x ∷ []) v one is = ap (λ (y : Value). y ∷ []) is
alone (x ∷ y ∷ more) v one is = absurd (omega arith)
