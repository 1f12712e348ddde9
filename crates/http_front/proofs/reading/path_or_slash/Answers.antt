use Rattle.std.proofs.Common.{◌≡◌, ℕ, List, Bool, true, false, refl, Some, None}
use Rattle.std.specs.Prelude.{if◌then◌else◌}
use Rattle.http_front.proofs.reading.path_or_slash.Goals as goal

some_path : (b : Bool) (p q other : List ℕ) → Some q ≡ (if b then Some p else None) → q ≡ (if b then p else other)
some_path true p q other e = let same : q ≡ p = cc in same
some_path false p q other e = absurd (cc)

no_path : (b : Bool) (p other : List ℕ) → None ≡ (if b then Some p else None) → other ≡ (if b then p else other)
no_path true p other e = absurd (cc)
no_path false p other e = refl

pub returns-in-Some : goal.returns-in-Some
returns-in-Some c = some_path _ _ _ _ c.in-Some.ensures

pub returns-in-None : goal.returns-in-None
returns-in-None c = no_path _ _ _ c.in-None.ensures
