use Rattle.std.proofs.Common.{◌≡◌, ℕ, List, Bool, true, false, refl, Some, None}
use Rattle.std.specs.Prelude.{if◌then◌else◌}
use Rattle.http_front.proofs.looking.is_taken.Goals as goal

no_target : (b : Bool) (p : List ℕ) → None ≡ (if b then Some p else None) → false ≡ b
no_target true p e = absurd (cc)
no_target false p e = refl

a_target : (b : Bool) (p q : List ℕ) → Some q ≡ (if b then Some p else None) → true ≡ b
a_target true p q e = refl
a_target false p q e = absurd (cc)

pub returns-in-None : goal.returns-in-None
returns-in-None c = no_target _ _ c.in-None.ensures

pub returns-in-Some : goal.returns-in-Some
returns-in-Some c = a_target _ _ _ c.in-Some.ensures
