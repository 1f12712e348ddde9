-- Items that are turned round.
use Rattle.std.proofs.Common.{◌≡◌, List, reverse, map, ap, ◌∙◌}
use Rattle.std.proofs.lemmas.List.{reverse-reverse}
use Rattle.turn_lock.proofs.Dealt.{map-reverse}

-- what items are, turned round twice
pub turned_back : {A B : Type 0} (f : A → B) (xs ys : List A) → ys ≡ reverse xs → reverse (map f ys) ≡ map f xs
turned_back f xs ys e = ap (λ l. reverse (map f l)) e ∙ (ap reverse (map-reverse f xs) ∙ reverse-reverse (map f xs))
