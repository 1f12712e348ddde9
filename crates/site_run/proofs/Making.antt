-- Items that are moved from one row to another.
use Rattle.std.proofs.Common.{◌≡◌, List, [], ◌∷◌, ◌++◌, reverse, map, sym, ap, ◌∙◌, append_assoc}
use Rattle.turn_lock.proofs.Rows.{turned_push}

-- of items that are moved from the end of one row to the end of another
pub moved : {A B : Type 0} (f : A → B) (more left : List A) (x : A) (ys now : List B) (y : B) (all : List B) → more ≡ left ++ x ∷ [] → now ≡ ys ++ y ∷ [] → y ≡ f x
    → ys ++ reverse (map f more) ≡ all → now ++ reverse (map f left) ≡ all
moved f more left x ys now y all e put is i =
    ap (λ l. l ++ reverse (map f left)) put
    ∙ (append_assoc ys (y ∷ []) (reverse (map f left))
    ∙ (ap (λ z. ys ++ z ∷ reverse (map f left)) is ∙ (ap (λ l. ys ++ l) (sym (turned_push f more left x e)) ∙ i)))
