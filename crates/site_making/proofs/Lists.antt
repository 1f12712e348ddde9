-- Lists that grow at their ends.
use Rattle.std.proofs.Common.{◌≡◌, ℕ, suc, ◌+◌, Bool, true, List, [], ◌∷◌, ◌++◌, length, map, reverse, subst, arith}
use Rattle.okws_plan.specs.declared.configuration.Config.{Config}
use Rattle.site_cells.specs.Row.{Rise}
use Rattle.site_locks.specs.Sat.{RiseFrom}
use Rattle.turn_lock.specs.Rows.{AllNone}
use Rattle.turn_lock.proofs.Rows.{turned_push}
use Rattle.site_making.specs.Keepers.{KeeperIs, IsKeeper, AreBacked}

pub rise_push : (k m : ℕ) (xs : List ℕ) → m ≡ length xs + k → RiseFrom k xs → RiseFrom k (xs ++ m ∷ [])
rise_push k m [] e h = (omega arith, tt)
rise_push k m (x ∷ xs) e h = (h.0, rise_push (suc k) m xs (omega arith) h.1)

pub services_push : (k m : ℕ) (xs : List ℕ) → m ≡ length xs + k → Rise k xs → Rise k (xs ++ m ∷ [])
services_push k m [] e h = (omega arith, tt)
services_push k m (x ∷ xs) e h = (h.0, services_push (suc k) m xs (omega arith) h.1)

pub none_push : {E : Type 0} (Js : List (List E)) (J : List E) → J ≡ [] → AllNone Js → AllNone (Js ++ J ∷ [])
none_push [] J e h = (e, tt)
none_push (I ∷ Js) J e h = (h.0, none_push Js J e h.1)

-- of keepers that are turned round, the last one of the row is the first
pub backed_next : {K : Type 0} (f : K → KeeperIs) (C : Config) (steady : Bool) (first : ℕ → ℕ) (p : ℕ) (more left : List K) (k : K) → more ≡ left ++ k ∷ [] → AreBacked C steady first p (reverse (map f more))
    → IsKeeper C p (f k) × (steady ≡ true → (f k).steady ≡ true) × (first p ≡ (f k).faults) × AreBacked C steady first (suc p) (reverse (map f left))
backed_next f C steady first p more left k e h = subst (AreBacked C steady first p) (turned_push f more left k e) h
