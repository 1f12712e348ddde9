-- The keepers of a run's proxies.
use Rattle.std.specs.Prelude.{◌≡◌, ℕ, suc, Bool, true, ◌&&◌, List, [], ◌∷◌, Some, map, slice_index}
use Rattle.std.specs.declared.option.Option.{Option}
use Rattle.okws_base.specs.declared.value.Value.{Value}
use Rattle.okws_plan.specs.Configuration.{tables, first_rows}
use Rattle.okws_plan.specs.declared.configuration.Config.{Config}
use Rattle.okws_plan.specs.declared.configuration.Table.{Table}

-- A keeper: the tables that it was made for, the rows of each where it tells them, the count of its faults, and that no call of it fails.
pub record KeeperIs : Type 0 where
  pub tables : List Table
  pub told : Option (List (List (List Value)))
  pub faults : ℕ
  pub steady : Bool

-- What a keeper is, by what its type tells of it.
abbrev pub keeper_of : {K : Type 0} → (K → List Table) → (K → Option (List (List (List Value)))) → (K → ℕ) → (K → Bool) → K → KeeperIs
keeper_of tables told faults steady k = record { tables = tables k; told = told k; faults = faults k; steady = steady k }

-- It is one of proxy p: it was made for the proxy's tables, and tells their first rows.
pub record IsKeeper (C : Config) (p : ℕ) (k : KeeperIs) : Type 0 where
  pub tables_are : k.tables ≡ tables C p
  pub told_are : k.told ≡ Some (first_rows C p)

-- They are those of the proxies from p on.
abbrev pub AreKeepers : Config → ℕ → List KeeperIs → Type 0
AreKeepers C p [] = Unit {0}
AreKeepers C p (k ∷ ks) = IsKeeper C p k × AreKeepers C (suc p) ks

-- No call of any fails.
abbrev pub are_steady : List KeeperIs → Bool
are_steady [] = true
are_steady (k ∷ ks) = k.steady && are_steady ks

-- The count of the keeper of proxy p.
abbrev pub faults_at : List KeeperIs → ℕ → ℕ
faults_at ks p = slice_index (map (λ (k : KeeperIs). k.faults) ks) p

-- They are those of the proxies from p on, in a run that says whether no call of theirs fails, and what their counts were when it began.
abbrev pub AreBacked : Config → Bool → (ℕ → ℕ) → ℕ → List KeeperIs → Type 0
AreBacked C steady first p [] = Unit {0}
AreBacked C steady first p (k ∷ ks) = IsKeeper C p k × (steady ≡ true → k.steady ≡ true) × (first p ≡ k.faults) × AreBacked C steady first (suc p) ks
