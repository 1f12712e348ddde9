-- What a run asks of its stores, and gives back to them.
use Rattle.std.specs.Prelude.{◌≡◌, ◌≤◌, ◌⊎◌, ℕ, suc, Bool, false, List, [], ◌∷◌, ◌++◌, Some, length, slice_get, take}
use Rattle.std.specs.declared.option.Option.{Option}
use Rattle.okws_base.specs.declared.value.Value.{Value}
use Rattle.okws_outer.specs.Depots.{Depot}
use Rattle.okws_outer.specs.Streams.{Rose}
use Rattle.okws_outer.specs.declared.stores.KeeperEnd.{KeeperEnd}
use Rattle.okws_outer.specs.declared.stores.KeeperStart.{KeeperStart}
use Rattle.okws_plan.specs.declared.configuration.ProxyPlan.{ProxyPlan}
use Rattle.store_keeper.specs.Alike.{HasRows}
use Rattle.store_keeper.specs.Loading.{ReadsUnsound}
use Rattle.store_keeper.specs.Sites.{HasFirstRows}

-- The making of a proxy's keeper for a file.
abbrev pub start_of : List ℕ → ℕ → ProxyPlan → KeeperStart
start_of file p plan = record { file = file; proxy = p; tables = plan.tables }

-- The makings of the keepers of these proxies, which have the numbers from p on, for a file, the last one first.
abbrev pub starts : List ℕ → ℕ → List ProxyPlan → List KeeperStart
starts file p [] = []
starts file p (plan ∷ plans) = starts file (suc p) plans ++ start_of file p plan ∷ []

-- The keepers of these proxies were made, for their tables.
abbrev pub with_starts : List ℕ → List ProxyPlan → Depot → Depot
with_starts file plans depot = record depot { made = starts file 0 plans ++ depot.made }

-- A keeper beside a store as it is given back: how many faults it has counted, the rows that it tells and those that its store tells, and whether the two have parted.
pub record Beside : Type 0 where
  pub faults : ℕ
  pub told : Option (List (List (List Value)))
  pub held : Option (List (List (List Value)))
  pub parted : Bool

-- What a keeper is as it is given back, by what its type tells of it.
abbrev pub beside_of : {K : Type 0} → (K → ℕ) → (K → Option (List (List (List Value)))) → (K → Bool) → (K → Option (List (List (List Value)))) → K → Beside
beside_of faults told parted held k = record { faults = faults k; told = told k; held = held k; parted = parted k }

-- The store of a keeper is that of proxy p, and had counted at least its faults; the rows that it tells are those that it told beside the keeper, and the keeper's, unless the two have parted.
pub record IsEnd (p : ℕ) (k : Beside) (e : KeeperEnd) : Type 0 where
  pub proxy_is : e.proxy ≡ p
  pub faults : k.faults ≤ e.faults
  pub held : e.rows ≡ k.held
  pub rows : k.parted ≡ false → HasRows e.rows k.told

-- These are of the proxies from p on, one of each.
abbrev pub AreEnds : ℕ → List Beside → List KeeperEnd → Type 0
AreEnds p [] [] = Unit {0}
AreEnds p [] (e ∷ es) = ⊥
AreEnds p (k ∷ ks) [] = ⊥
AreEnds p (k ∷ ks) (e ∷ es) = IsEnd p k e × AreEnds (suc p) ks es

-- The stores of the first proxies' keepers were given back, one of each, with the keepers' rows, and nothing else was done.
pub record GivesBack (keepers : List Beside) (a b : Depot) : Type 0 where
  pub ends : List KeeperEnd
  pub finished : b.finished ≡ ends ++ a.finished
  pub whose : AreEnds 0 keepers ends
  pub made : b.made ≡ a.made
  pub faults : b.faults ≡ a.faults

-- The store of a proxy is given back as it was made: it is that of proxy p, and where it tells its rows these are those with which the proxy's tables begin.
pub record IsKept (p : ℕ) (plan : ProxyPlan) (e : KeeperEnd) : Type 0 where
  pub proxy_is : e.proxy ≡ p
  pub rows : HasFirstRows plan e.rows

-- These are of the first ones of these proxies, which have the numbers from p on, one of each.
abbrev pub AreKept : ℕ → List KeeperEnd → List ProxyPlan → Type 0
AreKept p [] plans = Unit {0}
AreKept p (e ∷ es) [] = ⊥
AreKept p (e ∷ es) (plan ∷ plans) = IsKept p plan e × AreKept (suc p) es plans

-- The stores of these proxies were given back as they were made, one of each, and nothing else was done.
pub record GivesKept (plans : List ProxyPlan) (a b : Depot) : Type 0 where
  pub ends : List KeeperEnd
  pub finished : b.finished ≡ ends ++ a.finished
  pub all : length ends ≡ length plans
  pub kept : AreKept 0 ends plans
  pub made : b.made ≡ a.made
  pub faults : b.faults ≡ a.faults

-- A keeper was given back which had counted a fault.
pub record HasFaulty (a b : Depot) : Type 0 where
  pub front : List KeeperEnd
  pub end : KeeperEnd
  pub rest : List KeeperEnd
  pub finished : b.finished ≡ front ++ (end ∷ (rest ++ a.finished))
  pub rose : Rose 0 end.faults

-- A making failed and was counted; or a call of a keeper did, which was made and given back.
abbrev pub HasFailed : Depot → Depot → Type 0
HasFailed a b = Rose a.faults b.faults ⊎ HasFaulty a b

-- The store of this proxy was given back last, which tells no rows, and what it answered is not sound.
pub record HasUnsoundAt (p : ℕ) (plan : ProxyPlan) (a b : Depot) : Type 0 where
  pub end : KeeperEnd
  pub finished : b.finished ≡ end ∷ a.finished
  pub proxy_is : end.proxy ≡ p
  pub answers : ReadsUnsound plan.tables end.rows

-- A store of one of these proxies was given back, which tells no rows, and what it answered is not sound.
pub record HasUnsound (plans : List ProxyPlan) (a b : Depot) : Type 0 where
  pub front : List KeeperEnd
  pub end : KeeperEnd
  pub rest : List KeeperEnd
  pub finished : b.finished ≡ front ++ (end ∷ (rest ++ a.finished))
  pub plan : ProxyPlan
  pub whose : slice_get plans end.proxy ≡ Some plan
  pub answers : ReadsUnsound plan.tables end.rows

-- A store of one of these proxies is not to be had: a call failed, which was counted; or its rows are not sound.
abbrev pub LacksStore : List ProxyPlan → Depot → Depot → Type 0
LacksStore plans a b = HasFailed a b ⊎ HasUnsound plans a b

-- Of the keepers of these proxies, those of the first ones were made for the file and their tables, and the store of each that was made was given back as it was made; and nothing else was asked.
pub record HasAsked (file : List ℕ) (plans : List ProxyPlan) (a b : Depot) : Type 0 where
  pub ends : List KeeperEnd
  pub made : b.made ≡ starts file 0 (take (length ends) plans) ++ a.made
  pub finished : b.finished ≡ ends ++ a.finished
  pub kept : AreKept 0 ends plans

-- The keeper of a proxy could not be made for the file; or its store was made, and given back as it was made.
abbrev pub HasTried : List ℕ → ℕ → ProxyPlan → Depot → Depot → Type 0
HasTried file p plan a b =
    ((b.made ≡ a.made) × (b.finished ≡ a.finished))
    ⊎ ((e : KeeperEnd) × IsKept p plan e × (b.made ≡ start_of file p plan ∷ a.made) × (b.finished ≡ e ∷ a.finished))
