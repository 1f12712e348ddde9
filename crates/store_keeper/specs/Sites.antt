-- Sites with the rows that stores have, and keepers of these rows.
use Rattle.std.specs.Prelude.{◌≡◌, ℕ, List, [], ◌∷◌, Option, Some, IfSome, IsSome, map}
use Rattle.okws_base.specs.declared.value.Value.{Value}
use Rattle.okws_plan.specs.declared.configuration.Config.{Config}
use Rattle.okws_plan.specs.declared.configuration.ProxyPlan.{ProxyPlan}
use Rattle.okws_plan.specs.declared.configuration.Table.{Table}
use Rattle.store_keeper.specs.Alike.{bare}

-- A proxy without the rows of its tables.
abbrev pub bare_plan : ProxyPlan → ProxyPlan
bare_plan plan = record plan { tables = map bare plan.tables }

-- A site without the rows of its tables.
abbrev pub bare_site : Config → Config
bare_site C = record C { proxies = map bare_plan C.proxies }

-- The sites are the same but for the rows with which their tables begin.
abbrev pub SitesAreAlike : Config → Config → Type 0
SitesAreAlike some others = bare_site some ≡ bare_site others

-- The rows with which a proxy's tables begin.
abbrev pub rows_of_plan : ProxyPlan → List (List (List Value))
rows_of_plan plan = map (λ (t : Table). t.first) plan.tables

-- Where a store tells its rows, these are those with which the proxy's tables begin.
abbrev pub HasFirstRows : ProxyPlan → Option (List (List (List Value))) → Type 0
HasFirstRows plan told = IfSome told (λ rows. rows ≡ rows_of_plan plan)

-- The same of the stores of these proxies, one of each.
abbrev pub HaveFirstRows : List ProxyPlan → List (Option (List (List (List Value)))) → Type 0
HaveFirstRows [] [] = Unit {0}
HaveFirstRows [] (told ∷ tolds) = ⊥
HaveFirstRows (plan ∷ plans) [] = ⊥
HaveFirstRows (plan ∷ plans) (told ∷ tolds) = HasFirstRows plan told × HaveFirstRows plans tolds

-- The keepers of these proxies, by what is told of them: each was made for a proxy's tables, and tells their first rows.
pub record AreOf (plans : List ProxyPlan) (tables : List (List Table)) (told : List (Option (List (List (List Value))))) : Type 0 where
  pub tables_are : tables ≡ map (λ (p : ProxyPlan). p.tables) plans
  pub told_are : told ≡ map (λ (p : ProxyPlan). Some (rows_of_plan p)) plans

-- All keepers of a type tell their rows.
pub record AllTell {K : Type 0} (told : K → Option (List (List (List Value)))) : Type 0 where
  pub all : (k : K) → IsSome (told k)

-- Each of these counts is 0.
abbrev pub AreZero : List ℕ → Type 0
AreZero [] = Unit {0}
AreZero (n ∷ ns) = (n ≡ 0) × AreZero ns
