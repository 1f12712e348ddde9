-- What a configuration has in common with another one that it may follow while a site runs.
use Rattle.std.specs.Prelude.{◌≡◌, ℕ, List, map, IsTrue}
use Rattle.okws_plan.specs.Configuration.{tables, query}
use Rattle.okws_plan.specs.Sound.{IsSound}
use Rattle.okws_plan.specs.declared.configuration.Config.{Config}
use Rattle.okws_plan.specs.declared.configuration.ProxyPlan.{ProxyPlan}
use Rattle.config_diff.specs.Access.{access_of, declares}
use Rattle.config_diff.specs.Changes.{regranted}
use Rattle.config_diff.specs.Sameness.{owned_in}
use Rattle.config_diff.specs.declared.access.Access.{Access}
use Rattle.config_diff.specs.declared.comparing.Regranted.TheVariants.{Grants}

-- Two configurations declare the same site. Services, proxies, templates, tables and first rows stand in one order; a query is known by its number, and a path by itself.
pub record SameSite (C D : Config) : Type 0 where
  pub services : C.services ≡ D.services
  pub proxies : map (λ (plan : ProxyPlan). plan.name) C.proxies ≡ map (λ (plan : ProxyPlan). plan.name) D.proxies
  pub tables_are : (p : ℕ) → tables C p ≡ tables D p
  pub queries : (p q : ℕ) → query C p q ≡ query D p q
  pub templates : C.templates ≡ D.templates
  pub retry : C.retry ≡ D.retry
  pub owners : (path : List ℕ) → owned_in C.paths path ≡ owned_in D.paths path

-- A configuration gives what services may do by it exactly where it declares the same site. Where it is sound, this names only what is declared.
pub record IsExact : Type 0 where
  pub only : (C D : Config) (a : Access) → regranted C D ≡ Grants a → SameSite C D × (a ≡ access_of D)
  pub all : (C D : Config) → SameSite C D → regranted C D ≡ Grants (access_of D)
  pub declared : (C D : Config) → IsSound D → SameSite C D → IsTrue (declares C (access_of D))
