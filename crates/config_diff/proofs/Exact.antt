-- A configuration gives what services may do by it exactly where it declares the same site.
use Rattle.std.proofs.Common.{◌≡◌, Bool, true, false, not, cond, Option, Some, None, IsTrue, refl, sym, subst}
use Rattle.std.specs.Prelude.{◌==◌}
use Rattle.std.specs.Cmp.Lexicographic.{pointwise}
use Rattle.std.proofs.lemmas.Bool.{eqb-true, eq-eqb}
use Rattle.okws_base.specs.Value.{same_bytes}
use Rattle.okws_plan.specs.declared.configuration.Config.{Config}
use Rattle.okws_plan.specs.Sound.{IsSound}
use Rattle.config_diff.specs.Access.{access_of, declares}
use Rattle.config_diff.specs.Changes.{regranted_by, regranted}
use Rattle.config_diff.specs.Exactness.{SameSite, IsExact}
use Rattle.config_diff.specs.Sameness.{same_service, same_part, same_paths}
use Rattle.config_diff.specs.declared.access.Access.{Access}
use Rattle.config_diff.specs.declared.comparing.Difference.{Difference}
use Rattle.config_diff.specs.declared.comparing.Difference.TheVariants.{Services, Proxies, Tables, FirstRows, Queries, Templates, Retry, Paths}
use Rattle.config_diff.specs.declared.comparing.Regranted.TheVariants.{Grants, Differs}
use Rattle.config_diff.specs.declared.site.ProxyPart.TheVariants as part
use Rattle.config_diff.proofs.Decided.{bytes_same, bytes_itself, service_same, service_itself}
use Rattle.config_diff.proofs.Declared.{what_is_given_is_declared}
use Rattle.config_diff.proofs.Lists.{list_same, lists_are}
use Rattle.config_diff.proofs.Paths.{owners_same, paths_are}
use Rattle.config_diff.proofs.Plans.{names_same, names_are, tables_at, shapes_are, rows_are, queries_at, queries_are}

-- where an access comes of a chain of tests, the first of them is passed, and it comes of the rest
passes : (b : Bool) (d : Difference) (rest : Option Difference) (a e : Access) → regranted_by (cond (not b) (Some d) rest) a ≡ Grants e → (b ≡ true) × (regranted_by rest a ≡ Grants e)
passes true d rest a e h = (refl, h)
passes false d rest a e h = absurd (let no : Differs d ≡ Grants e = h in cc)

gives : (C D : Config) (a : Access) → regranted C D ≡ Grants a → SameSite C D × (a ≡ access_of D)
gives C D a h =
    let one = passes (pointwise same_service C.services D.services) Services _ (access_of D) a h in
    let two = passes (pointwise (same_part part.Name) C.proxies D.proxies) Proxies _ (access_of D) a one.1 in
    let three = passes (pointwise (same_part part.Tables) C.proxies D.proxies) Tables _ (access_of D) a two.1 in
    let four = passes (pointwise (same_part part.FirstRows) C.proxies D.proxies) FirstRows _ (access_of D) a three.1 in
    let five = passes (pointwise (same_part part.Queries) C.proxies D.proxies) Queries _ (access_of D) a four.1 in
    let six = passes (pointwise same_bytes C.templates D.templates) Templates _ (access_of D) a five.1 in
    let seven = passes (C.retry == D.retry) Retry _ (access_of D) a six.1 in
    let eight = passes (same_paths C.paths D.paths) Paths None (access_of D) a seven.1 in
    let given : access_of D ≡ a = (let both : Grants (access_of D) ≡ Grants a = eight.1 in cc) in (
      record {
        services = list_same same_service service_same C.services D.services one.0;
        proxies = names_same C.proxies D.proxies two.0;
        tables_are = tables_at C.proxies D.proxies three.0 four.0;
        queries = queries_at C.proxies D.proxies five.0;
        templates = list_same same_bytes bytes_same C.templates D.templates six.0;
        retry = eqb-true C.retry D.retry seven.0;
        owners = owners_same C.paths D.paths eight.0;
      },
      sym given,
    )

all_given : (C D : Config) → SameSite C D → regranted C D ≡ Grants (access_of D)
all_given C D same =
    let named = names_are C.proxies D.proxies same.proxies in
    rw (
      lists_are same_service service_itself C.services D.services same.services,
      named,
      shapes_are C.proxies D.proxies named same.tables_are,
      rows_are C.proxies D.proxies named same.tables_are,
      queries_are C.proxies D.proxies named same.queries,
      lists_are same_bytes bytes_itself C.templates D.templates same.templates,
      eq-eqb C.retry D.retry same.retry,
      paths_are C.paths D.paths same.owners,
    ) refl

pub exact : IsExact
exact = record { only = gives; all = all_given; declared = what_is_given_is_declared }

-- What a sound configuration gives names only what is declared.
pub given_is_declared : (C D : Config) (a : Access) → IsSound D → regranted C D ≡ Grants a → IsTrue (declares C a)
given_is_declared C D a sound h =
    let same = gives C D a h in
    subst (λ (e : Access). IsTrue (declares C e)) (sym same.1) (what_is_given_is_declared C D sound same.0)
