-- What services may do by a sound configuration of the same site names only what the site declares.
use Rattle.std.proofs.Common.{◌≡◌, ℕ, nat_lt, ◌&&◌, length, slice_get, is_some, IsTrue, sym, ap, ◌∙◌}
use Rattle.std.specs.Prelude.{◌==◌}
use Rattle.std.specs.List.{list_all, list_any}
use Rattle.std.proofs.lemmas.Bool.{and_from}
use Rattle.okws_plan.specs.Configuration.{queries_of}
use Rattle.okws_plan.specs.Sound.{IsSound, names_query, names_template}
use Rattle.okws_plan.specs.declared.configuration.Config.{Config}
use Rattle.okws_plan.specs.declared.configuration.Granted.{Granted}
use Rattle.okws_plan.specs.declared.configuration.Query.{Query}
use Rattle.okws_plan.specs.declared.configuration.Readable.{Readable}
use Rattle.config_diff.specs.Access.{access_of, declares}
use Rattle.config_diff.specs.Exactness.{SameSite}
use Rattle.config_diff.proofs.Lists.{all_alike, any_is_found}

-- a query is declared by both or by neither
declared_alike : (C D : Config) → SameSite C D → (p q : ℕ)
    → list_any (λ (x : Query). x.number == q) (queries_of (slice_get D.proxies p)) ≡ list_any (λ (x : Query). x.number == q) (queries_of (slice_get C.proxies p))
declared_alike C D same p q =
    any_is_found (λ (x : Query). x.number == q) (queries_of (slice_get D.proxies p))
    ∙ ap is_some (sym (same.queries p q))
    ∙ sym (any_is_found (λ (x : Query). x.number == q) (queries_of (slice_get C.proxies p)))

services_alike : (C D : Config) → SameSite C D → (s : ℕ) → nat_lt s (length D.services) ≡ nat_lt s (length C.services)
services_alike C D same s = λ i. nat_lt s (length (sym same.services i))

query_alike : (C D : Config) → SameSite C D → (g : Granted) → names_query D g ≡ names_query C g
query_alike C D same g = λ i. services_alike C D same g.service i && declared_alike C D same g.proxy g.query i

template_alike : (C D : Config) → SameSite C D → (r : Readable) → names_template D r ≡ names_template C r
template_alike C D same r = λ i. services_alike C D same r.service i && nat_lt r.template (length (sym same.templates i))

pub what_is_given_is_declared : (C D : Config) → IsSound D → SameSite C D → IsTrue (declares C (access_of D))
what_is_given_is_declared C D sound same =
    and_from (list_all (names_query C) D.grants) _ (sym (all_alike (names_query D) (names_query C) (query_alike C D same) D.grants) ∙ sound.granted)
    (and_from (list_all (names_template C) D.readables) _ (sym (all_alike (names_template D) (names_template C) (template_alike C D same) D.readables) ∙ sound.readable)
    (sym (all_alike (λ (s : ℕ). nat_lt s (length D.services)) (λ (s : ℕ). nat_lt s (length C.services)) (services_alike C D same) D.loggers) ∙ sound.logging))
