-- A lawful file gives a sound configuration: the declarations, one by one.
use Rattle.std.proofs.Common.{◌≡◌, ℕ, ◌==◌, Bool, true, false, List, [], ◌∷◌, ◌++◌, length, map, nat_lt, nat_le, Option, refl, ap, ◌∙◌}
use Rattle.std.specs.Prelude.{slice_get, position, is_some, is_none}
use Rattle.std.specs.List.{list_any}
use Rattle.std.proofs.lemmas.Bool.{and_parts, and_from, not-false, leb-true}
use Rattle.std.proofs.lemmas.List.{map-append}
use Rattle.okws_base.specs.Value.{same_bytes}
use Rattle.okws_base.specs.declared.limit.TheConstants.{GREATEST_RETRY}
use Rattle.okws_plan.specs.Configuration.{queries_of}
use Rattle.okws_plan.specs.Sound.{IsSound, are_distinct, names_query, names_template, is_sound_plan}
use Rattle.okws_plan.specs.declared.configuration.Config.{Config}
use Rattle.okws_plan.specs.declared.configuration.ProxyPlan.{ProxyPlan}
use Rattle.okws_plan.specs.declared.configuration.ServicePlan.{ServicePlan}
use Rattle.okws_plan.specs.declared.configuration.Owned.{Owned}
use Rattle.okws_plan.specs.declared.configuration.Query.{Query}
use Rattle.okws_plan.specs.declared.configuration.Readable.{Readable}
use Rattle.plain_text.specs.Decimals.{is_number, decimal_value}
use Rattle.config_reader.specs.Above.{Above, proxy_number, service_number, template_number}
use Rattle.config_reader.specs.After.{after}
use Rattle.config_reader.specs.Broken.{is_reserved, found}
use Rattle.config_syntax.specs.Declarations.{Proxy, Service, Retry, Uri, Template, Read, Log}
use Rattle.config_reader.proofs.Lists.{or_false, room, length_push, list_all_push, list_all_weaker, any_map, distinct_push, not_found, found_below, get_push, lt_push}
use Rattle.config_reader.proofs.Unbroken.{IsUnbroken}

-- a name that was not found is distinct from all
pub name_push : {A : Type 0} (name : A → List ℕ) (xs : List A) (y : A) → are_distinct same_bytes (map name xs) ≡ true → is_some (position (λ (x : A). same_bytes (name x) (name y)) xs) ≡ false → are_distinct same_bytes (map name (xs ++ y ∷ [])) ≡ true
name_push {A} name xs y h none =
    ap (are_distinct same_bytes) (map-append name xs (y ∷ []))
    ∙ distinct_push same_bytes (map name xs) (name y) h (any_map (λ (n : List ℕ). same_bytes n (name y)) name xs ∙ not_found (λ (x : A). same_bytes (name x) (name y)) xs none)

abbrev pub has_number : ℕ → Option ProxyPlan → Bool
has_number q o = list_any (λ (x : Query). x.number == q) (queries_of o)

pub after_proxy : (above : Above) (n : List ℕ) → IsSound above.config → IsUnbroken above (Proxy n) → IsSound (after above (Proxy n)).config
after_proxy above n s u =
    let C : Config = above.config in
    let new : ProxyPlan = record { name = n; tables = []; queries = [] } in
    let free = or_false (is_reserved n) (is_some (proxy_number C n)) u.free in
    record {
      few_proxies = length_push C.proxies new _ (room _ _ u.few);
      few_services = s.few_services;
      few_templates = s.few_templates;
      low_retry = s.low_retry;
      proxy_names = name_push (λ (p : ProxyPlan). p.name) C.proxies new s.proxy_names free.1;
      service_names = s.service_names;
      template_names = s.template_names;
      distinct_paths = s.distinct_paths;
      owners = s.owners;
      granted = list_all_weaker (names_query C) _ C.grants (λ g h.
          let parts = and_parts (nat_lt g.service (length C.services)) (has_number g.query (slice_get C.proxies g.proxy)) h in
          and_from _ _ parts.0 (get_push (has_number g.query) C.proxies (new ∷ []) g.proxy refl parts.1)) s.granted;
      readable = s.readable;
      logging = s.logging;
      plans = list_all_push is_sound_plan C.proxies new s.plans refl;
    }

pub after_service : (above : Above) (n : List ℕ) (words : List (List ℕ)) → IsSound above.config → IsUnbroken above (Service n words) → IsSound (after above (Service n words)).config
after_service above n words s u =
    let C : Config = above.config in
    let new : ServicePlan = record { name = n; words = words } in
    record {
      few_proxies = s.few_proxies;
      few_services = length_push C.services new _ (room _ _ u.few);
      few_templates = s.few_templates;
      low_retry = s.low_retry;
      proxy_names = s.proxy_names;
      service_names = name_push (λ (x : ServicePlan). x.name) C.services new s.service_names u.free;
      template_names = s.template_names;
      distinct_paths = s.distinct_paths;
      owners = list_all_weaker _ _ C.paths (λ (o : Owned) h. lt_push C.services new o.service h) s.owners;
      granted = list_all_weaker (names_query C) _ C.grants (λ g h.
          let parts = and_parts (nat_lt g.service (length C.services)) (has_number g.query (slice_get C.proxies g.proxy)) h in
          and_from _ _ (lt_push C.services new g.service parts.0) parts.1) s.granted;
      readable = list_all_weaker (names_template C) _ C.readables (λ r h.
          let parts = and_parts (nat_lt r.service (length C.services)) (nat_lt r.template (length C.templates)) h in
          and_from _ _ (lt_push C.services new r.service parts.0) parts.1) s.readable;
      logging = list_all_weaker _ _ C.loggers (λ (l : ℕ) h. lt_push C.services new l h) s.logging;
      plans = s.plans;
    }

pub after_template : (above : Above) (n : List ℕ) → IsSound above.config → IsUnbroken above (Template n) → IsSound (after above (Template n)).config
after_template above n s u =
    let C : Config = above.config in
    record {
      few_proxies = s.few_proxies;
      few_services = s.few_services;
      few_templates = length_push C.templates n _ (room _ _ u.few);
      low_retry = s.low_retry;
      proxy_names = s.proxy_names;
      service_names = s.service_names;
      template_names = distinct_push same_bytes C.templates n s.template_names (not_found (λ (t : List ℕ). same_bytes t n) C.templates u.free);
      distinct_paths = s.distinct_paths;
      owners = s.owners;
      granted = s.granted;
      readable = list_all_weaker (names_template C) _ C.readables (λ r h.
          let parts = and_parts (nat_lt r.service (length C.services)) (nat_lt r.template (length C.templates)) h in
          and_from _ _ parts.0 (lt_push C.templates n r.template parts.1)) s.readable;
      logging = s.logging;
      plans = s.plans;
    }

pub after_retry : (above : Above) (number : List ℕ) → IsSound above.config → IsUnbroken above (Retry number) → IsSound (after above (Retry number)).config
after_retry above number s u = record {
  few_proxies = s.few_proxies;
  few_services = s.few_services;
  few_templates = s.few_templates;
  low_retry = leb-true _ _ ((and_parts (is_number number) (nat_le (decimal_value number) GREATEST_RETRY) (not-false _ u.numbers)).1);
  proxy_names = s.proxy_names;
  service_names = s.service_names;
  template_names = s.template_names;
  distinct_paths = s.distinct_paths;
  owners = s.owners;
  granted = s.granted;
  readable = s.readable;
  logging = s.logging;
  plans = s.plans;
}

pub after_uri : (above : Above) (path name : List ℕ) → IsSound above.config → IsUnbroken above (Uri path name) → IsSound (after above (Uri path name)).config
after_uri above path name s u =
    let C : Config = above.config in
    let new : Owned = record { path = path; service = found (service_number C name) } in
    record {
      few_proxies = s.few_proxies;
      few_services = s.few_services;
      few_templates = s.few_templates;
      low_retry = s.low_retry;
      proxy_names = s.proxy_names;
      service_names = s.service_names;
      template_names = s.template_names;
      distinct_paths = ap (are_distinct same_bytes) (map-append (λ (o : Owned). o.path) C.paths (new ∷ []))
          ∙ distinct_push same_bytes (map (λ (o : Owned). o.path) C.paths) path s.distinct_paths (any_map (λ (q : List ℕ). same_bytes q path) (λ (o : Owned). o.path) C.paths ∙ u.free);
      owners = list_all_push (λ (o : Owned). nat_lt o.service (length C.services)) C.paths new s.owners (found_below (λ (x : ServicePlan). same_bytes x.name name) C.services u.declared);
      granted = s.granted;
      readable = s.readable;
      logging = s.logging;
      plans = s.plans;
    }

pub after_read : (above : Above) (name t : List ℕ) → IsSound above.config → IsUnbroken above (Read name t) → IsSound (after above (Read name t)).config
after_read above name t s u =
    let C : Config = above.config in
    let new : Readable = record { service = found (service_number C name); template = found (template_number C t) } in
    let known = or_false (is_none (service_number C name)) (is_none (template_number C t)) u.declared in
    record {
      few_proxies = s.few_proxies;
      few_services = s.few_services;
      few_templates = s.few_templates;
      low_retry = s.low_retry;
      proxy_names = s.proxy_names;
      service_names = s.service_names;
      template_names = s.template_names;
      distinct_paths = s.distinct_paths;
      owners = s.owners;
      granted = s.granted;
      readable = list_all_push (names_template C) C.readables new s.readable
          (and_from _ _ (found_below (λ (x : ServicePlan). same_bytes x.name name) C.services known.0) (found_below (λ (x : List ℕ). same_bytes x t) C.templates known.1));
      logging = s.logging;
      plans = s.plans;
    }

pub after_log : (above : Above) (name : List ℕ) → IsSound above.config → IsUnbroken above (Log name) → IsSound (after above (Log name)).config
after_log above name s u =
    let C : Config = above.config in
    record {
      few_proxies = s.few_proxies;
      few_services = s.few_services;
      few_templates = s.few_templates;
      low_retry = s.low_retry;
      proxy_names = s.proxy_names;
      service_names = s.service_names;
      template_names = s.template_names;
      distinct_paths = s.distinct_paths;
      owners = s.owners;
      granted = s.granted;
      readable = s.readable;
      logging = list_all_push (λ (l : ℕ). nat_lt l (length C.services)) C.loggers _ s.logging (found_below (λ (x : ServicePlan). same_bytes x.name name) C.services u.declared);
      plans = s.plans;
    }
