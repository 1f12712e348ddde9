-- Which words name what a configuration declares, and which lines of a script do.
use Rattle.std.specs.Prelude.{ℕ, ◌<◌, ⊤, List, Option, Some, if◌then◌else◌, length, map, option_map, codes}
use Rattle.okws_base.specs.Value.{same_bytes}
use Rattle.okws_plan.specs.Configuration.{named_from}
use Rattle.okws_plan.specs.declared.configuration.Config.{Config}
use Rattle.okws_plan.specs.declared.configuration.ProxyPlan.{ProxyPlan}
use Rattle.okws_plan.specs.declared.configuration.ServicePlan.{ServicePlan}
use Rattle.okws_plan.specs.declared.script.Line.{Line}
use Rattle.okws_plan.specs.declared.script.Line.TheVariants.{Begin, Install, Revoke, Boot, Up, Down, Launch, Relaunch, Accept, Dialog, Bytes, End, Publish}
use Rattle.okws_plan.specs.declared.script.Place.{Place}
use Rattle.okws_plan.specs.declared.script.Place.TheVariants.{Proxy, Pubd, Oklogd}

-- The names of the services, in the order of their declaration.
abbrev pub service_names : Config → List (List ℕ)
service_names C = map (λ (plan : ServicePlan). plan.name) C.services

-- The names of the proxies, in the order of their declaration.
abbrev pub proxy_names : Config → List (List ℕ)
proxy_names C = map (λ (plan : ProxyPlan). plan.name) C.proxies

-- The number of the service with this name, if it is declared.
abbrev pub service_named : Config → List ℕ → Option ℕ
service_named C name = named_from 0 (service_names C) name

-- The number of the proxy with this name, if it is declared.
abbrev pub proxy_named : Config → List ℕ → Option ℕ
proxy_named C name = named_from 0 (proxy_names C) name

-- The column that a word names: `pubd`, `oklogd`, or a proxy by its name.
abbrev pub place_named : Config → List ℕ → Option Place
place_named C name =
    if same_bytes name (codes "pubd") then Some Pubd
    else if same_bytes name (codes "oklogd") then Some Oklogd
    else option_map Proxy (proxy_named C name)

-- A column is a declared proxy's, pubd's or oklogd's.
abbrev pub PlaceFits : Config → Place → Type 0
PlaceFits C (Proxy p) = p < length C.proxies
PlaceFits C Pubd = ⊤
PlaceFits C Oklogd = ⊤

-- A line of a script names a declared service, column and template where it names one.
abbrev pub LineFits : Config → Line → Type 0
LineFits C (Begin s) = s < length C.services
LineFits C (Install s at) = (s < length C.services) × PlaceFits C at
LineFits C (Revoke s at) = (s < length C.services) × PlaceFits C at
LineFits C (Boot s) = s < length C.services
LineFits C (Up s) = s < length C.services
LineFits C (Down s) = s < length C.services
LineFits C (Launch s) = s < length C.services
LineFits C (Relaunch s) = s < length C.services
LineFits C (Accept method target content) = ⊤
LineFits C (Dialog n) = ⊤
LineFits C (Bytes s bytes) = s < length C.services
LineFits C (End s) = s < length C.services
LineFits C (Publish t content) = t < length C.templates
