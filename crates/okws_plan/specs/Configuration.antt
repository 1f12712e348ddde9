-- What a configuration grants.
use Rattle.std.specs.Prelude.{ℕ, ◌+◌, Bool, true, List, [], ◌∷◌, ◌++◌, Option, Some, None, ◌==◌, ◌&&◌, ◌||◌, nat_lt, nat_eq, if◌then◌else◌, slice_get, slice_index_or, length, find, map, filter, drop, option_map, zero, suc, fold}
use Rattle.std.specs.List.{list_any, starts_with, ends_with}
use Rattle.okws_base.specs.Value.{same_bytes}
use Rattle.okws_base.specs.declared.journal.Entry.{Entry}
use Rattle.okws_plan.specs.declared.configuration.Config.{Config}
use Rattle.okws_plan.specs.declared.configuration.ProxyPlan.{ProxyPlan}
use Rattle.okws_plan.specs.declared.configuration.ServicePlan.{ServicePlan}
use Rattle.okws_plan.specs.declared.configuration.Table.{Table}
use Rattle.okws_plan.specs.declared.configuration.Query.{Query}
use Rattle.okws_plan.specs.declared.configuration.Owned.{Owned}
use Rattle.okws_plan.specs.declared.configuration.Granted.{Granted}
use Rattle.okws_plan.specs.declared.configuration.Readable.{Readable}
use Rattle.okws_plan.specs.declared.script.Place.{Place}
use Rattle.okws_plan.specs.declared.script.Place.TheVariants.{Proxy, Pubd, Oklogd}
use Rattle.okws_base.specs.declared.value.Value.{Value}

-- The configuration in force where a journal's past is J: the one with which the run began.
abbrev pub in_force : {E : Type 0} → Config → List (Entry E) → Config
in_force C J = C

-- The tables of a proxy that may not be there.
abbrev pub tables_of : Option ProxyPlan → List Table
tables_of None = []
tables_of (Some plan) = plan.tables

-- The tables of proxy p; none where it isn't declared.
abbrev pub tables : Config → ℕ → List Table
tables C p = tables_of (slice_get C.proxies p)

-- The rows of each table of proxy p with which a run begins.
abbrev pub first_rows : Config → ℕ → List (List (List Value))
first_rows C p = map (λ (t : Table). t.first) (tables C p)

-- The queries of a proxy that may not be there.
abbrev pub queries_of : Option ProxyPlan → List Query
queries_of None = []
queries_of (Some plan) = plan.queries

-- The query of proxy p with this number, if there is one.
abbrev pub query : Config → ℕ → ℕ → Option Query
query C p q = find (λ (x : Query). x.number == q) (queries_of (slice_get C.proxies p))

-- s may call query q at proxy p.
abbrev pub grants : Config → ℕ → ℕ → ℕ → Bool
grants C s p q = list_any (λ (g : Granted). (g.service == s) && ((g.proxy == p) && (g.query == q))) C.grants

-- s may call a query at proxy p.
abbrev pub grants_at : Config → ℕ → ℕ → Bool
grants_at C s p = list_any (λ (g : Granted). (g.service == s) && (g.proxy == p)) C.grants

-- s may read template t.
abbrev pub reads : Config → ℕ → ℕ → Bool
reads C s t = list_any (λ (r : Readable). (r.service == s) && (r.template == t)) C.readables

-- s may write to the log.
abbrev pub logs : Config → ℕ → Bool
logs C s = list_any (λ (t : ℕ). t == s) C.loggers

-- A path P owns a path Q where they are equal, or Q begins with P and P ends in `/`, or Q begins with P and the byte after P in Q is `/`.
abbrev pub owns_path : List ℕ → List ℕ → Bool
owns_path P Q = same_bytes P Q || (starts_with nat_eq Q P && (ends_with nat_eq P (47 ∷ []) || starts_with nat_eq (drop (length P) Q) (47 ∷ [])))

-- s owns the path Q by some path of its own.
abbrev pub owns : Config → ℕ → List ℕ → Bool
owns C s Q = list_any (λ (o : Owned). (o.service == s) && owns_path o.path Q) C.paths

-- A path is longer than the best one so far, or there is none so far.
abbrev pub is_longer : Owned → Option Owned → Bool
is_longer o None = true
is_longer o (Some best) = nat_lt (length best.path) (length o.path)

-- The better owner of Q: a path that owns it and is longer than the best one so far, or else that one.
abbrev pub better : List ℕ → Option Owned → Owned → Option Owned
better Q best o = if owns_path o.path Q && is_longer o best then Some o else best

-- The longest of the paths that own Q.
abbrev pub best_owner : List Owned → List ℕ → Option Owned
best_owner paths Q = fold (better Q) None paths

-- The owner of a path is the service of the longest configured path that owns it.
abbrev pub owner : Config → List ℕ → Option ℕ
owner C Q = option_map (λ (o : Owned). o.service) (best_owner C.paths Q)

-- The n numbers from i on.
abbrev pub numbered_from : ℕ → ℕ → List ℕ
numbered_from i zero = []
numbered_from i (suc n) = i ∷ numbered_from (i + 1) n

-- The proxies where s has a grant, ascending.
abbrev pub proxies_of : Config → ℕ → List ℕ
proxies_of C s = filter (λ p. grants_at C s p) (numbered_from 0 (length C.proxies))

-- The columns of s: the proxies where it has a grant, ascending, then pubd, then oklogd.
abbrev pub cols : Config → ℕ → List Place
cols C s = map Proxy (proxies_of C s) ++ Pubd ∷ Oklogd ∷ []

-- Every column at which an incarnation may stand: each proxy, ascending, then pubd, then oklogd.
abbrev pub all_places : Config → List Place
all_places C = map Proxy (numbered_from 0 (length C.proxies)) ++ Pubd ∷ Oklogd ∷ []

-- The name of a service that may not be there.
abbrev pub service_name_of : Option ServicePlan → List ℕ
service_name_of None = []
service_name_of (Some plan) = plan.name

-- The name of service s.
abbrev pub service_name : Config → ℕ → List ℕ
service_name C s = service_name_of (slice_get C.services s)

-- The name of template t.
abbrev pub template_name : Config → ℕ → List ℕ
template_name C t = slice_index_or C.templates t []

-- The number of the first of the names that is this one, where the first has number i.
abbrev pub named_from : ℕ → List (List ℕ) → List ℕ → Option ℕ
named_from i [] name = None
named_from i (n ∷ more) name = if same_bytes n name then Some i else named_from (i + 1) more name

-- The number of the template with this name, if it is declared.
abbrev pub template_named : Config → List ℕ → Option ℕ
template_named C name = named_from 0 C.templates name
