-- What a server's run is over is as its run wants it.
use Rattle.std.proofs.Common.{◌≡◌, ◌∙◌, ℕ, suc, ◌+◌, ◌<◌, ◌≤◌, true, List, [], ◌∷◌, ◌++◌, length, map, drop, replicate, refl, sym, ap, subst, arith, Option, Result, Some, None}
use Rattle.std.specs.Prelude.{Ok, Err, IfOk, zero, ◌==◌, find, nat_lt, slice_get, slice_index_or}
use Rattle.std.specs.List.{All, list_all}
use Rattle.std.proofs.lemmas.Bool.{and_from, and_parts}
use Rattle.std.proofs.lemmas.List.{length-map, length-replicate}
use Rattle.std.proofs.lemmas.List.Elements.{All-head, All-tail}
use Rattle.okws_base.specs.declared.limit.TheConstants.{GREATEST_RETRY, MOST_DOORS, MOST_SERVICES, MOST_TEMPLATES}
use Rattle.okws_base.specs.declared.value.Value.{Value}
use Rattle.okws_outer.specs.Doors.{Entrance, new_entrance}
use Rattle.okws_plan.specs.Configuration.{queries_of, tables, tables_of, template_name}
use Rattle.okws_plan.specs.Rules.{QueriesKeepRules}
use Rattle.okws_plan.specs.Sound.{IsSound}
use Rattle.okws_plan.specs.declared.configuration.Config.{Config}
use Rattle.okws_plan.specs.declared.configuration.Owned.{Owned}
use Rattle.okws_plan.specs.declared.configuration.ProxyPlan.{ProxyPlan}
use Rattle.okws_plan.specs.declared.configuration.Query.{Query}
use Rattle.okws_plan.specs.declared.configuration.Table.{Table}
use Rattle.command_line.specs.Asked.{Serving}
use Rattle.config_reader.specs.Ruled.{AreRuled}
use Rattle.site_run.specs.Places.{AllIdle}
use Rattle.site_making.specs.Keepers.{KeeperIs, IsKeeper, AreKeepers, are_steady, faults_at}
use Rattle.site_making.specs.Making.{IsServable}
use Rattle.store_keeper.specs.Alike.{AreAlike, bare}
use Rattle.store_keeper.proofs.Alike.{rules_alike}
use Rattle.store_keeper.specs.Sites.{AreOf, AreZero, SitesAreAlike, bare_plan, rows_of_plan}
use Rattle.okws_server.specs.Served.{AreFresh, IsServing, IsStock}

-- the keeper of a proxy, made for its tables
pub keeper_is : {K E : Type 0} (f : K → KeeperIs) (C : Config) (p : ℕ) (ts : List Table) (r : Result K E) → ts ≡ tables C p → IfOk r (λ k. (f k).tables ≡ ts) → IfOk r (λ k. (f k).told ≡ Some (map (λ (t : Table). t.first) ts)) →
    IfOk r (λ k. IsKeeper C p (f k))
keeper_is f C p ts (Ok k) e t u = record { tables_are = t ∙ e; told_are = u ∙ ap (λ (x : List Table). Some (map (λ (t : Table). t.first) x)) e }
keeper_is f C p ts (Err x) e t u = tt

-- a keeper more
pub keepers_push : {K : Type 0} (f : K → KeeperIs) (C : Config) (p m : ℕ) (ks more : List K) (k : K) → more ≡ ks ++ k ∷ [] → m ≡ length ks + p → AreKeepers C p (map f ks) → IsKeeper C m (f k)
    → AreKeepers C p (map f more)
keepers_push f C p m [] more k is e h new = subst (λ x. AreKeepers C p (map f x)) (sym is) (subst (λ x. IsKeeper C x (f k)) (let q : m ≡ p = omega arith in q) new, tt)
keepers_push f C p m (x ∷ ks) more k is e h new = subst (λ y. AreKeepers C p (map f y)) (sym is) (h.0, keepers_push f C (suc p) m ks (ks ++ k ∷ []) k refl (omega arith) h.1 new)

pub steady_push : {K : Type 0} (f : K → KeeperIs) (ks more : List K) (k : K) → more ≡ ks ++ k ∷ [] → are_steady (map f ks) ≡ true → (f k).steady ≡ true → are_steady (map f more) ≡ true
steady_push f [] more k is h new = subst (λ x. are_steady (map f x) ≡ true) (sym is) (and_from (f k).steady true new refl)
steady_push f (x ∷ ks) more k is h new =
    let both = and_parts (f x).steady (are_steady (map f ks)) h in
    subst (λ y. are_steady (map f y) ≡ true) (sym is) (and_from (f x).steady (are_steady (map f (ks ++ k ∷ []))) both.0 (steady_push f ks (ks ++ k ∷ []) k refl both.1 new))

-- a keeper more of which no call failed
pub fresh_push : {K : Type 0} (f : K → KeeperIs) (ks more : List K) (k : K) → more ≡ ks ++ k ∷ [] → AreFresh (map f ks) → (f k).faults ≡ 0 → AreFresh (map f more)
fresh_push f [] more k is h new = subst (λ x. AreFresh (map f x)) (sym is) (new, tt)
fresh_push f (x ∷ ks) more k is h new = subst (λ y. AreFresh (map f y)) (sym is) (h.0, fresh_push f ks (ks ++ k ∷ []) k refl h.1 new)

-- the counts of keepers of which none failed
fresh_by : {K : Type 0} (f : K → KeeperIs) (ks : List K) → AreZero (map (λ k. (f k).faults) ks) → AreFresh (map f ks)
fresh_by f [] h = tt
fresh_by f (k ∷ ks) h = (h.0, fresh_by f ks h.1)

pub none_failed : (ks : List KeeperIs) → AreFresh ks → (p : ℕ) → faults_at ks p ≡ 0
none_failed [] h p = refl
none_failed (k ∷ ks) h zero = h.0
none_failed (k ∷ ks) h (suc p) = none_failed ks h.1 p

-- doors at which nothing came yet
pub entrances_new : {D : Type 0} (entrance : D → Entrance) (ds : List D) (n : ℕ) → length ds ≡ n → All (λ d. entrance d ≡ new_entrance) ds → map entrance ds ≡ replicate n new_entrance
entrances_new entrance [] n e h = subst (λ m. [] ≡ replicate m new_entrance) e refl
entrances_new entrance (d ∷ ds) n e h =
    subst (λ m. entrance d ∷ map entrance ds ≡ replicate m new_entrance) e
    (ap (λ x. x ∷ map entrance ds) (All-head (λ x. entrance x ≡ new_entrance) d ds h)
    ∙ ap (λ xs. new_entrance ∷ xs) (entrances_new entrance ds (length ds) refl (All-tail (λ x. entrance x ≡ new_entrance) d ds h)))

all_idle : (n : ℕ) → AllIdle (replicate n new_entrance)
all_idle zero = tt
all_idle (suc n) = (refl, all_idle n)

pub new_idle : (es : List Entrance) (n : ℕ) → es ≡ replicate n new_entrance → AllIdle es
new_idle es n e = subst AllIdle (sym e) (all_idle n)

pub doors_many : {D : Type 0} (entrance : D → Entrance) (ds : List D) (n : ℕ) → map entrance ds ≡ replicate n new_entrance → length ds ≡ n
doors_many entrance ds n e = sym (length-map ds entrance) ∙ ap length e ∙ length-replicate n new_entrance

-- a site that was read can be served
pub servable_by : (C : Config) → IsSound C → AreRuled C → ((t : ℕ) → length (template_name C t) < 256) → IsServable C
servable_by C sound rules names = record {
  rules = record { queries = rules; names = names; owners = sound.owners };
  services = sound.few_services;
  retry = sound.low_retry;
  templates = sound.few_templates;
  proxies = sound.few_proxies;
}

-- the same site, which is shared
pub stock_at : (C D : Config) (keepers : List KeeperIs) → D ≡ C → IsStock C keepers → IsStock D keepers
stock_at C D keepers e h = subst (λ x. IsStock x keepers) (sym e) h

-- the keepers of a site whose stores are open
from_plan : {K : Type 0} (f : K → KeeperIs) (C : Config) (p : ℕ) (plans : List ProxyPlan) (ks : List K) → ((i : ℕ) → slice_get C.proxies (p + i) ≡ slice_get plans i) →
    map (λ k. (f k).tables) ks ≡ map (λ (x : ProxyPlan). x.tables) plans → map (λ k. (f k).told) ks ≡ map (λ (x : ProxyPlan). Some (rows_of_plan x)) plans → AreKeepers C p (map f ks)
from_plan f C p [] [] at t d = tt
from_plan f C p [] (k ∷ ks) at t d = cc
from_plan f C p (x ∷ plans) [] at t d = cc
from_plan f C p (x ∷ plans) (k ∷ ks) at t d =
    let here : slice_get C.proxies p ≡ Some x = ap (slice_get C.proxies) (let e : p ≡ p + 0 = omega arith in e) ∙ at 0 in
    let mine : x.tables ≡ tables C p = sym (ap tables_of here) in (
      record { tables_are = ap (λ (xs : List (List Table)). slice_index_or xs 0 []) t ∙ mine; told_are = ap (λ xs. slice_index_or xs 0 None) d ∙ ap (λ (ts : List Table). Some (map (λ (u : Table). u.first) ts)) mine },
      from_plan f C (suc p) plans ks (λ i. ap (slice_get C.proxies) (let e : suc p + i ≡ p + suc i = omega arith in e) ∙ at (suc i)) (ap (drop 1) t) (ap (drop 1) d),
    )

-- the queries and the tables of a site without its rows
queries_bare : (ps : List ProxyPlan) (p : ℕ) → queries_of (slice_get (map bare_plan ps) p) ≡ queries_of (slice_get ps p)
queries_bare [] p = refl
queries_bare (x ∷ ps) zero = refl
queries_bare (x ∷ ps) (suc p) = queries_bare ps p

tables_bare : (ps : List ProxyPlan) (p : ℕ) → tables_of (slice_get (map bare_plan ps) p) ≡ map bare (tables_of (slice_get ps p))
tables_bare [] p = refl
tables_bare (x ∷ ps) zero = refl
tables_bare (x ∷ ps) (suc p) = tables_bare ps p

rules_kept : (C D : Config) (p : ℕ) → SitesAreAlike D C → QueriesKeepRules C p → QueriesKeepRules D p
rules_kept C D p alike h = λ q x found.
    let plans : queries_of (slice_get C.proxies p) ≡ queries_of (slice_get D.proxies p) =
    sym (queries_bare C.proxies p) ∙ ap (λ (X : Config). queries_of (slice_get X.proxies p)) (sym alike) ∙ queries_bare D.proxies p in
    let same : AreAlike (tables D p) (tables C p) = sym (tables_bare D.proxies p) ∙ ap (λ (X : Config). tables_of (slice_get X.proxies p)) alike ∙ tables_bare C.proxies p in
    rules_alike (tables D p) (tables C p) x.statement same (h q x (ap (λ (qs : List Query). find (λ (y : Query). y.number == q) qs) plans ∙ found))

-- it has as many proxies
pub proxies_alike : (C D : Config) → SitesAreAlike D C → length D.proxies ≡ length C.proxies
proxies_alike C D alike = sym (length-map D.proxies bare_plan) ∙ ap (λ (X : Config). length X.proxies) alike ∙ length-map C.proxies bare_plan

-- a site with other rows can be served too
pub servable_alike : (C D : Config) → SitesAreAlike D C → IsServable C → IsServable D
servable_alike C D alike h = record {
  rules = record {
    queries = λ p. rules_kept C D p alike (h.rules.queries p);
    names = λ t. subst (λ (X : Config). length (template_name X t) < 256) (sym alike) (h.rules.names t);
    owners = subst (λ (X : Config). list_all (λ (o : Owned). nat_lt o.service (length X.services)) X.paths ≡ true) (sym alike) h.rules.owners;
  };
  services = subst (λ (X : Config). length X.services ≤ MOST_SERVICES) (sym alike) h.services;
  retry = subst (λ (X : Config). X.retry ≤ GREATEST_RETRY) (sym alike) h.retry;
  templates = subst (λ (X : Config). length X.templates ≤ MOST_TEMPLATES) (sym alike) h.templates;
  proxies = omega (arith, h.proxies, proxies_alike C D alike);
}

-- the keepers of a site whose stores are open are those of its rows
pub stock_stored : {K : Type 0} (f : K → KeeperIs) (C D : Config) (ks : List K) → SitesAreAlike D C → IsServable C → AreOf D.proxies (map (λ k. (f k).tables) ks) (map (λ k. (f k).told) ks) → AreZero (map (λ k. (f k).faults) ks) → IsStock D (map f ks)
stock_stored f C D ks alike able h zero_are = record {
  servable = servable_alike C D alike able;
  many = length-map ks f ∙ sym (length-map ks (λ k. (f k).tables)) ∙ ap (λ (xs : List (List Table)). length xs) h.tables_are ∙ length-map D.proxies (λ (p : ProxyPlan). p.tables);
  keepers_are = from_plan f D 0 D.proxies ks (λ i. ap (slice_get D.proxies) (let e : 0 + i ≡ i = omega arith in e)) h.tables_are h.told_are;
  fresh = fresh_by f ks zero_are;
}

-- there are no more of them than there may be proxies
pub few_stored : {K : Type 0} (tables : K → List Table) (told : List (Option (List (List (List Value))))) (C D : Config) (ks : List K) (most : ℕ) → SitesAreAlike D C → length C.proxies ≤ most → AreOf D.proxies (map tables ks) told → length ks ≤ most
few_stored tables told C D ks most alike few h =
    omega (arith, few, length-map ks tables, ap (λ (xs : List (List Table)). length xs) h.tables_are, length-map D.proxies (λ (p : ProxyPlan). p.tables), proxies_alike C D alike)
