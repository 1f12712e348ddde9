use Rattle.std.proofs.Common.{Bool, List, ◌≡◌, ◌∙◌, ℕ, zero, suc, ◌<◌, ◌≤◌, [], ◌∷◌, length, get_or, replicate, refl, ap, subst, arith}
use Rattle.std.specs.Prelude.{slice_set}
use Rattle.std.proofs.lemmas.List.{length-set}
use Rattle.okws_base.specs.declared.journal.Entry.{Entry}
use Rattle.okws_plan.specs.declared.event.Call.{Call as Called}
use Rattle.okws_plan.specs.declared.event.Mark.{Mark}
use Rattle.okws_plan.specs.declared.event.ProxyEvent.{ProxyEvent}
use Rattle.okws_plan.specs.declared.event.ProxyEvent.TheVariants.{Call}
use Rattle.okws_base.specs.Past.{last_by}
use Rattle.okws_plan.specs.Configuration.{template_name}
use Rattle.okws_plan.specs.declared.configuration.Config.{Config}
use Rattle.monitor_model.specs.Seen.{proxy_past}
use Rattle.monitor_model.specs.Standing.{proxy_grant}
use Rattle.okd_dispatch.specs.Seen.{Seen as OkdSeen}
use Rattle.pubd_core.specs.Seen.{Seen as PubdSeen}
use Rattle.log_daemon.specs.Seen.{Seen as LogSeen}
use Rattle.site_columns.specs.Launches.{Launched}
use Rattle.site_columns.specs.Proxies.{Pasts, entered_at}
use Rattle.site_columns.specs.Site.{AreBegun, IsSite, KeepsRules, are_short, are_numbered}

none_entered : (n p : ℕ) → proxy_past (replicate n []) p ≡ []
none_entered zero p = refl
none_entered (suc n) zero = refl
none_entered (suc n) (suc p) = none_entered n p

-- nothing was installed
first_begun : (n : ℕ) → AreBegun (replicate n []) [] [] []
first_begun n = record {
  at_proxies = λ p s. let e : last_by proxy_grant (proxy_past (replicate n []) p) s ≡ 0 = ap (λ J. last_by proxy_grant J s) (none_entered n p) in omega (arith, e);
  at_pubd = λ s. omega arith;
  at_log = λ s. omega arith;
}

count : {A : Type 0} (x : A) (n : ℕ) → length (replicate n x) ≡ n
count x zero = refl
count x (suc n) = ap suc (count x n)

-- the columns at which nothing happened are those of one site
pub first_site : (C : Config) (seed : List ℕ) (okd : OkdSeen) (proxies : Pasts) (pubd : PubdSeen) (oklogd : LogSeen) (launched : Launched) (k : Bool) → okd ≡ record { config = C; past = []; keeps = k; holder = 0 }
    → proxies ≡ record { config = C; seed = seed; holder = 0; pasts = replicate (length C.proxies) [] } → pubd ≡ record { config = C; past = []; keeps = k; holder = 0 }
    → oklogd.config ≡ C → oklogd.past ≡ [] → launched ≡ record { services = length C.services; past = []; holder = 0 } → KeepsRules C
    → IsSite C seed okd proxies pubd oklogd launched
first_site C seed okd proxies pubd oklogd launched k o p d lc lp l rules =
    let pasts : proxies.pasts ≡ replicate (length C.proxies) [] = ap (λ v. v.pasts) p in
    let published : pubd.past ≡ [] = ap (λ v. v.past) d in
    let began : launched.past ≡ [] = ap (λ v. v.past) l in
    let ups : okd.past ≡ [] = ap (λ v. v.past) o in record {
      okd_config = ap (λ v. v.config) o;
      proxies_config = ap (λ v. v.config) p;
      proxies_seed = ap (λ v. v.seed) p;
      proxies_are = ap length pasts ∙ count [] (length C.proxies);
      pubd_config = ap (λ v. v.config) d;
      log_config = lc;
      services_are = ap (λ v. v.services) l;
      begun_are = rw (pasts, published, lp, began) (first_begun (length C.proxies));
      rules_are = rules;
      short_are = ap are_short published;
      ups_are = ap are_numbered ups;
    }

-- the same where the configuration is another of the same value
pub new_site : (C D : Config) (seed : List ℕ) (okd : OkdSeen) (proxies : Pasts) (pubd : PubdSeen) (oklogd : LogSeen) (launched : Launched) (k : Bool) → C ≡ D → okd ≡ record { config = D; past = []; keeps = k; holder = 0 }
    → proxies ≡ record { config = D; seed = seed; holder = 0; pasts = replicate (length D.proxies) [] } → pubd ≡ record { config = D; past = []; keeps = k; holder = 0 }
    → oklogd.config ≡ D → oklogd.past ≡ [] → launched ≡ record { services = length D.services; past = []; holder = 0 } → KeepsRules D
    → IsSite C seed okd proxies pubd oklogd launched
new_site C D seed okd proxies pubd oklogd launched k e o p d lc lp l rules = rw e (first_site D seed okd proxies pubd oklogd launched k o p d lc lp l rules)

pub names_same : (C D : Config) → C ≡ D → ((t : ℕ) → length (template_name C t) < 256) → (t : ℕ) → length (template_name D t) < 256
names_same C D e h = let P : Config → Type 0 = λ X. (t : ℕ) → length (template_name X t) < 256 in subst P e h

pub launched_same : (C D : Config) (l : Launched) → C ≡ D → l ≡ record { services = length C.services; past = []; holder = 0 } → l ≡ record { services = length D.services; past = []; holder = 0 }
launched_same C D l e h = rw (← e) h

-- a Call installs nothing
last_called : (pasts : List (List (Entry ProxyEvent))) (w p q s : ℕ) (call : Called) (mark : Mark)
    → last_by proxy_grant (proxy_past (slice_set pasts p (record { worker = w; event = Call call mark } ∷ proxy_past pasts p)) q) s ≡ last_by proxy_grant (proxy_past pasts q) s
last_called [] w p q s call mark = refl
last_called (J ∷ pasts) w zero zero s call mark = refl
last_called (J ∷ pasts) w zero (suc q) s call mark = refl
last_called (J ∷ pasts) w (suc p) zero s call mark = refl
last_called (J ∷ pasts) w (suc p) (suc q) s call mark = last_called pasts w p q s call mark

-- the columns stay those of one site where a Call was entered
pub called_site : (C : Config) (seed : List ℕ) (okd : OkdSeen) (P held Q : Pasts) (pubd : PubdSeen) (oklogd : LogSeen) (launched : Launched) (w p : ℕ) (call : Called) (mark : Mark) → IsSite C seed okd P pubd oklogd launched
    → held ≡ record P { holder = w } → Q ≡ entered_at held p (Call call mark) → IsSite C seed okd Q pubd oklogd launched
called_site C seed okd P held Q pubd oklogd launched w p call mark h hold is = rw (is, hold) (record {
  okd_config = h.okd_config;
  proxies_config = h.proxies_config;
  proxies_seed = h.proxies_seed;
  proxies_are = length-set P.pasts p _ ∙ h.proxies_are;
  pubd_config = h.pubd_config;
  log_config = h.log_config;
  services_are = h.services_are;
  begun_are = record {
    at_proxies = λ q s. rw (last_called P.pasts w p q s call mark) (h.begun_are.at_proxies q s);
    at_pubd = h.begun_are.at_pubd;
    at_log = h.begun_are.at_log;
  };
  rules_are = h.rules_are;
  short_are = h.short_are;
  ups_are = h.ups_are;
})
