-- What a call leaves of what a column keeps behind its lock.
use Rattle.std.proofs.Common.{◌≡◌, ◌∙◌, ℕ, ◌+◌, ◌<◌, ◌≤◌, Bool, true, false, List, [], ◌∷◌, length, Option, Some, None, refl, sym, ap, subst, arith}
use Rattle.std.specs.Prelude.{if◌then◌else◌, Result, Ok, Err, IfOk, OnOk, OnErr, is_some, option_map}
use Rattle.okws_base.specs.Past.{standing_by}
use Rattle.okws_base.specs.declared.value.Token.{Token}
use Rattle.okws_base.specs.declared.value.Value.{Value}
use Rattle.okws_plan.specs.declared.configuration.Config.{Config}
use Rattle.okws_plan.specs.declared.event.Call.{Call}
use Rattle.okws_plan.specs.declared.event.Mark.{Mark}
use Rattle.okws_plan.specs.declared.event.Mark.TheVariants.{Done, Fault}
use Rattle.okws_plan.specs.declared.event.OkdEvent.TheVariants as okd_event
use Rattle.okws_plan.specs.declared.event.ProxyEvent.TheVariants as proxy_event
use Rattle.okws_plan.specs.declared.event.PubdEvent.TheVariants as pubd_event
use Rattle.okws_plan.specs.declared.event.LogEvent.TheVariants as log_event
use Rattle.okws_outer.specs.Streams.{Rose, counted}
use Rattle.monitor_model.specs.Columns.{faults, faults_of_mark}
use Rattle.monitor_model.specs.Installed.{HasStood}
use Rattle.monitor_model.specs.Standing.{proxy_grant, pubd_grant}
use Rattle.okd_dispatch.specs.Seen.{Seen as Okd, entered as okd_entered}
use Rattle.db_proxy.specs.Seen.{Seen as Proxy, entered as proxy_entered}
use Rattle.pubd_core.specs.Seen.{Seen as Pubd, entered as pubd_entered}
use Rattle.log_daemon.specs.Seen.{Seen as Log, entered as log_entered}
use Rattle.site_columns.specs.Site.{KeepsRules, are_numbered, are_short}
use Rattle.named_columns.specs.Asked.{IsInstalledAt}
use Rattle.named_columns.specs.Counts.{capped, accepts, ups, publications, logged}
use Rattle.named_columns.specs.Kept.{IsOkd, IsProxy, IsPubd, IsLog}

pub counts_same : (n : ℕ) → capped n ≡ capped (n + 0)
counts_same n = omega arith

-- what holds of both outcomes of a call holds after it
pub on_both : {A X T : Type 0} (P : T → Type 0) (r : Result A X) (a more b : T) → OnOk r (b ≡ more) → OnErr r (b ≡ a) → P a → P more → P b
on_both P (Ok x) a more b ok err p q = subst P (sym ok) q
on_both P (Err x) a more b ok err p q = subst P (sym err) p

pub on_test : {T : Type 0} (P : T → Type 0) (there : Bool) (a more b : T) → b ≡ (if there then more else a) → P a → P more → P b
on_test P true a more b is p q = subst P (sym is) q
on_test P false a more b is p q = subst P (sym is) p

pub okd_downed : (C : Config) (n : ℕ) (a : Okd) (x y s k : ℕ) → IsOkd C n a x y → a.holder ≡ n → IsOkd C n (okd_entered a (okd_event.Down s k)) x y
okd_downed C n a x y s k h w = record {
  config_is = h.config_is;
  rules = h.rules;
  launched = (w, h.launched);
  numbered = h.numbered;
  accepted_are = h.accepted_are ∙ counts_same (accepts a.past);
  raised_are = h.raised_are ∙ counts_same (ups a.past);
}

-- a proxy
pub proxy_installed : (C : Config) (seed : List ℕ) (n : ℕ) (tells steady : Bool) (first : ℕ → ℕ) (a : Proxy) (s k : ℕ) (t : Token) → IsProxy C seed n tells steady first a → a.holder ≡ n
    → standing_by proxy_grant a.past s ≡ None → IsProxy C seed n tells steady first (proxy_entered a (proxy_event.Install s k t))
proxy_installed C seed n tells steady first a s k t h w vacant = record {
  config_is = h.config_is;
  rules = h.rules;
  seed_is = h.seed_is;
  declared = h.declared;
  launched = (w, h.launched);
  follows = (h.follows, vacant);
  told_is = h.told_is;
  steady_is = h.steady_is;
  faultless = h.faultless;
  faults_are = h.faults_are;
  still = h.still;
}

pub proxy_revoked : (C : Config) (seed : List ℕ) (n : ℕ) (tells steady : Bool) (first : ℕ → ℕ) (a : Proxy) (s k : ℕ) → IsProxy C seed n tells steady first a → a.holder ≡ n
    → IsProxy C seed n tells steady first (proxy_entered a (proxy_event.Revoke s k))
proxy_revoked C seed n tells steady first a s k h w = record {
  config_is = h.config_is;
  rules = h.rules;
  seed_is = h.seed_is;
  declared = h.declared;
  launched = (w, h.launched);
  follows = (h.follows, tt);
  told_is = h.told_is;
  steady_is = h.steady_is;
  faultless = h.faultless;
  faults_are = h.faults_are;
  still = h.still;
}

pub proxy_opened : (C : Config) (seed : List ℕ) (n : ℕ) (tells steady : Bool) (first : ℕ → ℕ) (a : Proxy) (s k : ℕ) (t : Token) → IsProxy C seed n tells steady first a
    → IsInstalledAt C a.number a.past s k → IsProxy C seed n tells steady first (proxy_entered a (proxy_event.Open s k t))
proxy_opened C seed n tells steady first a s k t h installed = record {
  config_is = h.config_is;
  rules = h.rules;
  seed_is = h.seed_is;
  declared = h.declared;
  launched = (tt, h.launched);
  follows = (h.follows, installed);
  told_is = h.told_is;
  steady_is = h.steady_is;
  faultless = h.faultless;
  faults_are = h.faults_are;
  still = h.still;
}

faults_done : (n : ℕ) (mark : Mark) → mark ≡ Done → n ≡ 0 → n + faults_of_mark mark ≡ 0
faults_done n mark is none = ap (λ (m : Mark). n + faults_of_mark m) is ∙ omega (arith, none)

faults_called : (first n before now : ℕ) (mark : Mark) → counted first n ≤ before → before ≤ now → (mark ≡ Fault → Rose before now) → counted first (n + faults_of_mark mark) ≤ now
faults_called first n before now Done counts later rose = omega (arith, counts, later)
faults_called first n before now Fault counts later rose = let r = rose refl in omega (arith, counts, later, r)

none_before : (n m : ℕ) → n + m ≡ 0 → n ≡ 0
none_before n m is = omega (arith, is)

pub some_mapped : {A B : Type 0} (f : A → B) (o : Option A) → is_some (option_map f o) ≡ is_some o
some_mapped f None = refl
some_mapped f (Some x) = refl

pub proxy_called : (C : Config) (seed : List ℕ) (n : ℕ) (tells steady : Bool) (first : ℕ → ℕ) (a : Proxy) (call : Call) (mark : Mark) (told : Option (List (List (List Value)))) (now : ℕ) → IsProxy C seed n tells steady first a
    → (mark ≡ Fault → Rose a.faults now) → (a.steady ≡ true → mark ≡ Done) → a.faults ≤ now → is_some told ≡ is_some a.told → IsInstalledAt C a.number a.past call.service call.incarnation
    → (faults (record { worker = a.holder; event = proxy_event.Call call mark } ∷ a.past) ≡ faults a.past → now ≡ a.faults)
    → IsProxy C seed n tells steady first (record a { past = record { worker = a.holder; event = proxy_event.Call call mark } ∷ a.past; told = told; faults = now })
proxy_called C seed n tells steady first a call mark told now h rose sure later same installed kept = record {
  config_is = h.config_is;
  rules = h.rules;
  seed_is = h.seed_is;
  declared = h.declared;
  launched = (tt, h.launched);
  follows = (h.follows, installed);
  told_is = λ yes. same ∙ h.told_is yes;
  steady_is = h.steady_is;
  faultless = λ yes. faults_done (faults a.past) mark (sure (h.steady_is yes)) (h.faultless yes);
  faults_are = faults_called (first a.number) (faults a.past) a.faults now mark h.faults_are later rose;
  still = λ none. let before = none_before (faults a.past) (faults_of_mark mark) none in kept (none ∙ sym before) ∙ h.still before;
}

-- what holds after each outcome of a call holds after it
pub on_answer : {A X T : Type 0} (P : T → Type 0) (Q : A → Type 0) (r : Result A X) (a b : T) → IfOk r Q → OnErr r (b ≡ a) → ((v : A) → r ≡ Ok v → Q v → P b) → P a → P b
on_answer P Q (Ok x) a b ok err holds p = holds x refl ok
on_answer P Q (Err x) a b ok err holds p = subst P (sym err) p

-- pubd
pub pubd_launched : (C : Config) (n : ℕ) (a : Pubd) (x s k : ℕ) → IsPubd C n a x → a.holder ≡ n → IsPubd C n (pubd_entered a (pubd_event.Install s k)) x
pubd_launched C n a x s k h w = record { config_is = h.config_is; rules = h.rules; launched = (w, h.launched); follows = (h.follows, tt); short = h.short; published_are = h.published_are ∙ counts_same (publications a.past) }

pub pubd_revoked : (C : Config) (n : ℕ) (a : Pubd) (x s k : ℕ) → IsPubd C n a x → a.holder ≡ n → IsPubd C n (pubd_entered a (pubd_event.Revoke s k)) x
pubd_revoked C n a x s k h w = record { config_is = h.config_is; rules = h.rules; launched = (w, h.launched); follows = (h.follows, tt); short = h.short; published_are = h.published_are ∙ counts_same (publications a.past) }

pub pubd_drained : (C : Config) (n : ℕ) (a : Pubd) (x s k : ℕ) → IsPubd C n a x → HasStood pubd_grant a.past s k → IsPubd C n (pubd_entered a (pubd_event.Drain s k)) x
pubd_drained C n a x s k h installed = record { config_is = h.config_is; rules = h.rules; launched = (tt, h.launched); follows = (h.follows, installed); short = h.short; published_are = h.published_are ∙ counts_same (publications a.past) }

pub pubd_got : (C : Config) (n : ℕ) (a : Pubd) (x s k : ℕ) (name : List ℕ) → IsPubd C n a x → HasStood pubd_grant a.past s k → IsPubd C n (pubd_entered a (pubd_event.Get s k name)) x
pubd_got C n a x s k name h installed = record { config_is = h.config_is; rules = h.rules; launched = (tt, h.launched); follows = (h.follows, installed); short = h.short; published_are = h.published_are ∙ counts_same (publications a.past) }

-- oklogd
pub log_installed : (C : Config) (n first : ℕ) (a : Log) (x s k : ℕ) → IsLog C n first a x → a.holder ≡ n → IsLog C n first (log_entered a (log_event.Install s k)) x
log_installed C n first a x s k h w = record { config_is = h.config_is; launched = (w, h.launched); follows = (h.follows, tt); written_are = h.written_are ∙ counts_same (logged C a.past); later = h.later; stopped_is = h.stopped_is; still = h.still }

pub log_revoked : (C : Config) (n first : ℕ) (a : Log) (x s k : ℕ) → IsLog C n first a x → a.holder ≡ n → IsLog C n first (log_entered a (log_event.Revoke s k)) x
log_revoked C n first a x s k h w = record { config_is = h.config_is; launched = (w, h.launched); follows = (h.follows, tt); written_are = h.written_are ∙ counts_same (logged C a.past); later = h.later; stopped_is = h.stopped_is; still = h.still }

-- the columns at which nothing happened yet
pub okd_first : (C : Config) (n : ℕ) (a : Okd) → a.config ≡ C → KeepsRules C → a.past ≡ [] → IsOkd C n a 0 0
okd_first C n a config rules fresh = record {
  config_is = config;
  rules = rules;
  launched = rw fresh tt;
  numbered = ap are_numbered fresh;
  accepted_are = sym (ap (λ J. capped (accepts J)) fresh);
  raised_are = sym (ap (λ J. capped (ups J)) fresh);
}

pub proxy_first : (C : Config) (seed : List ℕ) (n : ℕ) (tells steady : Bool) (first : ℕ → ℕ) (a : Proxy) → a.config ≡ C → KeepsRules C → a.seed ≡ seed → a.number < length C.proxies → a.past ≡ []
    → (tells ≡ true → is_some a.told ≡ true) → (steady ≡ true → a.steady ≡ true) → first a.number ≡ a.faults → IsProxy C seed n tells steady first a
proxy_first C seed n tells steady first a config rules seeded declared fresh told sure start = record {
  config_is = config;
  rules = rules;
  seed_is = seeded;
  declared = declared;
  launched = rw fresh tt;
  follows = rw fresh tt;
  told_is = told;
  steady_is = sure;
  faultless = λ yes. ap faults fresh;
  faults_are = let none : faults a.past ≡ 0 = ap faults fresh in omega (arith, start, none);
  still = λ none. sym start;
}

pub pubd_first : (C : Config) (n : ℕ) (a : Pubd) → a.config ≡ C → KeepsRules C → a.past ≡ [] → IsPubd C n a 0
pubd_first C n a config rules fresh = record { config_is = config; rules = rules; launched = rw fresh tt; follows = rw fresh tt; short = ap are_short fresh; published_are = sym (ap (λ J. capped (publications J)) fresh) }

pub log_first : (C : Config) (n first : ℕ) (a : Log) → a.config ≡ C → a.past ≡ [] → a.stopped ≡ false → first ≡ a.faults → IsLog C n first a 0
log_first C n first a config fresh running same = record {
  config_is = config;
  launched = rw fresh tt;
  follows = rw fresh tt;
  written_are = sym (ap (λ J. capped (logged C J)) fresh);
  later = omega (arith, same);
  stopped_is = λ is. absurd (let no : true ≡ false = sym is ∙ running in cc);
  still = λ _. sym same;
}
