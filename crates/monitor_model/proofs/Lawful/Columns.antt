-- One entry more at a column.
use Rattle.std.proofs.Common.{◌≡◌, ◌≢◌, ℕ, ◌+◌, ◌<◌, ◌≤◌, Bool, true, false, cond, List, [], ◌∷◌, Option, Some, None, max, refl, ap, sym, arith, length, eqb-true, eq-eqb, ◌∙◌, le_trans, le_refl, ◌==◌, ◌&&◌, ◌||◌, not, nat_lt, get_or-set_same, get_or-set_other, subst}
use Rattle.std.specs.Prelude.{filter_map}
use Rattle.std.specs.Prelude.{slice_set}
use Rattle.std.proofs.lemmas.Bool.{eqb-false}
use Rattle.std.proofs.lemmas.List.{length-set}
use Rattle.okws_base.specs.Past.{Grant, Installs, Revokes, Leaves, last_after, last_by}
use Rattle.okws_base.specs.declared.journal.Entry.{Entry}
use Rattle.okws_plan.specs.declared.configuration.Config.{Config}
use Rattle.okws_plan.specs.declared.event.Mark.{Mark}
use Rattle.okws_plan.specs.declared.event.Mark.TheVariants.{Done, Fault}
use Rattle.okws_plan.specs.declared.event.Call.{Call}
use Rattle.okws_plan.specs.declared.event.OkdEvent.{OkdEvent}
use Rattle.okws_plan.specs.declared.event.OkdEvent.TheVariants as okd
use Rattle.okws_plan.specs.declared.event.ProxyEvent.{ProxyEvent}
use Rattle.okws_plan.specs.declared.event.ProxyEvent.TheVariants as proxy
use Rattle.okws_plan.specs.declared.event.PubdEvent.{PubdEvent}
use Rattle.okws_plan.specs.declared.event.LogEvent.{LogEvent}
use Rattle.okws_plan.specs.declared.event.LauncherEvent.{LauncherEvent}
use Rattle.okws_plan.specs.declared.event.LauncherEvent.TheVariants.{Begun}
use Rattle.monitor_model.specs.declared.record.Own.{Own}
use Rattle.monitor_model.specs.declared.record.Own.TheVariants as own
use Rattle.monitor_model.specs.Standing.{proxy_grant, pubd_grant, log_grant, up_at_okd}
use Rattle.monitor_model.specs.Columns.{MayEnterOkd, MayEnterProxy, MayEnterPubd, MayEnterLog, MarkFits, faults, faults_after}
use Rattle.monitor_model.specs.Launcher.{begun, tries, is_dead}
use Rattle.monitor_model.specs.Merged.{okd_item, proxy_item, pubd_item, log_item, launcher_item}
use Rattle.monitor_model.specs.Seen.{Seen, proxy_past, noted}
use Rattle.monitor_model.specs.Script.{entry, at_okd, at_proxy, at_pubd, at_log, at_launcher}
use Rattle.monitor_model.proofs.Lawful.Kept.{IsAlone, OkdKept, ProxyKept, PubdKept, LogKept, LauncherKept, SeenKept}

pub alone_more : {E : Type 0} (J : List (Entry E)) (items : List E) (e : E) → IsAlone E J items → IsAlone E (entry e ∷ J) (e ∷ items)
alone_more {E} J items e k = record { own = ap (λ (xs : List E). e ∷ xs) k.own; foreign = k.foreign; below = k.below }

-- What is up after an event.
abbrev pub UpFits : Config → OkdEvent → Type 0
UpFits C (okd.Up s k) = (s < length C.services) × (0 < k)
UpFits C (okd.Down s k) = Unit {0}
UpFits C (okd.Accept path) = Unit {0}

up_when : (n t j s k : ℕ) (before : Option ℕ) → t < n → 0 < j → (before ≡ Some k → (s < n) × (0 < k)) → (b : Bool) → (t == s) ≡ b → cond b (Some j) before ≡ Some k → (s < n) × (0 < k)
up_when n t j s k before declared above rest true same found = let is : j ≡ k = cc in (rw (eqb-true t s same) at declared, rw is at above)
up_when n t j s k before declared above rest false same found = rest found

down_when : (n s k : ℕ) (before : Option ℕ) → (before ≡ Some k → (s < n) × (0 < k)) → (b : Bool) → cond b None before ≡ Some k → (s < n) × (0 < k)
down_when n s k before rest true found = let never : ⊥ = cc in absurd never
down_when n s k before rest false found = rest found

up_more : (C : Config) (J : List (Entry OkdEvent)) (e : OkdEvent) → ((s k : ℕ) → up_at_okd J s ≡ Some k → (s < length C.services) × (0 < k)) → UpFits C e
    → (s k : ℕ) → up_at_okd (entry e ∷ J) s ≡ Some k → (s < length C.services) × (0 < k)
up_more C J (okd.Up t j) before fits s k found = up_when (length C.services) t j s k (up_at_okd J s) fits.0 fits.1 (before s k) (t == s) refl found
up_more C J (okd.Down t j) before fits s k found = down_when (length C.services) s k (up_at_okd J s) (before s k) (t == s) found
up_more C J (okd.Accept path) before fits s k found = before s k found

okd_more : (C : Config) (J : List (Entry OkdEvent)) (items : List OkdEvent) (e : OkdEvent) → OkdKept C J items → MayEnterOkd J e → UpFits C e → OkdKept C (entry e ∷ J) (e ∷ items)
okd_more C J items e k may fits = record { alone = alone_more J items e k.alone; law = (k.law, may); up = up_more C J e k.up fits }

-- What was installed was begun.
abbrev pub GrantFits : (ℕ → ℕ) → Grant → Type 0
GrantFits greatest (Installs t k) = k ≤ greatest t
GrantFits greatest (Revokes t) = Unit {0}
GrantFits greatest Leaves = Unit {0}

last_when : (greatest : ℕ → ℕ) (t k s before : ℕ) → k ≤ greatest t → before ≤ greatest s → (b : Bool) → (t == s) ≡ b → cond b (max k before) before ≤ greatest s
last_when greatest t k s before fits rest true same = let here : k ≤ greatest s = rw (eqb-true t s same) at fits in omega arith
last_when greatest t k s before fits rest false same = rest

last_more : (greatest : ℕ → ℕ) (grant : Grant) (s before : ℕ) → GrantFits greatest grant → before ≤ greatest s → last_after grant s before ≤ greatest s
last_more greatest (Installs t k) s before fits rest = last_when greatest t k s before fits rest (t == s) refl
last_more greatest (Revokes t) s before fits rest = rest
last_more greatest Leaves s before fits rest = rest

-- faults only grow
faults_before : (e : ProxyEvent) (n : ℕ) → faults_after e n ≡ 0 → n ≡ 0
faults_before (proxy.Install s k shown) n none = none
faults_before (proxy.Revoke s k) n none = none
faults_before (proxy.Open s k shown) n none = none
faults_before (proxy.Call call mark) n none = omega arith

pub mark_fits : (C : Config) (p : ℕ) (J : List (Entry ProxyEvent)) (call : Call) (mark : Mark) → faults_after (proxy.Call call mark) (faults J) ≡ 0 → MarkFits C p J call mark
mark_fits C p J call Done none = tt
mark_fits C p J call Fault none = absurd (omega arith)

proxy_more : (C : Config) (seed : List ℕ) (p : ℕ) (J : List (Entry ProxyEvent)) (items : List ProxyEvent) (greatest : ℕ → ℕ) (e : ProxyEvent)
    → ProxyKept C seed p J items greatest → (faults_after e (faults J) ≡ 0 → MayEnterProxy C seed p J e) → GrantFits greatest (proxy_grant e)
    → ProxyKept C seed p (entry e ∷ J) (e ∷ items) greatest
proxy_more C seed p J items greatest e k may fits = record {
  alone = alone_more J items e k.alone;
  law = λ none. (k.law (faults_before e (faults J) none), may none);
  last = λ s. last_more greatest (proxy_grant e) s (last_by proxy_grant J s) fits (k.last s);
}

pubd_more : (C : Config) (J : List (Entry PubdEvent)) (items : List PubdEvent) (greatest : ℕ → ℕ) (e : PubdEvent)
    → PubdKept C J items greatest → MayEnterPubd C J e → GrantFits greatest (pubd_grant e) → PubdKept C (entry e ∷ J) (e ∷ items) greatest
pubd_more C J items greatest e k may fits = record {
  alone = alone_more J items e k.alone;
  law = (k.law, may);
  last = λ s. last_more greatest (pubd_grant e) s (last_by pubd_grant J s) fits (k.last s);
}

log_more : (J : List (Entry LogEvent)) (items : List LogEvent) (greatest : ℕ → ℕ) (e : LogEvent)
    → LogKept J items greatest → MayEnterLog J e → GrantFits greatest (log_grant e) → LogKept (entry e ∷ J) (e ∷ items) greatest
log_more J items greatest e k may fits = record {
  alone = alone_more J items e k.alone;
  law = (k.law, may);
  last = λ s. last_more greatest (log_grant e) s (last_by log_grant J s) fits (k.last s);
}

-- a proxy's entry, seen from each proxy
proxy_here : (C : Config) (seed : List ℕ) (p : ℕ) (ps : List (List (Entry ProxyEvent))) (items : List Own) (greatest : ℕ → ℕ) (e : ProxyEvent) → p < length ps
    → ProxyKept C seed p (entry e ∷ proxy_past ps p) (e ∷ filter_map (proxy_item p) items) greatest
    → ProxyKept C seed p (proxy_past (slice_set ps p (entry e ∷ proxy_past ps p)) p) (filter_map (proxy_item p) (own.Proxy p e ∷ items)) greatest
proxy_here C seed p ps items greatest e declared k =
    rw (get_or-set_same ps p (entry e ∷ proxy_past ps p) [] declared, eq-eqb p p refl) k

proxy_at : (C : Config) (seed : List ℕ) (p q : ℕ) (ps : List (List (Entry ProxyEvent))) (items : List Own) (greatest : ℕ → ℕ) (e : ProxyEvent) → p < length ps
    → ProxyKept C seed p (entry e ∷ proxy_past ps p) (e ∷ filter_map (proxy_item p) items) greatest
    → ProxyKept C seed q (proxy_past ps q) (filter_map (proxy_item q) items) greatest
    → (b : Bool) → (p == q) ≡ b
    → ProxyKept C seed q (proxy_past (slice_set ps p (entry e ∷ proxy_past ps p)) q) (filter_map (proxy_item q) (own.Proxy p e ∷ items)) greatest
proxy_at C seed p q ps items greatest e declared here there true same =
    subst (λ (r : ℕ). ProxyKept C seed r (proxy_past (slice_set ps p (entry e ∷ proxy_past ps p)) r) (filter_map (proxy_item r) (own.Proxy p e ∷ items)) greatest)
    (eqb-true p q same) (proxy_here C seed p ps items greatest e declared here)
proxy_at C seed p q ps items greatest e declared here there false same =
    let apart : q ≢ p = (λ (is : q ≡ p). eqb-false p q same (sym is)) in
    rw (get_or-set_other ps p q (entry e ∷ proxy_past ps p) [] apart, same) there

-- one entry more in all that was made
pub seen_okd : (C : Config) (seed : List ℕ) (J : Seen) (e : OkdEvent) → SeenKept C seed J → MayEnterOkd J.okd e → UpFits C e → SeenKept C seed (at_okd e J)
seen_okd C seed J e k may fits = record {
  okd = okd_more C J.okd (filter_map okd_item J.own) e k.okd may fits;
  proxies_are = k.proxies_are;
  proxies = k.proxies;
  pubd = k.pubd;
  oklogd = k.oklogd;
  launcher = k.launcher;
  remembered = k.remembered;
}

pub seen_proxy : (C : Config) (seed : List ℕ) (J : Seen) (p : ℕ) (e : ProxyEvent) → SeenKept C seed J → p < length C.proxies
    → (faults_after e (faults (proxy_past J.proxies p)) ≡ 0 → MayEnterProxy C seed p (proxy_past J.proxies p) e) → GrantFits (begun J.launcher) (proxy_grant e)
    → SeenKept C seed (at_proxy p e J)
seen_proxy C seed J p e k declared may fits =
    let there : p < length J.proxies = rw k.proxies_are declared in
    record {
      okd = k.okd;
      proxies_are = length-set J.proxies p (entry e ∷ proxy_past J.proxies p) ∙ k.proxies_are;
      proxies = λ q. proxy_at C seed p q J.proxies J.own (begun J.launcher) e there
          (proxy_more C seed p (proxy_past J.proxies p) (filter_map (proxy_item p) J.own) (begun J.launcher) e (k.proxies p) may fits) (k.proxies q) (p == q) refl;
      pubd = k.pubd;
      oklogd = k.oklogd;
      launcher = k.launcher;
      remembered = k.remembered;
    }

pub seen_pubd : (C : Config) (seed : List ℕ) (J : Seen) (e : PubdEvent) → SeenKept C seed J → MayEnterPubd C J.pubd e → GrantFits (begun J.launcher) (pubd_grant e) → SeenKept C seed (at_pubd e J)
seen_pubd C seed J e k may fits = record {
  okd = k.okd;
  proxies_are = k.proxies_are;
  proxies = k.proxies;
  pubd = pubd_more C J.pubd (filter_map pubd_item J.own) (begun J.launcher) e k.pubd may fits;
  oklogd = k.oklogd;
  launcher = k.launcher;
  remembered = k.remembered;
}

pub seen_log : (C : Config) (seed : List ℕ) (J : Seen) (e : LogEvent) → SeenKept C seed J → MayEnterLog J.oklogd e → GrantFits (begun J.launcher) (log_grant e) → SeenKept C seed (at_log e J)
seen_log C seed J e k may fits = record {
  okd = k.okd;
  proxies_are = k.proxies_are;
  proxies = k.proxies;
  pubd = k.pubd;
  oklogd = log_more J.oklogd (filter_map log_item J.own) (begun J.launcher) e k.oklogd may fits;
  launcher = k.launcher;
  remembered = k.remembered;
}

-- an incarnation more was begun
begun_when : (b : Bool) (k n : ℕ) → n ≤ cond b (max k n) n
begun_when true k n = omega arith
begun_when false k n = le_refl n

pub begun_grows : (J : List (Entry LauncherEvent)) (s k t : ℕ) → begun J t ≤ begun (entry (Begun s k) ∷ J) t
begun_grows J s k t = begun_when (s == t) k (begun J t)

pub begun_next : (J : List (Entry LauncherEvent)) (s : ℕ) → begun (entry (Begun s (begun J s + 1)) ∷ J) s ≡ begun J s + 1
begun_next J s = rw (eq-eqb s s refl) (omega arith)

may_begin_next : (n m : ℕ) (b more : Bool) → m ≡ 0 → b ≡ false → ((n == n) && (((m == 0) || more) && not b)) ≡ true
may_begin_next n m b more untried alive = rw (eq-eqb n n refl, untried, alive) refl

launcher_more : (C : Config) (J : List (Entry LauncherEvent)) (items : List LauncherEvent) (s : ℕ) → LauncherKept C J items
    → LauncherKept C (entry (Begun s (begun J s + 1)) ∷ J) (Begun s (begun J s + 1) ∷ items)
launcher_more C J items s k = record {
  alone = alone_more J items (Begun s (begun J s + 1)) k.alone;
  law = (k.law, may_begin_next (begun J s + 1) (tries J s) (is_dead J s) (nat_lt (tries J s) C.retry) (k.untried s) (k.alive s));
  untried = k.untried;
  alive = k.alive;
}

proxy_above : (C : Config) (seed : List ℕ) (p : ℕ) (J : List (Entry ProxyEvent)) (items : List ProxyEvent) (was greatest : ℕ → ℕ) → ((s : ℕ) → was s ≤ greatest s)
    → ProxyKept C seed p J items was → ProxyKept C seed p J items greatest
proxy_above C seed p J items was greatest above k = record { alone = k.alone; law = k.law; last = λ s. le_trans (k.last s) (above s) }

pub seen_begun : (C : Config) (seed : List ℕ) (J : Seen) (s : ℕ) → SeenKept C seed J → SeenKept C seed (at_launcher (Begun s (begun J.launcher s + 1)) J)
seen_begun C seed J s k = record {
  okd = k.okd;
  proxies_are = k.proxies_are;
  proxies = λ p. proxy_above C seed p (proxy_past J.proxies p) (filter_map (proxy_item p) J.own) (begun J.launcher) (begun (entry (Begun s (begun J.launcher s + 1)) ∷ J.launcher))
      (begun_grows J.launcher s (begun J.launcher s + 1)) (k.proxies p);
  pubd = record { alone = k.pubd.alone; law = k.pubd.law; last = λ t. le_trans (k.pubd.last t) (begun_grows J.launcher s (begun J.launcher s + 1) t) };
  oklogd = record { alone = k.oklogd.alone; law = k.oklogd.law; last = λ t. le_trans (k.oklogd.last t) (begun_grows J.launcher s (begun J.launcher s + 1) t) };
  launcher = launcher_more C J.launcher (filter_map launcher_item J.own) s k.launcher;
  remembered = k.remembered;
}

-- An item that stands in a cell, and in no column.
abbrev pub IsNote : Own → Type 0
IsNote (own.Dialog s) = Unit {0}
IsNote (own.Missed s wanted is) = Unit {0}
IsNote (own.Boot s k) = Unit {0}
IsNote (own.Retired s) = Unit {0}
IsNote _ = ⊥

pub seen_noted : (C : Config) (seed : List ℕ) (J : Seen) (item : Own) → IsNote item → SeenKept C seed J → SeenKept C seed (noted J item)
seen_noted C seed J (own.Dialog s) note k = record { okd = k.okd; proxies_are = k.proxies_are; proxies = k.proxies; pubd = k.pubd; oklogd = k.oklogd; launcher = k.launcher; remembered = k.remembered }
seen_noted C seed J (own.Missed s wanted is) note k = record { okd = k.okd; proxies_are = k.proxies_are; proxies = k.proxies; pubd = k.pubd; oklogd = k.oklogd; launcher = k.launcher; remembered = k.remembered }
seen_noted C seed J (own.Boot s j) note k = record { okd = k.okd; proxies_are = k.proxies_are; proxies = k.proxies; pubd = k.pubd; oklogd = k.oklogd; launcher = k.launcher; remembered = k.remembered }
seen_noted C seed J (own.Retired s) note k = record { okd = k.okd; proxies_are = k.proxies_are; proxies = k.proxies; pubd = k.pubd; oklogd = k.oklogd; launcher = k.launcher; remembered = k.remembered }
seen_noted C seed J _ note k = absurd note
