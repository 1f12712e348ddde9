-- No worker launches: what installs, revokes, boots or retires is in the launcher's list alone.
use Rattle.std.proofs.Common.{◌≡◌, ℕ, zero, suc, ◌<◌, Bool, true, false, List, [], ◌∷◌, ◌++◌, Option, Some, None, length, refl, sym, ap, ◌∙◌, subst, arith, eq-eqb, ne_eqb, get_or}
use Rattle.std.proofs.lemmas.Bool.{true≢false}
use Rattle.std.specs.Prelude.{◌||◌, ◌==◌, if◌then◌else◌, filter, filter_map}
use Rattle.std.specs.List.{list_any, cons_option}
use mathlib.Core.Logic.{dite}
use native.Mathlib.Decide.{ℕ_discrete}
use Rattle.okws_base.specs.Past.{Grant, events_of}
use Rattle.okws_base.specs.declared.journal.Entry.{Entry}
use Rattle.okws_plan.specs.declared.configuration.Config.{Config}
use Rattle.okws_plan.specs.declared.event.LogEvent.{LogEvent}
use Rattle.okws_plan.specs.declared.event.LogEvent.TheVariants as oklogd
use Rattle.okws_plan.specs.declared.event.OkdEvent.{OkdEvent}
use Rattle.okws_plan.specs.declared.event.OkdEvent.TheVariants as okd
use Rattle.okws_plan.specs.declared.event.ProxyEvent.{ProxyEvent}
use Rattle.okws_plan.specs.declared.event.ProxyEvent.TheVariants as proxy
use Rattle.okws_plan.specs.declared.event.PubdEvent.{PubdEvent}
use Rattle.okws_plan.specs.declared.event.PubdEvent.TheVariants as pubd
use Rattle.monitor_model.specs.declared.record.CellEvent.{CellEvent}
use Rattle.monitor_model.specs.declared.record.CellEvent.TheVariants as cell
use Rattle.monitor_model.specs.declared.record.Own.{Own}
use Rattle.monitor_model.specs.declared.record.Own.TheVariants as own
use Rattle.monitor_model.specs.declared.record.Record.{Record}
use Rattle.monitor_model.specs.Merged.{IsOwn, LaunchesAlone, cell_items, cell_past, is_at_cell, is_launch, is_log_launch, is_okd_launch, is_proxy_launch, is_pubd_launch, list_of, log_item, okd_item, proxy_item, pubd_item}
use Rattle.monitor_model.specs.Seen.{proxy_past}
use Rattle.monitor_model.specs.Standing.{log_grant, okd_grant, proxy_grant, pubd_grant}
use Rattle.named_columns.specs.Launched.{IsLaunch, LaunchedBy}
use Rattle.site_run.specs.Journals.{AllProxies, KeepLaws}
use Rattle.site_run.specs.Tied.{LaunchesAreOwn}

or_first : (a b : Bool) → (a || b) ≡ false → a ≡ false
or_first true b e = e
or_first false b e = refl

or_second : (a b : Bool) → (a || b) ≡ false → b ≡ false
or_second true b e = absurd (true≢false e)
or_second false b e = e

or_both : (a b : Bool) → a ≡ false → b ≡ false → (a || b) ≡ false
or_both true b e f = absurd (true≢false e)
or_both false b e f = f

-- ---- the events of others than the launcher

module _ {E : Type 0} (grant : E → Grant) (is : E → Bool) (n w : ℕ) (mine : (e : E) → is e ≡ true → IsLaunch n w (grant e) → w ≡ n) (other : w ≡ n → ⊥) where
  not_mine : (e : E) (b : Bool) → is e ≡ b → IsLaunch n w (grant e) → is e ≡ false
  not_mine e true q l = absurd (other (mine e q l))
  not_mine e false q l = q

  none_launched : (J : List (Entry E)) → LaunchedBy grant n J → list_any is (events_of w J) ≡ false
  none_launched [] h = refl
  none_launched (e ∷ J) h = dite (ℕ_discrete e.worker w)
      (λ same. rw (eq-eqb e.worker w same) (or_both (is e.event) (list_any is (events_of w J)) (not_mine e.event (is e.event) refl (subst (λ v. IsLaunch n v (grant e.event)) same h.0)) (none_launched J h.1)))
      (λ apart. rw (ne_eqb e.worker w apart) (none_launched J h.1))

okd_mine : (n w : ℕ) (e : OkdEvent) → is_okd_launch e ≡ true → IsLaunch n w (okd_grant e) → w ≡ n
okd_mine n w (okd.Up s k) q l = l
okd_mine n w (okd.Down s k) q l = l
okd_mine n w (okd.Accept path) q l = absurd (true≢false (sym q))

proxy_mine : (n w : ℕ) (e : ProxyEvent) → is_proxy_launch e ≡ true → IsLaunch n w (proxy_grant e) → w ≡ n
proxy_mine n w (proxy.Install s k token) q l = l
proxy_mine n w (proxy.Revoke s k) q l = l
proxy_mine n w (proxy.Open s k shown) q l = absurd (true≢false (sym q))
proxy_mine n w (proxy.Call call mark) q l = absurd (true≢false (sym q))

pubd_mine : (n w : ℕ) (e : PubdEvent) → is_pubd_launch e ≡ true → IsLaunch n w (pubd_grant e) → w ≡ n
pubd_mine n w (pubd.Install s k) q l = l
pubd_mine n w (pubd.Revoke s k) q l = l
pubd_mine n w (pubd.Publish t content) q l = absurd (true≢false (sym q))
pubd_mine n w (pubd.Drain s k) q l = absurd (true≢false (sym q))
pubd_mine n w (pubd.Get s k name) q l = absurd (true≢false (sym q))

log_mine : (n w : ℕ) (e : LogEvent) → is_log_launch e ≡ true → IsLaunch n w (log_grant e) → w ≡ n
log_mine n w (oklogd.Install s k) q l = l
log_mine n w (oklogd.Revoke s k) q l = l
log_mine n w (oklogd.Log s k text) q l = absurd (true≢false (sym q))

proxies_launched : (C : Config) (seed : List ℕ) (n p : ℕ) (Js : List (List (Entry ProxyEvent))) → AllProxies C seed n p Js → (k : ℕ) → LaunchedBy proxy_grant n (proxy_past Js k)
proxies_launched C seed n p [] h k = tt
proxies_launched C seed n p (J ∷ Js) h zero = h.1
proxies_launched C seed n p (J ∷ Js) h (suc k) = proxies_launched C seed n (suc p) Js h.2 k

-- the item is a Boot or a Retired
abbrev is_booted : Own → Bool
is_booted (own.Okd e) = false
is_booted (own.Proxy p e) = false
is_booted (own.Pubd e) = false
is_booted (own.Oklogd e) = false
is_booted (own.Launcher e) = false
is_booted (own.Dialog s) = false
is_booted (own.Missed s wanted is) = false
is_booted own.NoMemory = false
is_booted (own.Boot s k) = true
is_booted (own.Retired s) = true

if_made : (b : Bool) (x : Own) (xs : List Own) → is_booted x ≡ false → list_any is_booted xs ≡ false → list_any is_booted (if b then x ∷ xs else xs) ≡ false
if_made true x xs e h = or_both (is_booted x) (list_any is_booted xs) e h
if_made false x xs e h = h

none_booted : (n w s : ℕ) → (w ≡ n → ⊥) → (J : List CellEvent) → list_any is_booted (cell_items n w s J) ≡ false
none_booted n w s other [] = refl
none_booted n w s other (cell.Boot k ∷ J) = rw (ne_eqb w n other) (none_booted n w s other J)
none_booted n w s other (cell.Retired ∷ J) = rw (ne_eqb w n other) (none_booted n w s other J)
none_booted n w s other (cell.Missed v wanted is ∷ J) = if_made (v == w) (own.Missed s wanted is) (cell_items n w s J) refl (none_booted n w s other J)
none_booted n w s other (cell.Dialog d ∷ J) = if_made (d.worker == w) (own.Dialog s) (cell_items n w s J) refl (none_booted n w s other J)
none_booted n w s other (cell.Speaking v items ∷ J) = if_made (v == w) (own.Dialog s) (cell_items n w s J) refl (none_booted n w s other J)

-- ---- a list of such items

-- nothing in a list launches, by the columns and the cells
record LaunchNone (items : List Own) : Type 0 where
  okd_none : list_any is_okd_launch (filter_map okd_item items) ≡ false
  proxies_none : (p : ℕ) → list_any is_proxy_launch (filter_map (proxy_item p) items) ≡ false
  pubd_none : list_any is_pubd_launch (filter_map pubd_item items) ≡ false
  log_none : list_any is_log_launch (filter_map log_item items) ≡ false
  cells_none : (s : ℕ) → list_any is_booted (filter (is_at_cell s) items) ≡ false

rest_none : {E : Type 0} (is : E → Bool) (o : Option E) (xs : List E) → list_any is (cons_option o xs) ≡ false → list_any is xs ≡ false
rest_none is None xs h = h
rest_none is (Some x) xs h = or_second (is x) (list_any is xs) h

rest_cells : (b : Bool) (x : Own) (xs : List Own) → list_any is_booted (if b then x ∷ xs else xs) ≡ false → list_any is_booted xs ≡ false
rest_cells true x xs h = or_second (is_booted x) (list_any is_booted xs) h
rest_cells false x xs h = h

rest_of : (x : Own) (items : List Own) → LaunchNone (x ∷ items) → LaunchNone items
rest_of x items h = record {
  okd_none = rest_none is_okd_launch (okd_item x) (filter_map okd_item items) h.okd_none;
  proxies_none = λ p. rest_none is_proxy_launch (proxy_item p x) (filter_map (proxy_item p) items) (h.proxies_none p);
  pubd_none = rest_none is_pubd_launch (pubd_item x) (filter_map pubd_item items) h.pubd_none;
  log_none = rest_none is_log_launch (log_item x) (filter_map log_item items) h.log_none;
  cells_none = λ s. rest_cells (is_at_cell s x) x (filter (is_at_cell s) items) (h.cells_none s);
}

first_proxy : (p : ℕ) (e : ProxyEvent) (items : List Own) → list_any is_proxy_launch (filter_map (proxy_item p) (own.Proxy p e ∷ items)) ≡ false → is_proxy_launch e ≡ false
first_proxy p e items h =
    or_first (is_proxy_launch e) (list_any is_proxy_launch (filter_map (proxy_item p) items))
    (subst (λ (b : Bool). list_any is_proxy_launch (cons_option (if b then Some e else None) (filter_map (proxy_item p) items)) ≡ false) (eq-eqb p p refl) h)

first_cell : (s : ℕ) (x : Own) (items : List Own) → is_at_cell s x ≡ true → list_any is_booted (filter (is_at_cell s) (x ∷ items)) ≡ false → is_booted x ≡ false
first_cell s x items at h =
    or_first (is_booted x) (list_any is_booted (filter (is_at_cell s) items))
    (subst (λ (b : Bool). list_any is_booted (if b then x ∷ filter (is_at_cell s) items else filter (is_at_cell s) items) ≡ false) at h)

first_none : (x : Own) (items : List Own) → LaunchNone (x ∷ items) → is_launch x ≡ false
first_none (own.Okd e) items h = or_first (is_okd_launch e) (list_any is_okd_launch (filter_map okd_item items)) h.okd_none
first_none (own.Proxy p e) items h = first_proxy p e items (h.proxies_none p)
first_none (own.Pubd e) items h = or_first (is_pubd_launch e) (list_any is_pubd_launch (filter_map pubd_item items)) h.pubd_none
first_none (own.Oklogd e) items h = or_first (is_log_launch e) (list_any is_log_launch (filter_map log_item items)) h.log_none
first_none (own.Launcher e) items h = refl
first_none (own.Dialog s) items h = refl
first_none (own.Missed s wanted is) items h = refl
first_none own.NoMemory items h = refl
first_none (own.Boot s k) items h = absurd (true≢false (first_cell s (own.Boot s k) items (eq-eqb s s refl) (h.cells_none s)))
first_none (own.Retired s) items h = absurd (true≢false (first_cell s (own.Retired s) items (eq-eqb s s refl) (h.cells_none s)))

no_launches : (items : List Own) → LaunchNone items → list_any is_launch items ≡ false
no_launches [] h = refl
no_launches (x ∷ items) h = or_both (is_launch x) (list_any is_launch items) (first_none x items h) (no_launches items (rest_of x items h))

-- the list of a worker
worker_none : (C : Config) (seed : List ℕ) (n w : ℕ) (R : Record) → (w ≡ n → ⊥) → KeepLaws C seed n R → IsOwn R n w (list_of R w) → list_any is_launch (list_of R w) ≡ false
worker_none C seed n w R other laws list = no_launches (list_of R w) (record {
  okd_none = ap (list_any is_okd_launch) (sym list.okd) ∙ none_launched okd_grant is_okd_launch n w (okd_mine n w) other R.okd laws.okd.1;
  proxies_none = λ p. ap (list_any is_proxy_launch) (sym (list.proxies p)) ∙ none_launched proxy_grant is_proxy_launch n w (proxy_mine n w) other (proxy_past R.proxies p) (proxies_launched C seed n 0 R.proxies laws.proxies p);
  pubd_none = ap (list_any is_pubd_launch) (sym list.pubd) ∙ none_launched pubd_grant is_pubd_launch n w (pubd_mine n w) other R.pubd laws.pubd.1;
  log_none = ap (list_any is_log_launch) (sym list.oklogd) ∙ none_launched log_grant is_log_launch n w (log_mine n w) other R.oklogd laws.oklogd.1;
  cells_none = λ s. ap (list_any is_booted) (sym (list.cells s)) ∙ none_booted n w s other (cell_past R s);
})

any_list : (Ls tail : List (List Own)) → ((w : ℕ) → w < length Ls → list_any is_launch (get_or (Ls ++ tail) w []) ≡ false) → list_any (λ (items : List Own). list_any is_launch items) Ls ≡ false
any_list [] tail h = refl
any_list (L ∷ Ls) tail h = or_both (list_any is_launch L) (list_any (λ (items : List Own). list_any is_launch items) Ls) (h 0 (omega arith)) (any_list Ls tail (λ w l. h (suc w) (omega arith)))

-- the launcher's number makes all launches
pub launches_alone : (C : Config) (seed : List ℕ) (n : ℕ) (R : Record) → length R.workers ≡ n → KeepLaws C seed n R → LaunchesAreOwn n R → ((w : ℕ) → w < n → IsOwn R n w (list_of R w)) → LaunchesAlone R
launches_alone C seed n R many laws launched lists = record {
  workers = any_list R.workers (R.launches ∷ []) (λ w l. let u : w < n = omega arith in worker_none C seed n w R (λ e. absurd (omega arith)) laws (lists w u));
  launches = launched.launches;
}
