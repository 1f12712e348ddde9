-- What the steps of a launch leave of the Boots that the launcher's list has.
use Rattle.std.proofs.Common.{◌≡◌, ◌∙◌, ℕ, zero, suc, Bool, true, false, List, [], ◌∷◌, Option, Some, None, length, refl, sym, ap, subst}
use Rattle.std.specs.Prelude.{◌==◌, ◌||◌, if◌then◌else◌, filter_map, Result, Ok, Err, OnErr, OnOk}
use Rattle.std.specs.List.{list_any}
use Rattle.okws_plan.specs.declared.configuration.Config.{Config}
use Rattle.okws_plan.specs.declared.event.OkdEvent.TheVariants as okd
use Rattle.okws_plan.specs.declared.event.ProxyEvent.TheVariants as proxy
use Rattle.okws_plan.specs.declared.event.PubdEvent.TheVariants as pubd
use Rattle.okws_plan.specs.declared.event.LogEvent.TheVariants as oklogd
use Rattle.okws_plan.specs.declared.script.Place.{Place}
use Rattle.okws_plan.specs.declared.script.Place.TheVariants.{Proxy, Pubd, Oklogd}
use Rattle.monitor_model.specs.declared.record.Own.{Own}
use Rattle.monitor_model.specs.declared.record.Own.TheVariants as own
use Rattle.monitor_model.specs.declared.record.Record.{Record}
use Rattle.monitor_model.specs.Launches.{found_at, install_at, standing_in, with_down, with_installs, with_retired, with_revoke_pubd, with_revokes, with_revokes_from, with_standing}
use Rattle.monitor_model.specs.Merged.{log_item, okd_item, proxy_item, pubd_item}
use Rattle.monitor_model.specs.Standing.{log_grant, okd_grant, proxy_grant, pubd_grant}
use Rattle.launch_crew.specs.Listed.{InstallsFirst}
use Rattle.okld_launch.specs.Kin.{is_boot}

-- Each incarnation's Boot is in the second list just where it is in the first.
abbrev pub BootsSame : List Own → List Own → Type 0
BootsSame xs ys = (t j : ℕ) → list_any (is_boot t j) ys ≡ list_any (is_boot t j) xs

pub boots_kept : (xs ys : List Own) → ys ≡ xs → BootsSame xs ys
boots_kept xs ys is t j = ap (list_any (is_boot t j)) is

pub boots_on : (xs ys zs : List Own) → BootsSame xs ys → BootsSame ys zs → BootsSame xs zs
boots_on xs ys zs a b t j = b t j ∙ a t j

module _ (t j : ℕ) where
  standing_same : (item : ℕ → Own) → ((i : ℕ) → is_boot t j (item i) ≡ false) → (o : Option ℕ) (items : List Own) → list_any (is_boot t j) (with_standing item o items) ≡ list_any (is_boot t j) items
  standing_same item none None items = refl
  standing_same item none (Some i) items = ap (λ (b : Bool). b || list_any (is_boot t j) items) (none i)

  from_same : (s p n : ℕ) (items : List Own) → list_any (is_boot t j) (with_revokes_from s p n items) ≡ list_any (is_boot t j) items
  from_same s p zero items = refl
  from_same s p (suc n) items =
      let item = λ (k : ℕ). own.Proxy p (proxy.Revoke s k) in
      let stands = standing_in proxy_grant (filter_map (proxy_item p) items) s in
      from_same s (suc p) n (with_standing item stands items) ∙ standing_same item (λ i. refl) stands items

  where_same : (b : Bool) (s : ℕ) (items : List Own) → list_any (is_boot t j) (if b then items else own.Retired s ∷ items) ≡ list_any (is_boot t j) items
  where_same true s items = refl
  where_same false s items = refl

  install_no : (seed : List ℕ) (s k : ℕ) (at : Place) → is_boot t j (install_at seed s k at) ≡ false
  install_no seed s k (Proxy p) = refl
  install_no seed s k Pubd = refl
  install_no seed s k Oklogd = refl

  many_same : (seed : List ℕ) (s k : ℕ) (places : List Place) (items : List Own) → list_any (is_boot t j) (with_installs seed s k places items) ≡ list_any (is_boot t j) items
  many_same seed s k [] items = refl
  many_same seed s k (at ∷ places) items = many_same seed s k places (install_at seed s k at ∷ items) ∙ ap (λ (b : Bool). b || list_any (is_boot t j) items) (install_no seed s k at)

pub down_same : (s : ℕ) (items : List Own) → BootsSame items (with_down s items)
down_same s items t j = standing_same t j (λ (k : ℕ). own.Okd (okd.Down s k)) (λ i. refl) (standing_in okd_grant (filter_map okd_item items) s) items

pub revokes_same : (C : Config) (s : ℕ) (items : List Own) → BootsSame items (with_revokes C s items)
revokes_same C s items t j =
    let first = with_revokes_from s 0 (length C.proxies) items in
    let second = with_revoke_pubd s first in
    standing_same t j (λ (k : ℕ). own.Oklogd (oklogd.Revoke s k)) (λ i. refl) (standing_in log_grant (filter_map log_item second) s) second
    ∙ (standing_same t j (λ (k : ℕ). own.Pubd (pubd.Revoke s k)) (λ i. refl) (standing_in pubd_grant (filter_map pubd_item first) s) first ∙ from_same t j s 0 (length C.proxies) items)

pub retired_same : (R : Record) (s : ℕ) (items : List Own) → BootsSame items (with_retired R s items)
retired_same R s items t j = where_same t j (found_at R s items == 0) s items

pub installs_same : (seed : List ℕ) (s k : ℕ) (places : List Place) (items : List Own) → BootsSame items (with_installs seed s k places items)
installs_same seed s k places items t j = many_same t j seed s k places items

-- in the words of the calls

pub revoked_boots : (C : Config) (s : ℕ) (xs ys : List Own) → ys ≡ with_revokes C s xs → BootsSame xs ys
revoked_boots C s xs ys is = subst (BootsSame xs) (sym is) (revokes_same C s xs)

pub cleared_boots : (C : Config) (s : ℕ) (xs ys zs : List Own) → ys ≡ with_down s xs → zs ≡ with_revokes C s ys → BootsSame xs zs
cleared_boots C s xs ys zs down revokes = boots_on xs ys zs (subst (BootsSame xs) (sym down) (down_same s xs)) (revoked_boots C s ys zs revokes)

pub installed_boots : {T E : Type 0} (r : Result T E) (seed : List ℕ) (s k : ℕ) (places : List Place) (xs ys : List Own) → OnOk r (ys ≡ with_installs seed s k places xs) → OnErr r ((rest : List Place) × InstallsFirst seed s k places rest xs ys) → BootsSame xs ys
installed_boots (Ok x) seed s k places xs ys ok err = subst (BootsSame xs) (sym ok) (installs_same seed s k places xs)
installed_boots (Err e) seed s k places xs ys ok err = subst (BootsSame xs) (sym err.1.own_is) (installs_same seed s k err.1.done xs)

pub up_boots : (s k : ℕ) (xs ys : List Own) → ys ≡ own.Okd (okd.Up s k) ∷ xs → BootsSame xs ys
up_boots s k xs ys is = subst (BootsSame xs) (sym is) (λ t j. refl)
