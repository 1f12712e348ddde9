-- Installs, revokes and launches.
use Rattle.std.proofs.Common.{◌≡◌, ◌≢◌, ℕ, ◌+◌, ◌<◌, ◌≤◌, Bool, true, false, cond, List, [], ◌∷◌, Option, Some, None, refl, sym, arith, length, eqb-true, ◌==◌, get_or-set_same, get_or-set_other, le_refl, subst}
use Rattle.std.specs.Prelude.{slice_set}
use Rattle.std.proofs.lemmas.Bool.{eqb-false}
use Rattle.okws_base.specs.Past.{last_by, standing_by}
use Rattle.okws_base.specs.Runs.{Each}
use Rattle.okws_base.specs.declared.journal.Entry.{Entry}
use Rattle.token_core.specs.Token.{token_of}
use Rattle.okws_plan.specs.Configuration.{cols, all_places}
use Rattle.okws_plan.specs.declared.configuration.Config.{Config}
use Rattle.okws_plan.specs.declared.script.Place.{Place}
use Rattle.okws_plan.specs.declared.script.Place.TheVariants.{Proxy, Pubd, Oklogd}
use Rattle.okws_plan.specs.declared.event.ProxyEvent.{ProxyEvent}
use Rattle.okws_plan.specs.declared.event.ProxyEvent.TheVariants as proxy
use Rattle.okws_plan.specs.declared.event.PubdEvent.TheVariants as pubd
use Rattle.okws_plan.specs.declared.event.LogEvent.TheVariants as oklogd
use Rattle.monitor_model.specs.Standing.{proxy_grant, pubd_grant, log_grant, up_at_okd}
use Rattle.monitor_model.specs.Launcher.{begun}
use Rattle.monitor_model.specs.Cell.{incarnation, last_booted}
use Rattle.okws_plan.specs.Lines.{PlaceFits}
use Rattle.monitor_model.specs.Seen.{Seen, proxy_past}
use Rattle.monitor_model.specs.Stage.{Stage, Opened, stand, with_seen}
use Rattle.monitor_model.specs.Script.{entry, at_proxy, greatest, begins, installed, install_place, installed_all, revoked, revoke_place, stands_of, revoked_all, downed, down_okd, superseded, superseded_if, retired, booted, last_at, launched, launched_rest, taken_down, relaunched}
use Rattle.monitor_model.proofs.Lawful.Kept.{IsGood}
use Rattle.monitor_model.proofs.Lawful.Columns.{begun_next}
use Rattle.monitor_model.proofs.Lawful.Stages.{good_begins, good_proxy, good_pubd, good_log, good_upped, down_keeps, IsBootable, IsThere, superseded_is_shut, retired_is_empty, booted_is_there, retired_stage, is_just_some}
use Rattle.monitor_model.proofs.Lawful.Places.{Apart, AreApart, cols_fit, cols_apart, all_places_fit}

-- The greatest incarnation of s that was begun isn't installed at a column.
abbrev pub IsDue : ℕ → Seen → Place → Type 0
IsDue s J at = last_at s at J < begun J.launcher s

-- one install
pub good_installed : (C : Config) (seed : List ℕ) (s : ℕ) (at : Place) (S : Stage) → IsGood C seed S → PlaceFits C at → IsDue s S.seen at → IsGood C seed (installed seed s at S)
good_installed C seed s (Proxy p) S g fits due = good_proxy C seed p (proxy.Install s (greatest S s) (token_of seed s (greatest S s) p)) S g fits (λ none. (due, refl)) (le_refl (greatest S s))
good_installed C seed s Pubd S g fits due = good_pubd C seed (pubd.Install s (greatest S s)) S g due (le_refl (greatest S s))
good_installed C seed s Oklogd S g fits due = good_log C seed (oklogd.Install s (greatest S s)) S g due (le_refl (greatest S s))

bootable_installed : (C : Config) (seed : List ℕ) (s : ℕ) (at : Place) (S : Stage) → IsBootable C seed s S → PlaceFits C at → IsDue s S.seen at → IsBootable C seed s (installed seed s at S)
bootable_installed C seed s (Proxy p) S b fits due = record { good = good_installed C seed s (Proxy p) S b.good fits due; declared = b.declared; fresh = b.fresh }
bootable_installed C seed s Pubd S b fits due = record { good = good_installed C seed s Pubd S b.good fits due; declared = b.declared; fresh = b.fresh }
bootable_installed C seed s Oklogd S b fits due = record { good = good_installed C seed s Oklogd S b.good fits due; declared = b.declared; fresh = b.fresh }

-- an install leaves what is due elsewhere
due_elsewhere : (seed : List ℕ) (s k : ℕ) (at other : Place) (J : Seen) → Apart at other → IsDue s J other → IsDue s (install_place seed s k at J) other
due_elsewhere seed s k (Proxy p) (Proxy q) J apart due =
    let away : q ≢ p = (λ (is : q ≡ p). apart (sym is)) in
    rw (get_or-set_other J.proxies p q (entry (proxy.Install s k (token_of seed s k p)) ∷ proxy_past J.proxies p) [] away) due
due_elsewhere seed s k (Proxy p) Pubd J apart due = due
due_elsewhere seed s k (Proxy p) Oklogd J apart due = due
due_elsewhere seed s k Pubd (Proxy q) J apart due = due
due_elsewhere seed s k Pubd Pubd J apart due = absurd apart
due_elsewhere seed s k Pubd Oklogd J apart due = due
due_elsewhere seed s k Oklogd (Proxy q) J apart due = due
due_elsewhere seed s k Oklogd Pubd J apart due = due
due_elsewhere seed s k Oklogd Oklogd J apart due = absurd apart

all_due_elsewhere : (seed : List ℕ) (s k : ℕ) (at : Place) (others : List Place) (J : Seen) → Each (Apart at) others → Each (IsDue s J) others → Each (IsDue s (install_place seed s k at J)) others
all_due_elsewhere seed s k at [] J apart due = tt
all_due_elsewhere seed s k at (other ∷ more) J apart due = (due_elsewhere seed s k at other J apart.0 due.0, all_due_elsewhere seed s k at more J apart.1 due.1)

-- all installs
bootable_installed_all : (C : Config) (seed : List ℕ) (s : ℕ) (places : List Place) (S : Stage) → IsBootable C seed s S → Each (PlaceFits C) places → AreApart places → Each (IsDue s S.seen) places
    → IsBootable C seed s (installed_all seed s places S)
bootable_installed_all C seed s [] S b fits apart due = b
bootable_installed_all C seed s (at ∷ more) S b fits apart due =
    bootable_installed_all C seed s more (installed seed s at S) (bootable_installed C seed s at S b fits.0 due.0) fits.1 apart.1
    (all_due_elsewhere seed s (greatest S s) at more S.seen apart.0 due.1)

-- The greatest incarnation of s that was begun isn't installed anywhere.
pub record IsNew (s : ℕ) (J : Seen) : Type 0 where
  pub proxies : (p : ℕ) → last_by proxy_grant (proxy_past J.proxies p) s < begun J.launcher s
  pub pubd : last_by pubd_grant J.pubd s < begun J.launcher s
  pub oklogd : last_by log_grant J.oklogd s < begun J.launcher s

new_is_due : (s : ℕ) (J : Seen) → IsNew s J → (at : Place) → IsDue s J at
new_is_due s J n (Proxy p) = n.proxies p
new_is_due s J n Pubd = n.pubd
new_is_due s J n Oklogd = n.oklogd

new_is_due_all : (s : ℕ) (J : Seen) → IsNew s J → (places : List Place) → Each (IsDue s J) places
new_is_due_all s J n [] = tt
new_is_due_all s J n (at ∷ more) = (new_is_due s J n at, new_is_due_all s J n more)

-- A state in which s may be launched.
pub record IsLaunchable (C : Config) (seed : List ℕ) (s : ℕ) (S : Stage) : Type 0 where
  pub bootable : IsBootable C seed s S
  pub new : IsNew s S.seen

pub begins_is_launchable : (C : Config) (seed : List ℕ) (s : ℕ) (S : Stage) → IsGood C seed S → s < length C.services → IsLaunchable C seed s (begins s S)
begins_is_launchable C seed s S g declared =
    let next : greatest (begins s S) s ≡ greatest S s + 1 = begun_next S.seen.launcher s in
    record {
      bootable = record {
        good = good_begins C seed s S g;
        declared = rw g.stands_are declared;
        fresh = let kept : last_booted (stand S s).past ≤ greatest S s = (g.cells s).last in rw next (omega arith);
      };
      new = record {
        proxies = λ p. let kept : last_by proxy_grant (proxy_past S.seen.proxies p) s ≤ greatest S s = (g.seen.proxies p).last s in rw next (omega arith);
        pubd = let kept : last_by pubd_grant S.seen.pubd s ≤ greatest S s = g.seen.pubd.last s in rw next (omega arith);
        oklogd = let kept : last_by log_grant S.seen.oklogd s ≤ greatest S s = g.seen.oklogd.last s in rw next (omega arith);
      };
    }

pub installed_is_bootable : (C : Config) (seed : List ℕ) (s : ℕ) (S : Stage) → IsLaunchable C seed s S → IsBootable C seed s (installed_all seed s (cols C s) S)
installed_is_bootable C seed s S l = bootable_installed_all C seed s (cols C s) S l.bootable (cols_fit C s) (cols_apart C s) (new_is_due_all s S.seen l.new (cols C s))

launched_rest_is_good : (C : Config) (seed : List ℕ) (s : ℕ) (S : Stage) → IsLaunchable C seed s S → s < length C.services → IsGood C seed (launched_rest C seed s S)
launched_rest_is_good C seed s S l declared =
    let there : IsThere C seed s (booted s (installed_all seed s (cols C s) S)) = booted_is_there C seed s (installed_all seed s (cols C s) S) (installed_is_bootable C seed s S l) in
    good_upped C seed s (booted s (installed_all seed s (cols C s) S)) there.good declared there.there

pub good_launched : (C : Config) (seed : List ℕ) (s : ℕ) (S : Stage) → IsGood C seed S → s < length C.services → IsGood C seed (launched C seed s S)
good_launched C seed s S g declared = launched_rest_is_good C seed s (begins s S) (begins_is_launchable C seed s S g declared) declared

-- one revoke
past_at : (P : List (Entry ProxyEvent) → Type 0) (ps : List (List (Entry ProxyEvent))) (p q : ℕ) (now : List (Entry ProxyEvent)) → p < length ps → P now → P (proxy_past ps q)
    → (b : Bool) → (p == q) ≡ b → P (proxy_past (slice_set ps p now) q)
past_at P ps p q now declared here there true same = subst (λ (r : ℕ). P (proxy_past (slice_set ps p now) r)) (eqb-true p q same) (rw (get_or-set_same ps p now [] declared) here)
past_at P ps p q now declared here there false same =
    let away : q ≢ p = (λ (is : q ≡ p). eqb-false p q same (sym is)) in
    rw (get_or-set_other ps p q now [] away) there

revoke_keeps : (C : Config) (seed : List ℕ) (s : ℕ) (at : Place) (o : Option ℕ) (S : Stage) → stands_of s at S.seen ≡ o → IsGood C seed S → PlaceFits C at
    → IsGood C seed (with_seen S (revoke_place s at o S.seen))
revoke_keeps C seed s (Proxy p) None S is g fits = g
revoke_keeps C seed s Pubd None S is g fits = g
revoke_keeps C seed s Oklogd None S is g fits = g
revoke_keeps C seed s (Proxy p) (Some k) S is g fits =
    good_proxy C seed p (proxy.Revoke s k) S g fits (λ none. is_just_some k (standing_by proxy_grant (proxy_past S.seen.proxies p) s) is) tt
revoke_keeps C seed s Pubd (Some k) S is g fits = good_pubd C seed (pubd.Revoke s k) S g (is_just_some k (standing_by pubd_grant S.seen.pubd s) is) tt
revoke_keeps C seed s Oklogd (Some k) S is g fits = good_log C seed (oklogd.Revoke s k) S g (is_just_some k (standing_by log_grant S.seen.oklogd s) is) tt

pub good_revoked : (C : Config) (seed : List ℕ) (s : ℕ) (at : Place) (S : Stage) → IsGood C seed S → PlaceFits C at → IsGood C seed (revoked s at S)
good_revoked C seed s at S g fits = revoke_keeps C seed s at (stands_of s at S.seen) S refl g fits

-- a revoke leaves what is new
new_revoked : (s k p : ℕ) (J : Seen) → p < length J.proxies → IsNew s J → IsNew s (at_proxy p (proxy.Revoke s k) J)
new_revoked s k p J declared n = record {
  proxies = λ q. past_at (λ (past : List (Entry ProxyEvent)). last_by proxy_grant past s < begun J.launcher s) J.proxies p q (entry (proxy.Revoke s k) ∷ proxy_past J.proxies p)
      declared (n.proxies p) (n.proxies q) (p == q) refl;
  pubd = n.pubd;
  oklogd = n.oklogd;
}

new_revoke : (C : Config) (seed : List ℕ) (s : ℕ) (at : Place) (o : Option ℕ) (S : Stage) → IsGood C seed S → PlaceFits C at → IsNew s S.seen → IsNew s (revoke_place s at o S.seen)
new_revoke C seed s (Proxy p) None S g fits n = n
new_revoke C seed s Pubd None S g fits n = n
new_revoke C seed s Oklogd None S g fits n = n
new_revoke C seed s (Proxy p) (Some k) S g fits n = new_revoked s k p S.seen (rw g.seen.proxies_are fits) n
new_revoke C seed s Pubd (Some k) S g fits n = record { proxies = n.proxies; pubd = n.pubd; oklogd = n.oklogd }
new_revoke C seed s Oklogd (Some k) S g fits n = record { proxies = n.proxies; pubd = n.pubd; oklogd = n.oklogd }

pub greatest_revoke : (s : ℕ) (at : Place) (o : Option ℕ) (J : Seen) → (revoke_place s at o J).launcher ≡ J.launcher
greatest_revoke s (Proxy p) None J = refl
greatest_revoke s Pubd None J = refl
greatest_revoke s Oklogd None J = refl
greatest_revoke s (Proxy p) (Some k) J = refl
greatest_revoke s Pubd (Some k) J = refl
greatest_revoke s Oklogd (Some k) J = refl

launchable_revoked : (C : Config) (seed : List ℕ) (s : ℕ) (at : Place) (S : Stage) → IsLaunchable C seed s S → PlaceFits C at → IsLaunchable C seed s (revoked s at S)
launchable_revoked C seed s at S l fits = record {
  bootable = record {
    good = good_revoked C seed s at S l.bootable.good fits;
    declared = l.bootable.declared;
    fresh = rw (greatest_revoke s at (stands_of s at S.seen) S.seen) l.bootable.fresh;
  };
  new = new_revoke C seed s at (stands_of s at S.seen) S l.bootable.good fits l.new;
}

launchable_revoked_all : (C : Config) (seed : List ℕ) (s : ℕ) (places : List Place) (S : Stage) → IsLaunchable C seed s S → Each (PlaceFits C) places → IsLaunchable C seed s (revoked_all s places S)
launchable_revoked_all C seed s [] S l fits = l
launchable_revoked_all C seed s (at ∷ more) S l fits = launchable_revoked_all C seed s more (revoked s at S) (launchable_revoked C seed s at S l fits.0) fits.1

-- a Down leaves what is new
launchable_down : (C : Config) (seed : List ℕ) (s : ℕ) (o : Option ℕ) (S : Stage) → up_at_okd S.seen.okd s ≡ o → IsLaunchable C seed s S → IsLaunchable C seed s (with_seen S (down_okd s o S.seen))
launchable_down C seed s None S is l = l
launchable_down C seed s (Some k) S is l = record {
  bootable = record { good = down_keeps C seed s (Some k) S is l.bootable.good; declared = l.bootable.declared; fresh = l.bootable.fresh };
  new = record { proxies = l.new.proxies; pubd = l.new.pubd; oklogd = l.new.oklogd };
}

-- a cell that is emptied leaves what is new
new_superseded : (s : ℕ) (o : Option Opened) (S : Stage) → IsNew s S.seen → IsNew s (superseded_if s o S).seen
new_superseded s None S n = n
new_superseded s (Some opened) S n = n

new_retired : (s : ℕ) (S : Stage) (b : Bool) → IsNew s S.seen → IsNew s (cond b S (retired_stage s S)).seen
new_retired s S true n = n
new_retired s S false n = record { proxies = n.proxies; pubd = n.pubd; oklogd = n.oklogd }

launchable_emptied : (C : Config) (seed : List ℕ) (s : ℕ) (S : Stage) → IsLaunchable C seed s S → IsLaunchable C seed s (retired s (superseded s S))
launchable_emptied C seed s S l = record {
  bootable = (retired_is_empty C seed s (superseded s S) (superseded_is_shut C seed s S l.bootable)).bootable;
  new = new_retired s (superseded s S) (incarnation (stand (superseded s S) s).past == 0) (new_superseded s (stand S s).open_dialog S l.new);
}

pub revoked_is_launchable : (C : Config) (seed : List ℕ) (s : ℕ) (S : Stage) → IsGood C seed S → s < length C.services
    → IsLaunchable C seed s (revoked_all s (all_places C) (downed s (begins s S)))
revoked_is_launchable C seed s S g declared =
    let begun_there : IsLaunchable C seed s (begins s S) = begins_is_launchable C seed s S g declared in
    let down_there : IsLaunchable C seed s (downed s (begins s S)) = launchable_down C seed s (up_at_okd S.seen.okd s) (begins s S) refl begun_there in
    launchable_revoked_all C seed s (all_places C) (downed s (begins s S)) down_there (all_places_fit C)

pub taken_down_is_launchable : (C : Config) (seed : List ℕ) (s : ℕ) (S : Stage) → IsGood C seed S → s < length C.services → IsLaunchable C seed s (taken_down C s S)
taken_down_is_launchable C seed s S g declared = launchable_emptied C seed s (revoked_all s (all_places C) (downed s (begins s S))) (revoked_is_launchable C seed s S g declared)

pub good_relaunched : (C : Config) (seed : List ℕ) (s : ℕ) (S : Stage) → IsGood C seed S → s < length C.services → IsGood C seed (relaunched C seed s S)
good_relaunched C seed s S g declared = launched_rest_is_good C seed s (taken_down C s S) (taken_down_is_launchable C seed s S g declared) declared
