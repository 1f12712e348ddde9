-- What each step adds to the launcher's list.
use Rattle.std.proofs.Common.{◌≡◌, ◌∙◌, ℕ, zero, suc, ◌+◌, ◌<◌, ◌≤◌, Bool, true, false, List, [], ◌∷◌, ◌++◌, Option, Some, None, length, refl, sym, ap, subst, arith, get_or-set_same, get_or-set_other, append-nil}
use Rattle.std.specs.Prelude.{filter, filter_map, map, slice_set, if◌then◌else◌}
use Rattle.std.proofs.lemmas.List.{append_assoc}
use mathlib.Core.Logic.{dite}
use native.Mathlib.Decide.{ℕ_discrete}
use Rattle.okws_base.specs.Past.{Grant, standing_by, standing_after}
use Rattle.okws_base.specs.declared.journal.Entry.{Entry}
use Rattle.okws_plan.specs.Configuration.{grants_at, numbered_from, proxies_of}
use Rattle.okws_plan.specs.declared.configuration.Config.{Config}
use Rattle.okws_plan.specs.declared.event.OkdEvent.{OkdEvent}
use Rattle.okws_plan.specs.declared.event.ProxyEvent.{ProxyEvent}
use Rattle.okws_plan.specs.declared.event.PubdEvent.{PubdEvent}
use Rattle.okws_plan.specs.declared.event.LogEvent.{LogEvent}
use Rattle.okws_plan.specs.declared.script.Place.{Place}
use Rattle.okws_plan.specs.declared.script.Place.TheVariants.{Proxy}
use Rattle.monitor_model.specs.declared.record.Own.{Own}
use Rattle.monitor_model.specs.declared.record.Own.TheVariants as own
use Rattle.monitor_model.specs.Launches.{standing_in, with_standing, with_revokes_from, install_at, with_installs}
use Rattle.monitor_model.specs.Merged.{proxy_item}
use Rattle.monitor_model.specs.Seen.{proxy_past}
use Rattle.monitor_model.specs.Standing.{okd_grant, proxy_grant, pubd_grant, log_grant}
use Rattle.site_locks.specs.Made.{fresh}
use Rattle.site_locks.specs.Sat.{Sat}
use Rattle.site_locks.specs.Steps.{EntersOkd, SeesOkd, EntersProxy, SeesProxy, EntersPubd, SeesPubd, EntersLog, SeesLog}
use Rattle.named_columns.specs.Turns.{Stays}
use Rattle.launch_crew.specs.Listed.{StandsByOwn, with_revoke_at, with_install_if, InstallsFirst}
use Rattle.launch_crew.proofs.Owns.{item_here, item_there, no_past}

-- ---- what stands by the items

module _ (s t : Sat) (items : List Own) (a : StandsByOwn s items) where
  pub stand_okd : (e : OkdEvent) (before : List (Entry OkdEvent)) → Stays okd_grant s.okd before → EntersOkd e before s t → StandsByOwn t (own.Okd e ∷ items)
  stand_okd e before stays h = subst (λ (x : Sat). StandsByOwn x (own.Okd e ∷ items)) (sym h.is) (record {
    okd = λ u. ap (standing_after (okd_grant e) u) (stays.standing u ∙ a.okd u);
    proxies = a.proxies;
    pubd = a.pubd;
    oklogd = a.oklogd;
  })

  pub stand_pubd : (e : PubdEvent) (before : List (Entry PubdEvent)) → Stays pubd_grant s.pubd before → EntersPubd e before s t → StandsByOwn t (own.Pubd e ∷ items)
  stand_pubd e before stays h = subst (λ (x : Sat). StandsByOwn x (own.Pubd e ∷ items)) (sym h.is) (record {
    okd = a.okd;
    proxies = a.proxies;
    pubd = λ u. ap (standing_after (pubd_grant e) u) (stays.standing u ∙ a.pubd u);
    oklogd = a.oklogd;
  })

  pub stand_log : (e : LogEvent) (before : List (Entry LogEvent)) → Stays log_grant s.oklogd before → EntersLog e before s t → StandsByOwn t (own.Oklogd e ∷ items)
  stand_log e before stays h = subst (λ (x : Sat). StandsByOwn x (own.Oklogd e ∷ items)) (sym h.is) (record {
    okd = a.okd;
    proxies = a.proxies;
    pubd = a.pubd;
    oklogd = λ u. ap (standing_after (log_grant e) u) (stays.standing u ∙ a.oklogd u);
  })

  pub stand_saw_okd : (before : List (Entry OkdEvent)) → Stays okd_grant s.okd before → SeesOkd before s t → StandsByOwn t items
  stand_saw_okd before stays h = subst (λ (x : Sat). StandsByOwn x items) (sym h.is) (record { okd = λ u. stays.standing u ∙ a.okd u; proxies = a.proxies; pubd = a.pubd; oklogd = a.oklogd })

  pub stand_saw_pubd : (before : List (Entry PubdEvent)) → Stays pubd_grant s.pubd before → SeesPubd before s t → StandsByOwn t items
  stand_saw_pubd before stays h = subst (λ (x : Sat). StandsByOwn x items) (sym h.is) (record { okd = a.okd; proxies = a.proxies; pubd = λ u. stays.standing u ∙ a.pubd u; oklogd = a.oklogd })

  pub stand_saw_log : (before : List (Entry LogEvent)) → Stays log_grant s.oklogd before → SeesLog before s t → StandsByOwn t items
  stand_saw_log before stays h = subst (λ (x : Sat). StandsByOwn x items) (sym h.is) (record { okd = a.okd; proxies = a.proxies; pubd = a.pubd; oklogd = λ u. stays.standing u ∙ a.oklogd u })

-- the proxies
module _ (p : ℕ) (ps : List (List (Entry ProxyEvent))) (K : List (Entry ProxyEvent)) (items : List Own) (within : p < length ps) (rest : (q u : ℕ) → standing_by proxy_grant (proxy_past ps q) u ≡ standing_in proxy_grant (filter_map (proxy_item q) items) u) where
  row_enters : (e : ProxyEvent) → ((u : ℕ) → standing_by proxy_grant K u ≡ standing_in proxy_grant (e ∷ filter_map (proxy_item p) items) u)
      → (q u : ℕ) → standing_by proxy_grant (proxy_past (slice_set ps p K) q) u ≡ standing_in proxy_grant (filter_map (proxy_item q) (own.Proxy p e ∷ items)) u
  row_enters e here q u = dite (ℕ_discrete q p)
      (λ is. subst (λ m. standing_by proxy_grant (proxy_past (slice_set ps p K) m) u ≡ standing_in proxy_grant (filter_map (proxy_item m) (own.Proxy p e ∷ items)) u) (sym is)
      (ap (λ (J : List (Entry ProxyEvent)). standing_by proxy_grant J u) (get_or-set_same ps p K [] within) ∙ (here u ∙ ap (λ (es : List ProxyEvent). standing_in proxy_grant es u) (sym (item_here p e items)))))
      (λ apart. ap (λ (J : List (Entry ProxyEvent)). standing_by proxy_grant J u) (get_or-set_other ps p q K [] apart) ∙ (rest q u ∙ ap (λ (es : List ProxyEvent). standing_in proxy_grant es u) (sym (item_there p q e items apart))))

  row_sees : ((u : ℕ) → standing_by proxy_grant K u ≡ standing_in proxy_grant (filter_map (proxy_item p) items) u)
      → (q u : ℕ) → standing_by proxy_grant (proxy_past (slice_set ps p K) q) u ≡ standing_in proxy_grant (filter_map (proxy_item q) items) u
  row_sees here q u = dite (ℕ_discrete q p)
      (λ is. subst (λ m. standing_by proxy_grant (proxy_past (slice_set ps p K) m) u ≡ standing_in proxy_grant (filter_map (proxy_item m) items) u) (sym is)
      (ap (λ (J : List (Entry ProxyEvent)). standing_by proxy_grant J u) (get_or-set_same ps p K [] within) ∙ here u))
      (λ apart. ap (λ (J : List (Entry ProxyEvent)). standing_by proxy_grant J u) (get_or-set_other ps p q K [] apart) ∙ rest q u)

module _ (p : ℕ) (s t : Sat) (items : List Own) (within : p < length s.proxies) (a : StandsByOwn s items) where
  pub stand_proxy : (e : ProxyEvent) (before : List (Entry ProxyEvent)) → Stays proxy_grant (proxy_past s.proxies p) before → EntersProxy p e before s t → StandsByOwn t (own.Proxy p e ∷ items)
  stand_proxy e before stays h = subst (λ (x : Sat). StandsByOwn x (own.Proxy p e ∷ items)) (sym h.is) (record {
    okd = a.okd;
    proxies = row_enters p s.proxies (record { worker = s.number; event = e } ∷ before) items within a.proxies e (λ u. ap (standing_after (proxy_grant e) u) (stays.standing u ∙ a.proxies p u));
    pubd = a.pubd;
    oklogd = a.oklogd;
  })

  pub stand_saw_proxy : (before : List (Entry ProxyEvent)) → Stays proxy_grant (proxy_past s.proxies p) before → SeesProxy p before s t → StandsByOwn t items
  stand_saw_proxy before stays h = subst (λ (x : Sat). StandsByOwn x items) (sym h.is) (record {
    okd = a.okd;
    proxies = row_sees p s.proxies before items within a.proxies (λ u. stays.standing u ∙ a.proxies p u);
    pubd = a.pubd;
    oklogd = a.oklogd;
  })

-- at the cells nothing stands
pub stand_boot : (u k : ℕ) (s : Sat) (items : List Own) → StandsByOwn s items → StandsByOwn s (own.Boot u k ∷ items)
stand_boot u k s items a = record { okd = a.okd; proxies = a.proxies; pubd = a.pubd; oklogd = a.oklogd }

pub stand_retired : (u : ℕ) (s : Sat) (items : List Own) → StandsByOwn s items → StandsByOwn s (own.Retired u ∷ items)
stand_retired u s items a = record { okd = a.okd; proxies = a.proxies; pubd = a.pubd; oklogd = a.oklogd }

pub stand_board : (s : Sat) (xs : List ℕ) (items : List Own) → StandsByOwn s items → StandsByOwn (record s { board = xs }) items
stand_board s xs items a = record { okd = a.okd; proxies = a.proxies; pubd = a.pubd; oklogd = a.oklogd }

pub stand_none : (m n : ℕ) → StandsByOwn (fresh m n) []
stand_none m n = record {
  okd = λ t. refl;
  proxies = λ p t. ap (λ (J : List (Entry ProxyEvent)). standing_by proxy_grant J t) (no_past m p);
  pubd = λ t. refl;
  oklogd = λ t. refl;
}

-- ---- what was found to stand is what stands by the items

pub stood : {E : Type 0} (grant : E → Grant) (s : ℕ) (J before : List (Entry E)) (o found : Option ℕ) → Stays grant J before → standing_by grant J s ≡ o → found ≡ standing_by grant before s → found ≡ o
stood grant s J before o found stays is was = was ∙ (stays.standing s ∙ is)

pub ends_some : (item : ℕ → Own) (k : ℕ) (o found : Option ℕ) (items new : List Own) → found ≡ o → found ≡ Some k → new ≡ item k ∷ items → new ≡ with_standing item o items
ends_some item k o found items new is some e = e ∙ ap (λ (x : Option ℕ). with_standing item x items) (sym some ∙ is)

pub ends_none : (item : ℕ → Own) (o found : Option ℕ) (items new : List Own) → found ≡ o → found ≡ None → new ≡ items → new ≡ with_standing item o items
ends_none item o found items new is none e = e ∙ ap (λ (x : Option ℕ). with_standing item x items) (sym none ∙ is)

-- ---- one proxy after the other

-- of n proxies some were revoked at; this is what comes of the rest
pub record Revoking (s p n : ℕ) (old now : List Own) : Type 0 where
  pub left : ℕ
  pub left_is : p + left ≡ n
  pub own_is : with_revokes_from s p left now ≡ with_revokes_from s 0 n old

pub revoking_none : (s n : ℕ) (old : List Own) → Revoking s 0 n old old
revoking_none s n old = record { left = n; left_is = omega arith; own_is = refl }

none_left : (p n : ℕ) → p + 0 ≡ n → p < n → ⊥
none_left p n is less = omega (arith, is, less)

one_on : (p m n : ℕ) → p + suc m ≡ n → suc p + m ≡ n
one_on p m n is = omega (arith, is)

suc_is : (p : ℕ) → suc p ≡ p + 1
suc_is p = omega arith

pub revoking_on : (s p n : ℕ) (old now new : List Own) → p < n → Revoking s p n old now → new ≡ with_revoke_at s p now → Revoking s (p + 1) n old new
revoking_on s p n old now new less h is = on h.left h.left_is h.own_is
  where
    on : (m : ℕ) → p + m ≡ n → with_revokes_from s p m now ≡ with_revokes_from s 0 n old → Revoking s (p + 1) n old new
    on zero left_is own_is = absurd (none_left p n left_is less)
    on (suc m) left_is own_is = subst (λ q. Revoking s q n old new) (suc_is p)
        (record { left = m; left_is = one_on p m n left_is; own_is = ap (with_revokes_from s (suc p) m) is ∙ own_is })

all_on : (p m n : ℕ) → p + m ≡ n → n ≤ p → m ≡ 0
all_on p m n is least = omega (arith, is, least)

pub revoking_all : (s p n : ℕ) (old now : List Own) → n ≤ p → Revoking s p n old now → now ≡ with_revokes_from s 0 n old
revoking_all s p n old now least h = subst (λ m. with_revokes_from s p m now ≡ with_revokes_from s 0 n old) (all_on p h.left n h.left_is least) h.own_is

-- ---- the Installs

-- the proxies of s from p on, of m
abbrev pub places_from : Config → ℕ → ℕ → ℕ → List Place
places_from C s p m = map Proxy (filter (λ q. grants_at C s q) (numbered_from p m))

-- of the proxies of s those below p were gone through
pub record Installing (C : Config) (seed : List ℕ) (s k p : ℕ) (old now : List Own) : Type 0 where
  pub left : ℕ
  pub left_is : p + left ≡ length C.proxies
  pub first : InstallsFirst seed s k (map Proxy (proxies_of C s)) (places_from C s p left) old now

pub installing_none : (C : Config) (seed : List ℕ) (s k : ℕ) (old : List Own) → Installing C seed s k 0 old old
installing_none C seed s k old = record { left = length C.proxies; left_is = omega arith; first = record { done = []; places_are = refl; own_is = refl } }

pub installs_append : (seed : List ℕ) (s k : ℕ) (xs ys : List Place) (items : List Own) → with_installs seed s k (xs ++ ys) items ≡ with_installs seed s k ys (with_installs seed s k xs items)
installs_append seed s k [] ys items = refl
installs_append seed s k (x ∷ xs) ys items = installs_append seed s k xs ys (install_at seed s k x ∷ items)

module _ (C : Config) (seed : List ℕ) (s k p : ℕ) (places : List Place) (old now new : List Own) (m : ℕ) where
  first_on : (b : Bool) → grants_at C s p ≡ b → new ≡ with_install_if b seed s k (Proxy p) now → InstallsFirst seed s k places (places_from C s p (suc m)) old now → InstallsFirst seed s k places (places_from C s (p + 1) m) old new
  first_on true granted is h = record {
    done = h.done ++ Proxy p ∷ [];
    places_are = h.places_are
        ∙ (ap (λ (b : Bool). h.done ++ map Proxy (if b then p ∷ filter (λ q. grants_at C s q) (numbered_from (p + 1) m) else filter (λ q. grants_at C s q) (numbered_from (p + 1) m))) granted
        ∙ sym (append_assoc h.done (Proxy p ∷ []) (places_from C s (p + 1) m)));
    own_is = is ∙ (ap (λ (xs : List Own). install_at seed s k (Proxy p) ∷ xs) h.own_is ∙ sym (installs_append seed s k h.done (Proxy p ∷ []) old));
  }
  first_on false granted is h = record {
    done = h.done;
    places_are = h.places_are
        ∙ ap (λ (b : Bool). h.done ++ map Proxy (if b then p ∷ filter (λ q. grants_at C s q) (numbered_from (p + 1) m) else filter (λ q. grants_at C s q) (numbered_from (p + 1) m))) granted;
    own_is = is ∙ h.own_is;
  }

one_further : (p m n : ℕ) → p + suc m ≡ n → (p + 1) + m ≡ n
one_further p m n is = omega (arith, is)

pub installing_on : (C : Config) (seed : List ℕ) (s k p : ℕ) (old now new : List Own) → p < length C.proxies → Installing C seed s k p old now → new ≡ with_install_if (grants_at C s p) seed s k (Proxy p) now → Installing C seed s k (p + 1) old new
installing_on C seed s k p old now new less h is = on h.left h.left_is h.first
  where
    on : (m : ℕ) → p + m ≡ length C.proxies → InstallsFirst seed s k (map Proxy (proxies_of C s)) (places_from C s p m) old now → Installing C seed s k (p + 1) old new
    on zero left_is first = absurd (none_left p (length C.proxies) left_is less)
    on (suc m) left_is first = record { left = m; left_is = one_further p m (length C.proxies) left_is; first = first_on C seed s k p (map Proxy (proxies_of C s)) old now new m (grants_at C s p) refl is first }

pub installing_all : (C : Config) (seed : List ℕ) (s k p : ℕ) (old now : List Own) → length C.proxies ≤ p → Installing C seed s k p old now → now ≡ with_installs seed s k (map Proxy (proxies_of C s)) old
installing_all C seed s k p old now least h =
    let none : h.left ≡ 0 = all_on p h.left (length C.proxies) h.left_is least in
    let all : map Proxy (proxies_of C s) ≡ h.first.done = h.first.places_are ∙ (ap (λ m. h.first.done ++ places_from C s p m) none ∙ append-nil h.first.done) in
    h.first.own_is ∙ ap (λ (xs : List Place). with_installs seed s k xs old) (sym all)

pub first_none : (seed : List ℕ) (s k : ℕ) (places : List Place) (old new : List Own) → new ≡ old → InstallsFirst seed s k places places old new
first_none seed s k places old new is = record { done = []; places_are = refl; own_is = is }

pub first_kept : (seed : List ℕ) (s k : ℕ) (places rest : List Place) (old now new : List Own) → new ≡ now → InstallsFirst seed s k places rest old now → InstallsFirst seed s k places rest old new
first_kept seed s k places rest old now new is h = record { done = h.done; places_are = h.places_are; own_is = is ∙ h.own_is }

-- what was done of some columns, before others
pub first_before : (seed : List ℕ) (s k : ℕ) (xs rest ys : List Place) (old new : List Own) → InstallsFirst seed s k xs rest old new → InstallsFirst seed s k (xs ++ ys) (rest ++ ys) old new
first_before seed s k xs rest ys old new h = record {
  done = h.done;
  places_are = ap (λ (zs : List Place). zs ++ ys) h.places_are ∙ append_assoc h.done rest ys;
  own_is = h.own_is;
}

-- and of these, behind others that were all done
pub first_behind : (seed : List ℕ) (s k : ℕ) (xs ys rest : List Place) (old now new : List Own) → now ≡ with_installs seed s k xs old → InstallsFirst seed s k ys rest now new → InstallsFirst seed s k (xs ++ ys) rest old new
first_behind seed s k xs ys rest old now new all h = record {
  done = xs ++ h.done;
  places_are = ap (λ (zs : List Place). xs ++ zs) h.places_are ∙ sym (append_assoc xs h.done rest);
  own_is = h.own_is ∙ (ap (with_installs seed s k h.done) all ∙ sym (installs_append seed s k xs h.done old));
}

pub all_behind : (seed : List ℕ) (s k : ℕ) (xs ys : List Place) (old now new : List Own) → now ≡ with_installs seed s k xs old → new ≡ with_installs seed s k ys now → new ≡ with_installs seed s k (xs ++ ys) old
all_behind seed s k xs ys old now new all is = is ∙ (ap (with_installs seed s k ys) all ∙ sym (installs_append seed s k xs ys old))
