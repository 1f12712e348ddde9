-- What two stages have in common whose runs differ in frames 0B alone: all but the entries of dialogs, and what was heard.
use Rattle.std.proofs.Common.{◌≡◌, ℕ, zero, suc, Bool, true, false, cond, List, [], ◌∷◌, Option, Some, None, refl, sym, ap, ◌∙◌, get_or, ◌==◌}
use Rattle.std.specs.Prelude.{slice_set}
use Rattle.okws_base.specs.Past.{Grant, Leaves, standing_by, standing_after, last_by, last_after}
use Rattle.okws_base.specs.declared.journal.Entry.{Entry}
use Rattle.okws_plan.specs.declared.event.OkdEvent.{OkdEvent}
use Rattle.okws_plan.specs.declared.event.ProxyEvent.{ProxyEvent}
use Rattle.okws_plan.specs.declared.event.PubdEvent.{PubdEvent}
use Rattle.okws_plan.specs.declared.event.LogEvent.{LogEvent}
use Rattle.okws_plan.specs.declared.event.LauncherEvent.{LauncherEvent}
use Rattle.monitor_model.specs.declared.record.Own.{Own}
use Rattle.monitor_model.specs.Standing.{proxy_grant, pubd_grant, log_grant}
use Rattle.monitor_model.specs.Pubd.{edition, edition_after}
use Rattle.monitor_model.specs.Cell.{incarnation, last_booted}
use Rattle.monitor_model.specs.Course.{said_count}
use Rattle.monitor_model.specs.Seen.{Seen, proxy_past, noted}
use Rattle.monitor_model.specs.Stage.{Stage, Stand, Opened, empty_stand, stand, with_stand, with_seen}
use Rattle.monitor_model.specs.Script.{entry, at_okd, at_proxy, at_pubd, at_log, at_launcher, settled}

-- Two lists are as long, and stand so item by item.
abbrev pub Pairs : {A : Type 0} → (A → A → Type 0) → List A → List A → Type 0
Pairs R [] [] = Unit {0}
Pairs R (x ∷ xs) (y ∷ ys) = R x y × Pairs R xs ys
Pairs R [] (y ∷ ys) = ⊥
Pairs R (x ∷ xs) [] = ⊥

pairs_get : {A : Type 0} (R : A → A → Type 0) (xs ys : List A) (i : ℕ) (d : A) → R d d → Pairs R xs ys → R (get_or xs i d) (get_or ys i d)
pairs_get R [] [] i d same all = same
pairs_get R (x ∷ xs) (y ∷ ys) zero d same all = all.0
pairs_get R (x ∷ xs) (y ∷ ys) (suc i) d same all = pairs_get R xs ys i d same all.1
pairs_get R [] (y ∷ ys) i d same all = absurd all
pairs_get R (x ∷ xs) [] i d same all = absurd all

pairs_set : {A : Type 0} (R : A → A → Type 0) (xs ys : List A) (i : ℕ) (x y : A) → R x y → Pairs R xs ys → Pairs R (slice_set xs i x) (slice_set ys i y)
pairs_set R [] [] i a b here all = tt
pairs_set R (x ∷ xs) (y ∷ ys) zero a b here all = (here, all.1)
pairs_set R (x ∷ xs) (y ∷ ys) (suc i) a b here all = (all.0, pairs_set R xs ys i a b here all.1)
pairs_set R [] (y ∷ ys) i a b here all = absurd all
pairs_set R (x ∷ xs) [] i a b here all = absurd all

pub pairs_itself : {A : Type 0} (R : A → A → Type 0) (xs : List A) → ((x : A) → R x x) → Pairs R xs xs
pairs_itself R [] same = tt
pairs_itself R (x ∷ xs) same = (same x, pairs_itself R xs same)

-- the item at a place is another that stands so to it
pairs_put : {A : Type 0} (R : A → A → Type 0) (xs : List A) (i : ℕ) (a d : A) → ((x : A) → R x x) → R (get_or xs i d) a → Pairs R xs (slice_set xs i a)
pairs_put R [] i a d same here = tt
pairs_put R (x ∷ xs) zero a d same here = (here, pairs_itself R xs same)
pairs_put R (x ∷ xs) (suc i) a d same here = (same x, pairs_put R xs i a d same here)

pairs_sym : {A : Type 0} (R : A → A → Type 0) (xs ys : List A) → ((x y : A) → R x y → R y x) → Pairs R xs ys → Pairs R ys xs
pairs_sym R [] [] turn all = tt
pairs_sym R (x ∷ xs) (y ∷ ys) turn all = (turn x y all.0, pairs_sym R xs ys turn all.1)
pairs_sym R [] (y ∷ ys) turn all = absurd all
pairs_sym R (x ∷ xs) [] turn all = absurd all

pairs_trans : {A : Type 0} (R : A → A → Type 0) (xs ys zs : List A) → ((x y z : A) → R x y → R y z → R x z) → Pairs R xs ys → Pairs R ys zs → Pairs R xs zs
pairs_trans R [] [] [] join one two = tt
pairs_trans R (x ∷ xs) (y ∷ ys) (z ∷ zs) join one two = (join x y z one.0 two.0, pairs_trans R xs ys zs join one.1 two.1)
pairs_trans R [] (y ∷ ys) zs join one two = absurd one
pairs_trans R (x ∷ xs) [] zs join one two = absurd one
pairs_trans R [] [] (z ∷ zs) join one two = absurd two
pairs_trans R (x ∷ xs) (y ∷ ys) [] join one two = absurd two

-- The same stands at a column, and the same was installed last.
pub record SameGrants {E : Type 0} (grant : E → Grant) (J K : List (Entry E)) : Type 0 where
  pub standing : (s : ℕ) → standing_by grant J s ≡ standing_by grant K s
  pub last : (s : ℕ) → last_by grant J s ≡ last_by grant K s

pub grants_itself : {E : Type 0} (grant : E → Grant) (J : List (Entry E)) → SameGrants grant J J
grants_itself grant J = record { standing = λ s. refl; last = λ s. refl }

grants_sym : {E : Type 0} (grant : E → Grant) (J K : List (Entry E)) → SameGrants grant J K → SameGrants grant K J
grants_sym grant J K a = record { standing = λ s. sym (a.standing s); last = λ s. sym (a.last s) }

grants_trans : {E : Type 0} (grant : E → Grant) (J K L : List (Entry E)) → SameGrants grant J K → SameGrants grant K L → SameGrants grant J L
grants_trans grant J K L a b = record { standing = λ s. a.standing s ∙ b.standing s; last = λ s. a.last s ∙ b.last s }

grants_more : {E : Type 0} (grant : E → Grant) (e : Entry E) (J K : List (Entry E)) → SameGrants grant J K → SameGrants grant (e ∷ J) (e ∷ K)
grants_more grant e J K a = record {
  standing = λ s. ap (standing_after (grant e.event) s) (a.standing s);
  last = λ s. ap (last_after (grant e.event) s) (a.last s);
}

grants_quiet : {E : Type 0} (grant : E → Grant) (e : Entry E) (J : List (Entry E)) → grant e.event ≡ Leaves → SameGrants grant J (e ∷ J)
grants_quiet grant e J quiet = record {
  standing = λ s. ap (λ (g : Grant). standing_after g s (standing_by grant J s)) (sym quiet);
  last = λ s. ap (λ (g : Grant). last_after g s (last_by grant J s)) (sym quiet);
}

-- Two that saw the same but for the entries of dialogs.
pub record AlikeSeen (J K : Seen) : Type 0 where
  pub okd : J.okd ≡ K.okd
  pub launcher : J.launcher ≡ K.launcher
  pub proxies : Pairs (SameGrants proxy_grant) J.proxies K.proxies
  pub pubd : SameGrants pubd_grant J.pubd K.pubd
  pub editions : (t : ℕ) → edition J.pubd t ≡ edition K.pubd t
  pub oklogd : SameGrants log_grant J.oklogd K.oklogd

pub seen_itself : (J : Seen) → AlikeSeen J J
seen_itself J = record {
  okd = refl;
  launcher = refl;
  proxies = pairs_itself (SameGrants proxy_grant) J.proxies (grants_itself proxy_grant);
  pubd = grants_itself pubd_grant J.pubd;
  editions = λ t. refl;
  oklogd = grants_itself log_grant J.oklogd;
}

pub seen_sym : (J K : Seen) → AlikeSeen J K → AlikeSeen K J
seen_sym J K a = record {
  okd = sym a.okd;
  launcher = sym a.launcher;
  proxies = pairs_sym (SameGrants proxy_grant) J.proxies K.proxies (grants_sym proxy_grant) a.proxies;
  pubd = grants_sym pubd_grant J.pubd K.pubd a.pubd;
  editions = λ t. sym (a.editions t);
  oklogd = grants_sym log_grant J.oklogd K.oklogd a.oklogd;
}

pub seen_trans : (J K L : Seen) → AlikeSeen J K → AlikeSeen K L → AlikeSeen J L
seen_trans J K L a b = record {
  okd = a.okd ∙ b.okd;
  launcher = a.launcher ∙ b.launcher;
  proxies = pairs_trans (SameGrants proxy_grant) J.proxies K.proxies L.proxies (grants_trans proxy_grant) a.proxies b.proxies;
  pubd = grants_trans pubd_grant J.pubd K.pubd L.pubd a.pubd b.pubd;
  editions = λ t. a.editions t ∙ b.editions t;
  oklogd = grants_trans log_grant J.oklogd K.oklogd L.oklogd a.oklogd b.oklogd;
}

pub proxy_alike : (p : ℕ) (J K : Seen) → AlikeSeen J K → SameGrants proxy_grant (proxy_past J.proxies p) (proxy_past K.proxies p)
proxy_alike p J K a = pairs_get (SameGrants proxy_grant) J.proxies K.proxies p [] (grants_itself proxy_grant []) a.proxies

-- the same entry on both
pub okd_more : (e f : OkdEvent) (J K : Seen) → e ≡ f → AlikeSeen J K → AlikeSeen (at_okd e J) (at_okd f K)
okd_more e f J K is a =
    let both : entry e ∷ J.okd ≡ entry f ∷ K.okd = ap (λ (x : OkdEvent). entry x ∷ J.okd) is ∙ ap (λ (xs : List (Entry OkdEvent)). entry f ∷ xs) a.okd in
    record { okd = both; launcher = a.launcher; proxies = a.proxies; pubd = a.pubd; editions = a.editions; oklogd = a.oklogd }

pub launcher_more : (e f : LauncherEvent) (J K : Seen) → e ≡ f → AlikeSeen J K → AlikeSeen (at_launcher e J) (at_launcher f K)
launcher_more e f J K is a =
    let both : entry e ∷ J.launcher ≡ entry f ∷ K.launcher = ap (λ (x : LauncherEvent). entry x ∷ J.launcher) is ∙ ap (λ (xs : List (Entry LauncherEvent)). entry f ∷ xs) a.launcher in
    record { okd = a.okd; launcher = both; proxies = a.proxies; pubd = a.pubd; editions = a.editions; oklogd = a.oklogd }

pub proxy_more : (p : ℕ) (e : ProxyEvent) (J K : Seen) → AlikeSeen J K → AlikeSeen (at_proxy p e J) (at_proxy p e K)
proxy_more p e J K a = record {
  okd = a.okd;
  launcher = a.launcher;
  proxies = pairs_set (SameGrants proxy_grant) J.proxies K.proxies p _ _ (grants_more proxy_grant (entry e) (proxy_past J.proxies p) (proxy_past K.proxies p) (proxy_alike p J K a)) a.proxies;
  pubd = a.pubd;
  editions = a.editions;
  oklogd = a.oklogd;
}

pub pubd_more : (e : PubdEvent) (J K : Seen) → AlikeSeen J K → AlikeSeen (at_pubd e J) (at_pubd e K)
pubd_more e J K a = record {
  okd = a.okd;
  launcher = a.launcher;
  proxies = a.proxies;
  pubd = grants_more pubd_grant (entry e) J.pubd K.pubd a.pubd;
  editions = λ t. ap (edition_after e t) (a.editions t);
  oklogd = a.oklogd;
}

pub log_more : (e : LogEvent) (J K : Seen) → AlikeSeen J K → AlikeSeen (at_log e J) (at_log e K)
log_more e J K a = record {
  okd = a.okd;
  launcher = a.launcher;
  proxies = a.proxies;
  pubd = a.pubd;
  editions = a.editions;
  oklogd = grants_more log_grant (entry e) J.oklogd K.oklogd a.oklogd;
}

pub noted_more : (x y : Own) (J K : Seen) → AlikeSeen J K → AlikeSeen (noted J x) (noted K y)
noted_more x y J K a = record { okd = a.okd; launcher = a.launcher; proxies = a.proxies; pubd = a.pubd; editions = a.editions; oklogd = a.oklogd }

-- an entry that changes nothing that stands
pub proxy_quiet : (p : ℕ) (e : ProxyEvent) (J : Seen) → proxy_grant e ≡ Leaves → AlikeSeen J (at_proxy p e J)
proxy_quiet p e J quiet = record {
  okd = refl;
  launcher = refl;
  proxies = pairs_put (SameGrants proxy_grant) J.proxies p (entry e ∷ proxy_past J.proxies p) [] (grants_itself proxy_grant) (grants_quiet proxy_grant (entry e) (proxy_past J.proxies p) quiet);
  pubd = grants_itself pubd_grant J.pubd;
  editions = λ t. refl;
  oklogd = grants_itself log_grant J.oklogd;
}

pub pubd_quiet : (e : PubdEvent) (J : Seen) → pubd_grant e ≡ Leaves → ((t n : ℕ) → edition_after e t n ≡ n) → AlikeSeen J (at_pubd e J)
pubd_quiet e J quiet unpublished = record {
  okd = refl;
  launcher = refl;
  proxies = pairs_itself (SameGrants proxy_grant) J.proxies (grants_itself proxy_grant);
  pubd = grants_quiet pubd_grant (entry e) J.pubd quiet;
  editions = λ t. sym (unpublished t (edition J.pubd t));
  oklogd = grants_itself log_grant J.oklogd;
}

pub log_quiet : (e : LogEvent) (J : Seen) → log_grant e ≡ Leaves → AlikeSeen J (at_log e J)
log_quiet e J quiet = record {
  okd = refl;
  launcher = refl;
  proxies = pairs_itself (SameGrants proxy_grant) J.proxies (grants_itself proxy_grant);
  pubd = grants_itself pubd_grant J.pubd;
  editions = λ t. refl;
  oklogd = grants_quiet log_grant (entry e) J.oklogd quiet;
}

-- An open dialog, by how many frames were said in it.
abbrev pub brief : Option Opened → Option ℕ
brief None = None
brief (Some opened) = Some (said_count opened.items)

-- Two cells with the same incarnations, the same link, and dialogs in which as many frames were said.
pub record AlikeStand (x y : Stand) : Type 0 where
  pub here : incarnation x.past ≡ incarnation y.past
  pub last : last_booted x.past ≡ last_booted y.past
  pub left : x.left ≡ y.left
  pub ended : x.has_ended ≡ y.has_ended
  pub open_is : brief x.open_dialog ≡ brief y.open_dialog

pub stand_itself : (x : Stand) → AlikeStand x x
stand_itself x = record { here = refl; last = refl; left = refl; ended = refl; open_is = refl }

stand_sym : (x y : Stand) → AlikeStand x y → AlikeStand y x
stand_sym x y a = record { here = sym a.here; last = sym a.last; left = sym a.left; ended = sym a.ended; open_is = sym a.open_is }

-- Two stages that are alike.
pub record Alike (S T : Stage) : Type 0 where
  pub seen : AlikeSeen S.seen T.seen
  pub stands : Pairs AlikeStand S.stands T.stands
  pub requests : S.requests ≡ T.requests

pub alike_itself : (S : Stage) → Alike S S
alike_itself S = record { seen = seen_itself S.seen; stands = pairs_itself AlikeStand S.stands stand_itself; requests = refl }

pub alike_sym : (S T : Stage) → Alike S T → Alike T S
alike_sym S T a = record { seen = seen_sym S.seen T.seen a.seen; stands = pairs_sym AlikeStand S.stands T.stands stand_sym a.stands; requests = sym a.requests }

pub alike_at : (s : ℕ) (S T : Stage) → Alike S T → AlikeStand (stand S s) (stand T s)
alike_at s S T a = pairs_get AlikeStand S.stands T.stands s empty_stand (stand_itself empty_stand) a.stands

pub alike_stand : (s : ℕ) (x y : Stand) (S T : Stage) → AlikeStand x y → Alike S T → Alike (with_stand S s x) (with_stand T s y)
alike_stand s x y S T here a = record { seen = a.seen; stands = pairs_set AlikeStand S.stands T.stands s x y here a.stands; requests = a.requests }

pub alike_seen : (J K : Seen) (S T : Stage) → AlikeSeen J K → Alike S T → Alike (with_seen S J) (with_seen T K)
alike_seen J K S T here a = record { seen = here; stands = a.stands; requests = a.requests }

pub alike_settled : (x y : Stand) → AlikeStand x y → AlikeStand (settled x) (settled y)
alike_settled x y a = by (incarnation x.past == 0) (incarnation y.past == 0) (ap (λ (n : ℕ). n == 0) a.here)
  where
    by : (b c : Bool) → b ≡ c → AlikeStand (cond b (record x { left = []; has_ended = false }) x) (cond c (record y { left = []; has_ended = false }) y)
    by true true is = record { here = a.here; last = a.last; left = refl; ended = refl; open_is = a.open_is }
    by false false is = a
    by true false is = let never : ⊥ = cc in absurd never
    by false true is = let never : ⊥ = cc in absurd never
