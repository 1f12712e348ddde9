-- What turns at all columns but okd make of what the launcher has seen there.
use Rattle.std.proofs.Common.{◌≡◌, ◌≢◌, ◌∙◌, ⊎_elim, ℕ, ◌<◌, ◌≤◌, Bool, true, false, List, None, length, refl, sym, ap, subst, arith}
use Rattle.std.specs.Prelude.{max, Result, Ok, Err, OnOk, OnErr}
use Rattle.std.proofs.lemmas.Bool.{cases_lt}
use Rattle.okws_base.specs.Past.{Grant, standing_by, last_by}
use Rattle.okws_base.specs.declared.journal.Entry.{Entry}
use Rattle.okws_plan.specs.Configuration.{grants_at}
use Rattle.okws_plan.specs.Lines.{PlaceFits}
use Rattle.okws_plan.specs.declared.configuration.Config.{Config}
use Rattle.okws_plan.specs.declared.event.ProxyEvent.{ProxyEvent}
use Rattle.okws_plan.specs.declared.script.Place.{Place}
use Rattle.okws_plan.specs.declared.script.Place.TheVariants.{Proxy, Pubd, Oklogd}
use Rattle.monitor_model.specs.Seen.{proxy_past}
use Rattle.monitor_model.specs.Standing.{proxy_grant, pubd_grant, log_grant}
use Rattle.site_locks.specs.Sat.{Sat}
use Rattle.launch_crew.specs.Crews.{stands_at, lasts_at}
use Rattle.named_columns.specs.Turns.{Stays}
use Rattle.launch_crew.specs.Pasts.{Revoked, Installed, Thinned, Grown}
use Rattle.launch_crew.specs.Steps.{OnlyProxies, OnlyPubd, OnlyLog, OnlyColumns, RevokesRow, InstallsRow, InstallsRest, Thins, Revokes, Installs}

max_most : (a b c j : ℕ) → a ≡ max b c → b ≤ j → c ≤ j → a ≤ j
max_most a b c j is x y = omega (arith, is, x, y)

same_most : (a b j : ℕ) → a ≡ b → b ≤ j → a ≤ j
same_most a b j is x = omega (arith, is, x)

module _ {E : Type 0} (grant : E → Grant) where
  stays_same : (J : List (Entry E)) → Stays grant J J
  stays_same J = record { last = λ t. refl; standing = λ t. refl }

module _ {E : Type 0} (grant : E → Grant) (s : ℕ) where
  pub thinned_same : (J K : List (Entry E)) → Stays grant J K → Thinned grant s J K
  thinned_same J K h = record { lasts = h.last; stands = λ t apart. h.standing t }

  pub thinned : (J K : List (Entry E)) → Revoked grant s J K → Thinned grant s J K
  thinned J K h = record { lasts = h.lasts; stands = h.stands }

  pub grown_same : (k : ℕ) (J K : List (Entry E)) → Stays grant J K → Grown grant s k J K
  grown_same k J K h = record {
    lasts = λ t apart. h.last t;
    most = λ j least below. same_most (last_by grant K s) (last_by grant J s) j (h.last s) below;
    stands = λ t apart. h.standing t;
  }

  pub grown : (k : ℕ) (J K : List (Entry E)) → Installed grant s k J K → Grown grant s k J K
  grown k J K h = record {
    lasts = h.lasts;
    most = λ j least below. max_most (last_by grant K s) k (last_by grant J s) j h.last least below;
    stands = h.stands;
  }

-- the row of the proxies
abbrev pub ThinnedRow : ℕ → List (List (Entry ProxyEvent)) → List (List (Entry ProxyEvent)) → Type 0
ThinnedRow s xs ys = (q : ℕ) → Thinned proxy_grant s (proxy_past xs q) (proxy_past ys q)

abbrev pub GrownRow : ℕ → ℕ → List (List (Entry ProxyEvent)) → List (List (Entry ProxyEvent)) → Type 0
GrownRow s k xs ys = (q : ℕ) → Grown proxy_grant s k (proxy_past xs q) (proxy_past ys q)

-- what a turn at each of the three kinds of columns leaves
pub thins : (s : ℕ) (a b : Sat) → OnlyColumns a b → ThinnedRow s a.proxies b.proxies → Thinned pubd_grant s a.pubd b.pubd → Thinned log_grant s a.oklogd b.oklogd → Thins s a b
thins s a b only row pubd oklogd = record { only = only; lasts = lasts; others = others }
  where
    lasts : (t : ℕ) (at : Place) → lasts_at b at t ≡ lasts_at a at t
    lasts t (Proxy p) = (row p).lasts t
    lasts t Pubd = pubd.lasts t
    lasts t Oklogd = oklogd.lasts t

    others : (t : ℕ) (at : Place) → t ≢ s → stands_at b at t ≡ stands_at a at t
    others t (Proxy p) apart = (row p).stands t apart
    others t Pubd apart = pubd.stands t apart
    others t Oklogd apart = oklogd.stands t apart

pub installs : (s k : ℕ) (a b : Sat) → OnlyColumns a b → GrownRow s k a.proxies b.proxies → Grown pubd_grant s k a.pubd b.pubd → Grown log_grant s k a.oklogd b.oklogd → Installs s k a b
installs s k a b only row pubd oklogd = record { only = only; lasts = lasts; most = most; others = others }
  where
    lasts : (t : ℕ) (at : Place) → t ≢ s → lasts_at b at t ≡ lasts_at a at t
    lasts t (Proxy p) apart = (row p).lasts t apart
    lasts t Pubd apart = pubd.lasts t apart
    lasts t Oklogd apart = oklogd.lasts t apart

    most : (at : Place) (j : ℕ) → k ≤ j → lasts_at a at s ≤ j → lasts_at b at s ≤ j
    most (Proxy p) j least below = (row p).most j least below
    most Pubd j least below = pubd.most j least below
    most Oklogd j least below = oklogd.most j least below

    others : (t : ℕ) (at : Place) → t ≢ s → stands_at b at t ≡ stands_at a at t
    others t (Proxy p) apart = (row p).stands t apart
    others t Pubd apart = pubd.stands t apart
    others t Oklogd apart = oklogd.stands t apart

-- ---- the row

pub thinned_row : (s p : ℕ) (xs ys : List (List (Entry ProxyEvent))) → RevokesRow s p xs ys → ThinnedRow s xs ys
thinned_row s p xs ys h q = ⊎_elim (λ below. thinned proxy_grant s (proxy_past xs q) (proxy_past ys q) (h.done q below)) (λ above. thinned_same proxy_grant s (proxy_past xs q) (proxy_past ys q) (h.rest q above)) (cases_lt q p)

grown_at : (C : Config) (s k p q : ℕ) (xs ys : List (List (Entry ProxyEvent))) (b : Bool) → grants_at C s q ≡ b → q < p → InstallsRow C s k p xs ys → Grown proxy_grant s k (proxy_past xs q) (proxy_past ys q)
grown_at C s k p q xs ys true is below h = grown proxy_grant s k (proxy_past xs q) (proxy_past ys q) (h.granted q below is)
grown_at C s k p q xs ys false is below h = grown_same proxy_grant s k (proxy_past xs q) (proxy_past ys q) (h.passed q below is)

pub grown_row : (C : Config) (s k p : ℕ) (xs ys : List (List (Entry ProxyEvent))) → InstallsRow C s k p xs ys → GrownRow s k xs ys
grown_row C s k p xs ys h q = ⊎_elim (λ below. grown_at C s k p q xs ys (grants_at C s q) refl below h) (λ above. grown_same proxy_grant s k (proxy_past xs q) (proxy_past ys q) (h.rest q above)) (cases_lt q p)

-- ---- a row, then pubd, then oklogd

pub columns_three : (a b c d : Sat) → length b.proxies ≡ length a.proxies → OnlyProxies a b → OnlyPubd b c → OnlyLog c d → OnlyColumns a d
columns_three a b c d len x y z = record {
  number_is = z.number_is ∙ (y.number_is ∙ x.number_is);
  okd_is = z.okd_is ∙ (y.okd_is ∙ x.okd_is);
  board_is = z.board_is ∙ (y.board_is ∙ x.board_is);
  drawn_is = z.drawn_is ∙ (y.drawn_is ∙ x.drawn_is);
  same_length = ap length (z.proxies_is ∙ y.proxies_is) ∙ len;
}

pub same_pubd : (s : Sat) → OnlyPubd s s
same_pubd s = record { number_is = refl; okd_is = refl; proxies_is = refl; oklogd_is = refl; board_is = refl; drawn_is = refl }

pub same_log : (s : Sat) → OnlyLog s s
same_log s = record { number_is = refl; okd_is = refl; proxies_is = refl; pubd_is = refl; board_is = refl; drawn_is = refl }

-- what each of the three turns leaves
pub record ThinsThree (s p : ℕ) (a b c d : Sat) : Type 0 where
  pub proxies_only : OnlyProxies a b
  pub row : RevokesRow s p a.proxies b.proxies
  pub pubd_only : OnlyPubd b c
  pub pubd : Thinned pubd_grant s b.pubd c.pubd
  pub log_only : OnlyLog c d
  pub oklogd : Thinned log_grant s c.oklogd d.oklogd

pub thins_three : (s p : ℕ) (a b c d : Sat) → ThinsThree s p a b c d → Thins s a d
thins_three s p a b c d h = thins s a d (columns_three a b c d h.row.same_length h.proxies_only h.pubd_only h.log_only)
    (subst (ThinnedRow s a.proxies) (sym (h.log_only.proxies_is ∙ h.pubd_only.proxies_is)) (thinned_row s p a.proxies b.proxies h.row))
    (subst (λ J. Thinned pubd_grant s a.pubd J) (sym h.log_only.pubd_is) (subst (λ J. Thinned pubd_grant s J c.pubd) h.proxies_only.pubd_is h.pubd))
    (subst (λ J. Thinned log_grant s J d.oklogd) (h.pubd_only.oklogd_is ∙ h.proxies_only.oklogd_is) h.oklogd)

pub record RevokesThree (C : Config) (s : ℕ) (a b c d : Sat) : Type 0 where
  pub proxies_only : OnlyProxies a b
  pub row : RevokesRow s (length C.proxies) a.proxies b.proxies
  pub pubd_only : OnlyPubd b c
  pub pubd : Revoked pubd_grant s b.pubd c.pubd
  pub log_only : OnlyLog c d
  pub oklogd : Revoked log_grant s c.oklogd d.oklogd

pub revokes_three : (C : Config) (s : ℕ) (a b c d : Sat) → RevokesThree C s a b c d → Revokes C s a d
revokes_three C s a b c d h = record {
  thins = thins_three s (length C.proxies) a b c d (record {
    proxies_only = h.proxies_only;
    row = h.row;
    pubd_only = h.pubd_only;
    pubd = thinned pubd_grant s b.pubd c.pubd h.pubd;
    log_only = h.log_only;
    oklogd = thinned log_grant s c.oklogd d.oklogd h.oklogd;
  });
  none = none;
}
  where
    none : (at : Place) → PlaceFits C at → stands_at d at s ≡ None
    none (Proxy p) fits = ap (λ ps. standing_by proxy_grant (proxy_past ps p) s) (h.log_only.proxies_is ∙ h.pubd_only.proxies_is) ∙ (h.row.done p fits).none
    none Pubd fits = ap (λ J. standing_by pubd_grant J s) h.log_only.pubd_is ∙ h.pubd.none
    none Oklogd fits = h.oklogd.none

-- ---- a row, and then the rest

-- what followed, whether it was done or refused
pub either_way : {A X : Type 0} (r : Result A X) (P Q Z : Type 0) → OnOk r P → OnErr r Q → (P → Z) → (Q → Z) → Z
either_way (Ok v) P Q Z ok err f g = f ok
either_way (Err x) P Q Z ok err f g = g err

pub rest_of : (s k : ℕ) (a b c : Sat) → OnlyPubd a b → Grown pubd_grant s k a.pubd b.pubd → OnlyLog b c → Grown log_grant s k b.oklogd c.oklogd → InstallsRest s k a c
rest_of s k a b c x p y q = record {
  number_is = y.number_is ∙ x.number_is;
  okd_is = y.okd_is ∙ x.okd_is;
  proxies_is = y.proxies_is ∙ x.proxies_is;
  board_is = y.board_is ∙ x.board_is;
  drawn_is = y.drawn_is ∙ x.drawn_is;
  pubd = subst (λ J. Grown pubd_grant s k a.pubd J) (sym y.pubd_is) p;
  oklogd = subst (λ J. Grown log_grant s k J c.oklogd) x.oklogd_is q;
}

pub rest_none : (s k : ℕ) (a : Sat) → InstallsRest s k a a
rest_none s k a = rest_of s k a a a (same_pubd a) (grown_same pubd_grant s k a.pubd a.pubd (stays_same pubd_grant a.pubd)) (same_log a) (grown_same log_grant s k a.oklogd a.oklogd (stays_same log_grant a.oklogd))

pub installs_of : (C : Config) (s k p : ℕ) (a b c : Sat) → OnlyProxies a b → InstallsRow C s k p a.proxies b.proxies → InstallsRest s k b c → Installs s k a c
installs_of C s k p a b c x row y = installs s k a c
    (record {
      number_is = y.number_is ∙ x.number_is;
      okd_is = y.okd_is ∙ x.okd_is;
      board_is = y.board_is ∙ x.board_is;
      drawn_is = y.drawn_is ∙ x.drawn_is;
      same_length = ap length y.proxies_is ∙ row.same_length;
    })
    (subst (GrownRow s k a.proxies) (sym y.proxies_is) (grown_row C s k p a.proxies b.proxies row))
    (subst (λ J. Grown pubd_grant s k J c.pubd) x.pubd_is y.pubd)
    (subst (λ J. Grown log_grant s k J c.oklogd) x.oklogd_is y.oklogd)
