-- What one turn at a column makes of the launcher's seats and its list, by what it answers.
use Rattle.std.proofs.Common.{◌≡◌, ◌∙◌, ℕ, ◌<◌, ◌≤◌, ◌+◌, Bool, true, false, List, [], ◌∷◌, Some, None, length, refl, sym, ap, subst, arith, eq-eqb, ne_eqb, get_or-set_same, get_or-set_other, length-set}
use Rattle.std.specs.Prelude.{Result, Ok, Err, OnOk, OnErr, filter_map, if◌then◌else◌, is_ok, max, slice_set}
use Rattle.std.proofs.lemmas.Bool.{true≢false}
use Rattle.std.proofs.lemmas.Result.{on_ok_weaker}
use Rattle.okws_base.specs.Past.{Grant, Installs, Revokes, last_after, last_by, standing_after, standing_by}
use Rattle.okws_base.specs.declared.journal.Entry.{Entry}
use Rattle.okws_base.specs.declared.value.Token.{Token}
use Rattle.okws_plan.specs.Configuration.{grants_at}
use Rattle.okws_plan.specs.declared.configuration.Config.{Config}
use Rattle.okws_plan.specs.declared.event.ProxyEvent.{ProxyEvent}
use Rattle.okws_plan.specs.declared.event.ProxyEvent.TheVariants as proxy
use Rattle.okws_plan.specs.declared.event.PubdEvent.{PubdEvent}
use Rattle.okws_plan.specs.declared.event.PubdEvent.TheVariants as pubd
use Rattle.okws_plan.specs.declared.event.LogEvent.{LogEvent}
use Rattle.okws_plan.specs.declared.event.LogEvent.TheVariants as log
use Rattle.okws_plan.specs.declared.script.Place.TheVariants.{Proxy, Pubd, Oklogd}
use Rattle.monitor_model.specs.declared.record.Own.{Own}
use Rattle.monitor_model.specs.declared.record.Own.TheVariants as own
use Rattle.monitor_model.specs.Launches.{install_at, standing_in, with_revoke_log, with_revoke_pubd}
use Rattle.monitor_model.specs.Merged.{log_item, proxy_item, pubd_item}
use Rattle.monitor_model.specs.Seen.{proxy_past}
use Rattle.monitor_model.specs.Standing.{proxy_grant, pubd_grant, log_grant}
use Rattle.site_cells.specs.Row.{CellsSeen}
use Rattle.site_locks.specs.Sat.{Sat}
use Rattle.site_locks.specs.Steps.{EntersProxy, SeesProxy, EntersPubd, SeesPubd, EntersLog, SeesLog}
use Rattle.named_columns.specs.Turns.{Stays}
use Rattle.launch_crew.specs.Acts.{InstallsAt, InstallsBoth, InstallsWhere, RevokesAt, past_at}
use Rattle.launch_crew.specs.Listed.{with_install_if, with_revoke_at}
use Rattle.launch_crew.specs.Pasts.{Grown, Installed, Revoked}
use Rattle.launch_crew.specs.Recorded.{IsRecorded, Recorded}
use Rattle.launch_crew.specs.Steps.{InstallsRest, OnlyLog, OnlyProxies, OnlyPubd, TurnsAt}
use Rattle.launch_crew.proofs.Listing.{ends_none, ends_some, first_none, stood}
use Rattle.launch_crew.proofs.Places.{grown, grown_same}
use Rattle.launch_crew.proofs.Recording.{log_entered, log_seen, proxy_entered, proxy_seen, pubd_entered, pubd_seen, recorder}

-- ---- an entry more in a column's past

module _ {E : Type 0} (grant : E → Grant) (s w : ℕ) (e : E) (J K : List (Entry E)) (stays : Stays grant J K) where
  pub installed : (k : ℕ) → grant e ≡ Installs s k → Installed grant s k J (record { worker = w; event = e } ∷ K)
  installed k is = record {
    lasts = λ t apart. ap (λ (g : Grant). last_after g t (last_by grant K t)) is ∙ (ap (λ (b : Bool). if b then max k (last_by grant K t) else last_by grant K t) (ne_eqb s t (λ same. apart (sym same))) ∙ stays.last t);
    last = ap (λ (g : Grant). last_after g s (last_by grant K s)) is ∙ (ap (λ (b : Bool). if b then max k (last_by grant K s) else last_by grant K s) (eq-eqb s s refl) ∙ ap (max k) (stays.last s));
    stands = λ t apart. ap (λ (g : Grant). standing_after g t (standing_by grant K t)) is ∙ (ap (λ (b : Bool). if b then Some k else standing_by grant K t) (ne_eqb s t (λ same. apart (sym same))) ∙ stays.standing t);
    is = ap (λ (g : Grant). standing_after g s (standing_by grant K s)) is ∙ ap (λ (b : Bool). if b then Some k else standing_by grant K s) (eq-eqb s s refl);
  }

  pub revoked : grant e ≡ Revokes s → Revoked grant s J (record { worker = w; event = e } ∷ K)
  revoked is = record {
    lasts = λ t. ap (λ (g : Grant). last_after g t (last_by grant K t)) is ∙ stays.last t;
    stands = λ t apart. ap (λ (g : Grant). standing_after g t (standing_by grant K t)) is ∙ (ap (λ (b : Bool). if b then None else standing_by grant K t) (ne_eqb s t (λ same. apart (sym same))) ∙ stays.standing t);
    none = ap (λ (g : Grant). standing_after g s (standing_by grant K s)) is ∙ ap (λ (b : Bool). if b then None else standing_by grant K s) (eq-eqb s s refl);
  }

-- nothing stood
pub unrevoked : {E : Type 0} (grant : E → Grant) (s : ℕ) (J K : List (Entry E)) → Stays grant J K → None ≡ standing_by grant K s → Revoked grant s J K
unrevoked grant s J K stays none = record { lasts = stays.last; stands = λ t apart. stays.standing t; none = sym none }

-- what a list tells by an item that stands there if a call was done
module _ (did : Bool) (item : Own) (items more : List Own) (listed : more ≡ (if did then item ∷ items else items)) where
  pub listed_did : did ≡ true → more ≡ item ∷ items
  listed_did is = listed ∙ ap (λ (b : Bool). if b then item ∷ items else items) is

  pub listed_no : did ≡ false → more ≡ items
  listed_no is = listed ∙ ap (λ (b : Bool). if b then item ∷ items else items) is

-- ---- a turn at each kind of column

module _ (C : Config) (n : ℕ) (old new : Sat) (w : CellsSeen) (items more : List Own) (a b : ℕ) (h : IsRecorded C n (recorder old w items a)) where
  only_pubd : (J : _) → new ≡ record old { pubd = J } → OnlyPubd old new
  only_pubd J is = record {
    number_is = ap (λ (x : Sat). x.number) is;
    okd_is = ap (λ (x : Sat). x.okd) is;
    proxies_is = ap (λ (x : Sat). x.proxies) is;
    oklogd_is = ap (λ (x : Sat). x.oklogd) is;
    board_is = ap (λ (x : Sat). x.board) is;
    drawn_is = ap (λ (x : Sat). x.drawn) is;
  }

  only_log : (J : _) → new ≡ record old { oklogd = J } → OnlyLog old new
  only_log J is = record {
    number_is = ap (λ (x : Sat). x.number) is;
    okd_is = ap (λ (x : Sat). x.okd) is;
    proxies_is = ap (λ (x : Sat). x.proxies) is;
    pubd_is = ap (λ (x : Sat). x.pubd) is;
    board_is = ap (λ (x : Sat). x.board) is;
    drawn_is = ap (λ (x : Sat). x.drawn) is;
  }

  only_proxies : (xs : _) → new ≡ record old { proxies = xs } → OnlyProxies old new
  only_proxies xs is = record {
    number_is = ap (λ (x : Sat). x.number) is;
    okd_is = ap (λ (x : Sat). x.okd) is;
    pubd_is = ap (λ (x : Sat). x.pubd) is;
    oklogd_is = ap (λ (x : Sat). x.oklogd) is;
    board_is = ap (λ (x : Sat). x.board) is;
    drawn_is = ap (λ (x : Sat). x.drawn) is;
  }

  -- an Install at pubd
  module _ {X Y : Type 0} (s k : ℕ) where
    pub pubd_installs : (answer : Result X Y) (did : Bool) → did ≡ is_ok answer
        → OnOk answer ((J : List (Entry PubdEvent)) × Stays pubd_grant old.pubd J × EntersPubd (pubd.Install s k) J old new)
        → OnErr answer ((J : List (Entry PubdEvent)) × Stays pubd_grant old.pubd J × SeesPubd J old new)
        → more ≡ (if did then own.Pubd (pubd.Install s k) ∷ items else items) → a ≤ b + 1
        → IsRecorded C n (recorder new w more b) × InstallsAt pubd_grant (λ (x : Sat). x.pubd) OnlyPubd (own.Pubd (pubd.Install s k)) s k answer (recorder old w items a) (recorder new w more b)
    pubd_installs (Ok x) did is ok err listed room =
        let item = own.Pubd (pubd.Install s k) in
        let more_is = listed_did did item items more listed is in (
          pubd_entered C n old new w items more a b h (pubd.Install s k) ok.0 ok.1 refl more_is ok.2,
          record {
            cells = refl;
            only = only_pubd _ ok.2.is;
            ok = subst (λ (J : List (Entry PubdEvent)). Installed pubd_grant s k old.pubd J) (sym (ap (λ (x : Sat). x.pubd) ok.2.is)) (installed pubd_grant s old.number (pubd.Install s k) old.pubd ok.0 ok.1 k refl);
            err = tt;
            added = more_is;
            kept = tt;
            room = room;
          },
        )
    pubd_installs (Err x) did is ok err listed room =
        let item = own.Pubd (pubd.Install s k) in
        let more_is = listed_no did item items more listed is in (
          subst (λ (xs : List Own). IsRecorded C n (recorder new w xs b)) (sym more_is) (pubd_seen C n old new w items a b h err.0 err.1 err.2),
          record {
            cells = refl;
            only = only_pubd _ err.2.is;
            ok = tt;
            err = subst (λ (J : List (Entry PubdEvent)). Stays pubd_grant old.pubd J) (sym (ap (λ (x : Sat). x.pubd) err.2.is)) err.1;
            added = tt;
            kept = more_is;
            room = room;
          },
        )

  -- at oklogd
  module _ {X Y : Type 0} (s k : ℕ) where
    pub log_installs : (answer : Result X Y) (did : Bool) → did ≡ is_ok answer
        → OnOk answer ((J : List (Entry LogEvent)) × Stays log_grant old.oklogd J × EntersLog (log.Install s k) J old new)
        → OnErr answer ((J : List (Entry LogEvent)) × Stays log_grant old.oklogd J × SeesLog J old new)
        → more ≡ (if did then own.Oklogd (log.Install s k) ∷ items else items) → a ≤ b + 1
        → IsRecorded C n (recorder new w more b) × InstallsAt log_grant (λ (x : Sat). x.oklogd) OnlyLog (own.Oklogd (log.Install s k)) s k answer (recorder old w items a) (recorder new w more b)
    log_installs (Ok x) did is ok err listed room =
        let item = own.Oklogd (log.Install s k) in
        let more_is = listed_did did item items more listed is in (
          log_entered C n old new w items more a b h (log.Install s k) ok.0 ok.1 refl more_is ok.2,
          record {
            cells = refl;
            only = only_log _ ok.2.is;
            ok = subst (λ (J : List (Entry LogEvent)). Installed log_grant s k old.oklogd J) (sym (ap (λ (x : Sat). x.oklogd) ok.2.is)) (installed log_grant s old.number (log.Install s k) old.oklogd ok.0 ok.1 k refl);
            err = tt;
            added = more_is;
            kept = tt;
            room = room;
          },
        )
    log_installs (Err x) did is ok err listed room =
        let item = own.Oklogd (log.Install s k) in
        let more_is = listed_no did item items more listed is in (
          subst (λ (xs : List Own). IsRecorded C n (recorder new w xs b)) (sym more_is) (log_seen C n old new w items a b h err.0 err.1 err.2),
          record {
            cells = refl;
            only = only_log _ err.2.is;
            ok = tt;
            err = subst (λ (J : List (Entry LogEvent)). Stays log_grant old.oklogd J) (sym (ap (λ (x : Sat). x.oklogd) err.2.is)) err.1;
            added = tt;
            kept = more_is;
            room = room;
          },
        )

  -- at proxy p
  module _ (p : ℕ) (within : p < length old.proxies) (declared : p < length C.proxies) where
    at_proxy : (J : List (Entry ProxyEvent)) → new ≡ record old { proxies = slice_set old.proxies p J } → past_at p new ≡ J
    at_proxy J is = ap (λ (x : Sat). proxy_past x.proxies p) is ∙ get_or-set_same old.proxies p J [] within

    turns : (J : List (Entry ProxyEvent)) → new ≡ record old { proxies = slice_set old.proxies p J } → TurnsAt p old new
    turns J is = record {
      only = only_proxies _ is;
      row = record {
        same_length = ap (λ (x : Sat). length x.proxies) is ∙ length-set old.proxies p J;
        others = λ q apart. ap (λ (x : Sat). proxy_past x.proxies q) is ∙ get_or-set_other old.proxies p q J [] apart;
      };
    }

    module _ {X Y : Type 0} (s k : ℕ) (token : Token) where
      pub proxy_installs : (answer : Result X Y) (did : Bool) → did ≡ is_ok answer
          → OnOk answer ((J : List (Entry ProxyEvent)) × Stays proxy_grant (past_at p old) J × EntersProxy p (proxy.Install s k token) J old new)
          → OnErr answer ((J : List (Entry ProxyEvent)) × Stays proxy_grant (past_at p old) J × SeesProxy p J old new)
          → more ≡ (if did then own.Proxy p (proxy.Install s k token) ∷ items else items) → a ≤ b + 1
          → IsRecorded C n (recorder new w more b) × InstallsAt proxy_grant (past_at p) (TurnsAt p) (own.Proxy p (proxy.Install s k token)) s k answer (recorder old w items a) (recorder new w more b)
      proxy_installs (Ok x) did is ok err listed room =
          let item = own.Proxy p (proxy.Install s k token) in
          let more_is = listed_did did item items more listed is in (
            proxy_entered C n old new w items more a b h p (proxy.Install s k token) ok.0 ok.1 declared refl more_is ok.2,
            record {
              cells = refl;
              only = turns _ ok.2.is;
              ok = subst (λ (J : List (Entry ProxyEvent)). Installed proxy_grant s k (past_at p old) J) (sym (at_proxy _ ok.2.is)) (installed proxy_grant s old.number (proxy.Install s k token) (past_at p old) ok.0 ok.1 k refl);
              err = tt;
              added = more_is;
              kept = tt;
              room = room;
            },
          )
      proxy_installs (Err x) did is ok err listed room =
          let item = own.Proxy p (proxy.Install s k token) in
          let more_is = listed_no did item items more listed is in (
            subst (λ (xs : List Own). IsRecorded C n (recorder new w xs b)) (sym more_is) (proxy_seen C n old new w items a b h p err.0 err.1 declared err.2),
            record {
              cells = refl;
              only = turns _ err.2.is;
              ok = tt;
              err = subst (λ (J : List (Entry ProxyEvent)). Stays proxy_grant (past_at p old) J) (sym (at_proxy _ err.2.is)) err.1;
              added = tt;
              kept = more_is;
              room = room;
            },
          )

    -- a Revoke there
    module _ (s : ℕ) where
      pub proxy_revokes : (k : ℕ) (J : List (Entry ProxyEvent)) → Stays proxy_grant (past_at p old) J → Some k ≡ standing_by proxy_grant J s → EntersProxy p (proxy.Revoke s k) J old new → more ≡ own.Proxy p (proxy.Revoke s k) ∷ items → a ≤ b + 1
          → RevokesAt proxy_grant (past_at p) (TurnsAt p) (with_revoke_at s p) s (recorder old w items a) (recorder new w more b)
      proxy_revokes k J stays was enters listed room =
          let found = standing_in proxy_grant (filter_map (proxy_item p) items) s in
          record {
            cells = refl;
            only = turns _ enters.is;
            revoked = subst (λ (K : List (Entry ProxyEvent)). Revoked proxy_grant s (past_at p old) K) (sym (at_proxy _ enters.is)) (revoked proxy_grant s old.number (proxy.Revoke s k) (past_at p old) J stays refl);
            own = ends_some (λ (j : ℕ). own.Proxy p (proxy.Revoke s j)) k found (Some k) items more (stood proxy_grant s (past_at p old) J found (Some k) stays (h.standing.proxies p s) was) refl listed;
            room = room;
          }

      pub proxy_unrevoked : (J : List (Entry ProxyEvent)) → Stays proxy_grant (past_at p old) J → None ≡ standing_by proxy_grant J s → SeesProxy p J old new → more ≡ items → a ≤ b + 1
          → RevokesAt proxy_grant (past_at p) (TurnsAt p) (with_revoke_at s p) s (recorder old w items a) (recorder new w more b)
      proxy_unrevoked J stays was sees listed room =
          let found = standing_in proxy_grant (filter_map (proxy_item p) items) s in
          record {
            cells = refl;
            only = turns _ sees.is;
            revoked = subst (λ (K : List (Entry ProxyEvent)). Revoked proxy_grant s (past_at p old) K) (sym (at_proxy _ sees.is)) (unrevoked proxy_grant s (past_at p old) J stays was);
            own = ends_none (λ (j : ℕ). own.Proxy p (proxy.Revoke s j)) found None items more (stood proxy_grant s (past_at p old) J found None stays (h.standing.proxies p s) was) refl listed;
            room = room;
          }

  -- ---- a Revoke

  module _ (s : ℕ) where
    pub pubd_revokes : (k : ℕ) (J : List (Entry PubdEvent)) → Stays pubd_grant old.pubd J → Some k ≡ standing_by pubd_grant J s → EntersPubd (pubd.Revoke s k) J old new → more ≡ own.Pubd (pubd.Revoke s k) ∷ items → a ≤ b + 1
        → RevokesAt pubd_grant (λ (x : Sat). x.pubd) OnlyPubd (with_revoke_pubd s) s (recorder old w items a) (recorder new w more b)
    pubd_revokes k J stays was enters listed room =
        let found = standing_in pubd_grant (filter_map pubd_item items) s in
        record {
          cells = refl;
          only = only_pubd _ enters.is;
          revoked = subst (λ (K : List (Entry PubdEvent)). Revoked pubd_grant s old.pubd K) (sym (ap (λ (x : Sat). x.pubd) enters.is)) (revoked pubd_grant s old.number (pubd.Revoke s k) old.pubd J stays refl);
          own = ends_some (λ (j : ℕ). own.Pubd (pubd.Revoke s j)) k found (Some k) items more (stood pubd_grant s old.pubd J found (Some k) stays (h.standing.pubd s) was) refl listed;
          room = room;
        }

    pub pubd_unrevoked : (J : List (Entry PubdEvent)) → Stays pubd_grant old.pubd J → None ≡ standing_by pubd_grant J s → SeesPubd J old new → more ≡ items → a ≤ b + 1
        → RevokesAt pubd_grant (λ (x : Sat). x.pubd) OnlyPubd (with_revoke_pubd s) s (recorder old w items a) (recorder new w more b)
    pubd_unrevoked J stays was sees listed room =
        let found = standing_in pubd_grant (filter_map pubd_item items) s in
        record {
          cells = refl;
          only = only_pubd _ sees.is;
          revoked = subst (λ (K : List (Entry PubdEvent)). Revoked pubd_grant s old.pubd K) (sym (ap (λ (x : Sat). x.pubd) sees.is)) (unrevoked pubd_grant s old.pubd J stays was);
          own = ends_none (λ (j : ℕ). own.Pubd (pubd.Revoke s j)) found None items more (stood pubd_grant s old.pubd J found None stays (h.standing.pubd s) was) refl listed;
          room = room;
        }

    pub log_revokes : (k : ℕ) (J : List (Entry LogEvent)) → Stays log_grant old.oklogd J → Some k ≡ standing_by log_grant J s → EntersLog (log.Revoke s k) J old new → more ≡ own.Oklogd (log.Revoke s k) ∷ items → a ≤ b + 1
        → RevokesAt log_grant (λ (x : Sat). x.oklogd) OnlyLog (with_revoke_log s) s (recorder old w items a) (recorder new w more b)
    log_revokes k J stays was enters listed room =
        let found = standing_in log_grant (filter_map log_item items) s in
        record {
          cells = refl;
          only = only_log _ enters.is;
          revoked = subst (λ (K : List (Entry LogEvent)). Revoked log_grant s old.oklogd K) (sym (ap (λ (x : Sat). x.oklogd) enters.is)) (revoked log_grant s old.number (log.Revoke s k) old.oklogd J stays refl);
          own = ends_some (λ (j : ℕ). own.Oklogd (log.Revoke s j)) k found (Some k) items more (stood log_grant s old.oklogd J found (Some k) stays (h.standing.oklogd s) was) refl listed;
          room = room;
        }

    pub log_unrevoked : (J : List (Entry LogEvent)) → Stays log_grant old.oklogd J → None ≡ standing_by log_grant J s → SeesLog J old new → more ≡ items → a ≤ b + 1
        → RevokesAt log_grant (λ (x : Sat). x.oklogd) OnlyLog (with_revoke_log s) s (recorder old w items a) (recorder new w more b)
    log_unrevoked J stays was sees listed room =
        let found = standing_in log_grant (filter_map log_item items) s in
        record {
          cells = refl;
          only = only_log _ sees.is;
          revoked = subst (λ (K : List (Entry LogEvent)). Revoked log_grant s old.oklogd K) (sym (ap (λ (x : Sat). x.oklogd) sees.is)) (unrevoked log_grant s old.oklogd J stays was);
          own = ends_none (λ (j : ℕ). own.Oklogd (log.Revoke s j)) found None items more (stood log_grant s old.oklogd J found None stays (h.standing.oklogd s) was) refl listed;
          room = room;
        }

-- ---- a proxy where s may have no grant

module _ {X Y : Type 0} (C : Config) (seed : List ℕ) (p s k : ℕ) (answer : Result X Y) (a b : Recorded) where
  pub installs_granted : grants_at C s p ≡ true → InstallsAt proxy_grant (past_at p) (TurnsAt p) (install_at seed s k (Proxy p)) s k answer a b → InstallsWhere C seed p s k answer a b
  installs_granted is h = record {
    cells = h.cells;
    only = h.only;
    ok = on_ok_weaker answer (λ (done : Installed proxy_grant s k (past_at p a.sat) (past_at p b.sat)). record { granted = λ did. done; passed = λ no. absurd (true≢false (sym is ∙ no)) }) h.ok;
    err = h.err;
    added = on_ok_weaker answer (λ (more : b.own ≡ install_at seed s k (Proxy p) ∷ a.own). more ∙ ap (λ (did : Bool). with_install_if did seed s k (Proxy p) a.own) (sym is)) h.added;
    kept = h.kept;
    room = h.room;
  }

pub installs_passed : {X Y : Type 0} (C : Config) (seed : List ℕ) (p s k : ℕ) (x : X) (a : Recorded) → grants_at C s p ≡ false → InstallsWhere {X = X} {Y = Y} C seed p s k (Ok x) a a
installs_passed C seed p s k x a is = record {
  cells = refl;
  only = record {
    only = record { number_is = refl; okd_is = refl; pubd_is = refl; oklogd_is = refl; board_is = refl; drawn_is = refl };
    row = record { same_length = refl; others = λ q apart. refl };
  };
  ok = record { granted = λ did. absurd (true≢false (sym did ∙ is)); passed = λ no. record { standing = λ t. refl; last = λ t. refl } };
  err = tt;
  added = ap (λ (did : Bool). with_install_if did seed s k (Proxy p) a.own) (sym is);
  kept = tt;
  room = omega arith;
}

-- ---- pubd, and then oklogd

abbrev AtPubd : {X Y : Type 0} → List ℕ → ℕ → ℕ → Result X Y → Recorded → Recorded → Type 0
AtPubd seed s k answer a b = InstallsAt pubd_grant (λ (x : Sat). x.pubd) OnlyPubd (install_at seed s k Pubd) s k answer a b

abbrev AtLog : {X Y : Type 0} → List ℕ → ℕ → ℕ → Result X Y → Recorded → Recorded → Type 0
AtLog seed s k answer a b = InstallsAt log_grant (λ (x : Sat). x.oklogd) OnlyLog (install_at seed s k Oklogd) s k answer a b

more_twice : (a m b : ℕ) → a ≤ m + 1 → m ≤ b + 1 → a ≤ b + 2
more_twice a m b x y = omega (arith, x, y)

more_once : (a b : ℕ) → a ≤ b + 1 → a ≤ b + 2
more_once a b x = omega (arith, x)

module _ {X Y Z W : Type 0} (seed : List ℕ) (s k : ℕ) (x : X) (a m b : Recorded) (p : AtPubd {X = X} {Y = Y} seed s k (Ok x) a m) where
  both_rest : (answer : Result Z W) → AtLog seed s k answer m b → Grown log_grant s k m.sat.oklogd b.sat.oklogd → InstallsRest s k a.sat b.sat
  both_rest answer l log = record {
    number_is = l.only.number_is ∙ p.only.number_is;
    okd_is = l.only.okd_is ∙ p.only.okd_is;
    proxies_is = l.only.proxies_is ∙ p.only.proxies_is;
    board_is = l.only.board_is ∙ p.only.board_is;
    drawn_is = l.only.drawn_is ∙ p.only.drawn_is;
    pubd = subst (λ (J : List (Entry PubdEvent)). Grown pubd_grant s k a.sat.pubd J) (sym l.only.pubd_is) (grown pubd_grant s k a.sat.pubd m.sat.pubd p.ok);
    oklogd = subst (λ (J : List (Entry LogEvent)). Grown log_grant s k J b.sat.oklogd) p.only.oklogd_is log;
  }

  pub installs_both : (answer : Result Z W) → AtLog seed s k answer m b → InstallsBoth seed s k answer a b
  installs_both (Ok z) l = record {
    cells = l.cells ∙ p.cells;
    rest = both_rest (Ok z) l (grown log_grant s k m.sat.oklogd b.sat.oklogd l.ok);
    ok = record { pubd = ap (λ (J : List (Entry PubdEvent)). standing_by pubd_grant J s) l.only.pubd_is ∙ p.ok.is; oklogd = l.ok.is };
    added = l.added ∙ ap (λ (xs : List Own). install_at seed s k Oklogd ∷ xs) p.added;
    front = tt;
    room = more_twice a.room m.room b.room p.room l.room;
  }
  installs_both (Err w) l = record {
    cells = l.cells ∙ p.cells;
    rest = both_rest (Err w) l (grown_same log_grant s k m.sat.oklogd b.sat.oklogd l.err);
    ok = tt;
    added = tt;
    front = (Oklogd ∷ [], record { done = Pubd ∷ []; places_are = refl; own_is = l.kept ∙ p.added });
    room = more_twice a.room m.room b.room p.room l.room;
  }

-- nothing was installed at pubd
pub installs_neither : {X Y Z W : Type 0} (seed : List ℕ) (s k : ℕ) (y : Y) (w : W) (a b : Recorded) → AtPubd {X = X} {Y = Y} seed s k (Err y) a b → InstallsBoth {X = Z} {Y = W} seed s k (Err w) a b
installs_neither seed s k y w a b p = record {
  cells = p.cells;
  rest = record {
    number_is = p.only.number_is;
    okd_is = p.only.okd_is;
    proxies_is = p.only.proxies_is;
    board_is = p.only.board_is;
    drawn_is = p.only.drawn_is;
    pubd = grown_same pubd_grant s k a.sat.pubd b.sat.pubd p.err;
    oklogd = grown_same log_grant s k a.sat.oklogd b.sat.oklogd (subst (λ (J : List (Entry LogEvent)). Stays log_grant a.sat.oklogd J) (sym p.only.oklogd_is) (record { standing = λ t. refl; last = λ t. refl }));
  };
  ok = tt;
  added = tt;
  front = (Pubd ∷ Oklogd ∷ [], first_none seed s k (Pubd ∷ Oklogd ∷ []) a.own b.own p.kept);
  room = more_once a.room b.room p.room;
}
