-- What the launcher's number entered is what it noted.
use Rattle.std.proofs.Common.{◌≡◌, ◌≢◌, ◌∙◌, ℕ, zero, suc, ◌<◌, Bool, true, false, List, [], ◌∷◌, ◌++◌, Some, None, length, refl, sym, ap, subst, eq-eqb, ne_eqb, get_or-set_same, get_or-set_other}
use Rattle.std.specs.Prelude.{if◌then◌else◌, ◌==◌, ◌&&◌, filter, filter_map, map, replicate, IsTrue, slice_set}
use Rattle.std.specs.List.{list_all, cons_option}
use mathlib.Core.Logic.{dite}
use native.Mathlib.Decide.{ℕ_discrete}
use Rattle.okws_base.specs.Past.{events_of}
use Rattle.okws_base.specs.Turns.{of, GrowsBy}
use Rattle.okws_base.specs.declared.journal.Entry.{Entry}
use Rattle.okws_plan.specs.declared.configuration.Config.{Config}
use Rattle.okws_plan.specs.declared.event.OkdEvent.{OkdEvent}
use Rattle.okws_plan.specs.declared.event.ProxyEvent.{ProxyEvent}
use Rattle.okws_plan.specs.declared.event.PubdEvent.{PubdEvent}
use Rattle.okws_plan.specs.declared.event.LogEvent.{LogEvent}
use Rattle.monitor_model.specs.declared.record.CellEvent.{CellEvent}
use Rattle.monitor_model.specs.declared.record.CellEvent.TheVariants as cell
use Rattle.monitor_model.specs.declared.record.Own.{Own}
use Rattle.monitor_model.specs.declared.record.Own.TheVariants as own
use Rattle.monitor_model.specs.Merged.{okd_item, proxy_item, pubd_item, log_item, is_at_cell, cell_items, is_launch, is_okd_launch, is_proxy_launch, is_pubd_launch, is_log_launch}
use Rattle.monitor_model.specs.Seen.{proxy_past}
use Rattle.named_columns.specs.Launched.{by_entry}
use Rattle.site_cells.specs.Held.{by_event}
use Rattle.site_cells.proofs.Onlys.{only_else, new_at}
use Rattle.site_cells.specs.Row.{CellsSeen, IsNew, OnlyAt, seen_at}
use Rattle.site_locks.specs.Made.{fresh}
use Rattle.site_locks.specs.Sat.{Sat}
use Rattle.site_locks.specs.Steps.{EntersOkd, SeesOkd, EntersProxy, SeesProxy, EntersPubd, SeesPubd, EntersLog, SeesLog}
use Rattle.launch_crew.specs.Recorded.{AreOwn}

-- ---- one column

module _ {E : Type 0} (n : ℕ) where
  -- one entry of the number's
  own_event : (w : ℕ) (e : E) (J : List (Entry E)) → w ≡ n → events_of n (record { worker = w; event = e } ∷ J) ≡ e ∷ events_of n J
  own_event w e J is = ap (λ (b : Bool). map (λ (x : Entry E). x.event) (if b then record { worker = w; event = e } ∷ filter (λ (x : Entry E). x.worker == n) J else filter (λ (x : Entry E). x.worker == n) J)) (eq-eqb w n is)

  cons_nil : (x : Entry E) (xs : List (Entry E)) → x ∷ xs ≡ [] → ⊥
  cons_nil x xs e = absurd (cc)

  -- entries of others
  others : (more J : List (Entry E)) → of by_entry n more ≡ [] → events_of n (more ++ J) ≡ events_of n J
  others [] J none = refl
  others (e ∷ more) J none = dite (ℕ_discrete e.worker n)
      (λ is. absurd (cons_nil e (of by_entry n more) (subst (λ (b : Bool). (if b then e ∷ of by_entry n more else of by_entry n more) ≡ []) (eq-eqb e.worker n is) none)))
      (λ not.
      let t = ne_eqb e.worker n not in
      ap (λ (b : Bool). map (λ (x : Entry E). x.event) (if b then e ∷ filter (λ (x : Entry E). x.worker == n) (more ++ J) else filter (λ (x : Entry E). x.worker == n) (more ++ J))) t
      ∙ others more J (subst (λ (b : Bool). (if b then e ∷ of by_entry n more else of by_entry n more) ≡ []) t none))

  pub sees : (J K : List (Entry E)) (items : List E) → GrowsBy by_entry n J K → events_of n J ≡ items → events_of n K ≡ items
  sees J K items g is = ap (events_of n) g.2 ∙ (others g.0 J g.1 ∙ is)

  pub enters : (w : ℕ) (e : E) (J K : List (Entry E)) (items : List E) → w ≡ n → GrowsBy by_entry n J K → events_of n J ≡ items → events_of n (record { worker = w; event = e } ∷ K) ≡ e ∷ items
  enters w e J K items here g is = own_event w e K here ∙ ap (λ (es : List E). e ∷ es) (sees J K items g is)

-- an item more, if it is a launch
launches_more : (item : Own) (items : List Own) → is_launch item ≡ true → IsTrue (list_all is_launch items) → IsTrue (list_all is_launch (item ∷ items))
launches_more item items is all = subst (λ (b : Bool). IsTrue (b && list_all is_launch items)) (sym is) all

grows_here : {E : Type 0} (n w : ℕ) (J K : List (Entry E)) → w ≡ n → GrowsBy by_entry w J K → GrowsBy by_entry n J K
grows_here n w J K here g = subst (λ m. GrowsBy by_entry m J K) here g

-- ---- okd, pubd and oklogd

module _ (n : ℕ) (s t : Sat) (w : CellsSeen) (items : List Own) (here : s.number ≡ n) (a : AreOwn n s w items) where
  pub own_okd : (e : OkdEvent) (before : List (Entry OkdEvent)) → is_okd_launch e ≡ true → EntersOkd e before s t → AreOwn n t w (own.Okd e ∷ items)
  own_okd e before launch h = subst (λ (x : Sat). AreOwn n x w (own.Okd e ∷ items)) (sym h.is) (record {
    okd = enters n s.number e s.okd before (filter_map okd_item items) here (grows_here n s.number s.okd before here h.grows) a.okd;
    proxies = a.proxies;
    pubd = a.pubd;
    oklogd = a.oklogd;
    cells = a.cells;
    launches = launches_more (own.Okd e) items launch a.launches;
  })

  pub saw_okd : (before : List (Entry OkdEvent)) → SeesOkd before s t → AreOwn n t w items
  saw_okd before h = subst (λ (x : Sat). AreOwn n x w items) (sym h.is) (record {
    okd = sees n s.okd before (filter_map okd_item items) (grows_here n s.number s.okd before here h.grows) a.okd;
    proxies = a.proxies;
    pubd = a.pubd;
    oklogd = a.oklogd;
    cells = a.cells;
    launches = a.launches;
  })

  pub own_pubd : (e : PubdEvent) (before : List (Entry PubdEvent)) → is_pubd_launch e ≡ true → EntersPubd e before s t → AreOwn n t w (own.Pubd e ∷ items)
  own_pubd e before launch h = subst (λ (x : Sat). AreOwn n x w (own.Pubd e ∷ items)) (sym h.is) (record {
    okd = a.okd;
    proxies = a.proxies;
    pubd = enters n s.number e s.pubd before (filter_map pubd_item items) here (grows_here n s.number s.pubd before here h.grows) a.pubd;
    oklogd = a.oklogd;
    cells = a.cells;
    launches = launches_more (own.Pubd e) items launch a.launches;
  })

  pub saw_pubd : (before : List (Entry PubdEvent)) → SeesPubd before s t → AreOwn n t w items
  saw_pubd before h = subst (λ (x : Sat). AreOwn n x w items) (sym h.is) (record {
    okd = a.okd;
    proxies = a.proxies;
    pubd = sees n s.pubd before (filter_map pubd_item items) (grows_here n s.number s.pubd before here h.grows) a.pubd;
    oklogd = a.oklogd;
    cells = a.cells;
    launches = a.launches;
  })

  pub own_log : (e : LogEvent) (before : List (Entry LogEvent)) → is_log_launch e ≡ true → EntersLog e before s t → AreOwn n t w (own.Oklogd e ∷ items)
  own_log e before launch h = subst (λ (x : Sat). AreOwn n x w (own.Oklogd e ∷ items)) (sym h.is) (record {
    okd = a.okd;
    proxies = a.proxies;
    pubd = a.pubd;
    oklogd = enters n s.number e s.oklogd before (filter_map log_item items) here (grows_here n s.number s.oklogd before here h.grows) a.oklogd;
    cells = a.cells;
    launches = launches_more (own.Oklogd e) items launch a.launches;
  })

  pub saw_log : (before : List (Entry LogEvent)) → SeesLog before s t → AreOwn n t w items
  saw_log before h = subst (λ (x : Sat). AreOwn n x w items) (sym h.is) (record {
    okd = a.okd;
    proxies = a.proxies;
    pubd = a.pubd;
    oklogd = sees n s.oklogd before (filter_map log_item items) (grows_here n s.number s.oklogd before here h.grows) a.oklogd;
    cells = a.cells;
    launches = a.launches;
  })

-- ---- the proxies

-- the items of proxy q, where the last is one of proxy p
pub item_here : (p : ℕ) (e : ProxyEvent) (items : List Own) → filter_map (proxy_item p) (own.Proxy p e ∷ items) ≡ e ∷ filter_map (proxy_item p) items
item_here p e items = ap (λ (b : Bool). cons_option (if b then Some e else None) (filter_map (proxy_item p) items)) (eq-eqb p p refl)

pub item_there : (p q : ℕ) (e : ProxyEvent) (items : List Own) → q ≢ p → filter_map (proxy_item q) (own.Proxy p e ∷ items) ≡ filter_map (proxy_item q) items
item_there p q e items apart = ap (λ (b : Bool). cons_option (if b then Some e else None) (filter_map (proxy_item q) items)) (ne_eqb p q (λ is. apart (sym is)))

row_enters : (n p : ℕ) (e : ProxyEvent) (K : List (Entry ProxyEvent)) (ps : List (List (Entry ProxyEvent))) (items : List Own) → p < length ps → events_of n K ≡ e ∷ filter_map (proxy_item p) items
    → ((q : ℕ) → events_of n (proxy_past ps q) ≡ filter_map (proxy_item q) items) → (q : ℕ) → events_of n (proxy_past (slice_set ps p K) q) ≡ filter_map (proxy_item q) (own.Proxy p e ∷ items)
row_enters n p e K ps items within here rest q = dite (ℕ_discrete q p)
    (λ is. subst (λ m. events_of n (proxy_past (slice_set ps p K) m) ≡ filter_map (proxy_item m) (own.Proxy p e ∷ items)) (sym is)
    (ap (events_of n) (get_or-set_same ps p K [] within) ∙ (here ∙ sym (item_here p e items))))
    (λ apart. ap (events_of n) (get_or-set_other ps p q K [] apart) ∙ (rest q ∙ sym (item_there p q e items apart)))

row_sees : (n p : ℕ) (K : List (Entry ProxyEvent)) (ps : List (List (Entry ProxyEvent))) (items : List Own) → p < length ps → events_of n K ≡ filter_map (proxy_item p) items
    → ((q : ℕ) → events_of n (proxy_past ps q) ≡ filter_map (proxy_item q) items) → (q : ℕ) → events_of n (proxy_past (slice_set ps p K) q) ≡ filter_map (proxy_item q) items
row_sees n p K ps items within here rest q = dite (ℕ_discrete q p)
    (λ is. subst (λ m. events_of n (proxy_past (slice_set ps p K) m) ≡ filter_map (proxy_item m) items) (sym is) (ap (events_of n) (get_or-set_same ps p K [] within) ∙ here))
    (λ apart. ap (events_of n) (get_or-set_other ps p q K [] apart) ∙ rest q)

module _ (n p : ℕ) (s t : Sat) (w : CellsSeen) (items : List Own) (here : s.number ≡ n) (within : p < length s.proxies) (a : AreOwn n s w items) where
  pub own_proxy : (e : ProxyEvent) (before : List (Entry ProxyEvent)) → is_proxy_launch e ≡ true → EntersProxy p e before s t → AreOwn n t w (own.Proxy p e ∷ items)
  own_proxy e before launch h = subst (λ (x : Sat). AreOwn n x w (own.Proxy p e ∷ items)) (sym h.is) (record {
    okd = a.okd;
    proxies = row_enters n p e (record { worker = s.number; event = e } ∷ before) s.proxies items within
        (enters n s.number e (proxy_past s.proxies p) before (filter_map (proxy_item p) items) here (grows_here n s.number (proxy_past s.proxies p) before here h.grows) (a.proxies p)) a.proxies;
    pubd = a.pubd;
    oklogd = a.oklogd;
    cells = a.cells;
    launches = launches_more (own.Proxy p e) items launch a.launches;
  })

  pub saw_proxy : (before : List (Entry ProxyEvent)) → SeesProxy p before s t → AreOwn n t w items
  saw_proxy before h = subst (λ (x : Sat). AreOwn n x w items) (sym h.is) (record {
    okd = a.okd;
    proxies = row_sees n p before s.proxies items within
        (sees n (proxy_past s.proxies p) before (filter_map (proxy_item p) items) (grows_here n s.number (proxy_past s.proxies p) before here h.grows) (a.proxies p)) a.proxies;
    pubd = a.pubd;
    oklogd = a.oklogd;
    cells = a.cells;
    launches = a.launches;
  })

-- ---- the cells

none_first : (e : CellEvent) (xs : List CellEvent) → e ∷ xs ≡ [] → ⊥
none_first e xs is = absurd (cc)

tail_none : (n : ℕ) (e : CellEvent) (more : List CellEvent) → of (by_event n) n (e ∷ more) ≡ [] → (by_event n e ≢ n) × (of (by_event n) n more ≡ [])
tail_none n e more none = dite (ℕ_discrete (by_event n e) n)
    (λ is. absurd (none_first e (of (by_event n) n more) (subst (λ (b : Bool). (if b then e ∷ of (by_event n) n more else of (by_event n) n more) ≡ []) (eq-eqb (by_event n e) n is) none)))
    (λ not. (not, subst (λ (b : Bool). (if b then e ∷ of (by_event n) n more else of (by_event n) n more) ≡ []) (ne_eqb (by_event n e) n not) none))

cell_others : (n s : ℕ) (more J : List CellEvent) → of (by_event n) n more ≡ [] → cell_items n n s (more ++ J) ≡ cell_items n n s J
cell_others n s [] J none = refl
cell_others n s (cell.Boot k ∷ more) J none = absurd ((tail_none n (cell.Boot k) more none).0 refl)
cell_others n s (cell.Retired ∷ more) J none = absurd ((tail_none n cell.Retired more none).0 refl)
cell_others n s (cell.Missed v wanted is ∷ more) J none =
    let h = tail_none n (cell.Missed v wanted is) more none in
    ap (λ (b : Bool). if b then own.Missed s wanted is ∷ cell_items n n s (more ++ J) else cell_items n n s (more ++ J)) (ne_eqb v n h.0) ∙ cell_others n s more J h.1
cell_others n s (cell.Dialog d ∷ more) J none =
    let h = tail_none n (cell.Dialog d) more none in
    ap (λ (b : Bool). if b then own.Dialog s ∷ cell_items n n s (more ++ J) else cell_items n n s (more ++ J)) (ne_eqb d.worker n h.0) ∙ cell_others n s more J h.1
cell_others n s (cell.Speaking v spoken ∷ more) J none =
    let h = tail_none n (cell.Speaking v spoken) more none in
    ap (λ (b : Bool). if b then own.Dialog s ∷ cell_items n n s (more ++ J) else cell_items n n s (more ++ J)) (ne_eqb v n h.0) ∙ cell_others n s more J h.1

pub cell_sees : (n s : ℕ) (I J : List CellEvent) (items : List Own) → GrowsBy (by_event n) n I J → cell_items n n s I ≡ items → cell_items n n s J ≡ items
cell_sees n s I J items g is = ap (cell_items n n s) g.2 ∙ (cell_others n s g.0 I g.1 ∙ is)

cell_boots : (n s k : ℕ) (J : List CellEvent) → cell_items n n s (cell.Boot k ∷ J) ≡ own.Boot s k ∷ cell_items n n s J
cell_boots n s k J = ap (λ (b : Bool). if b then own.Boot s k ∷ cell_items n n s J else cell_items n n s J) (eq-eqb n n refl)

cell_retires : (n s : ℕ) (J : List CellEvent) → cell_items n n s (cell.Retired ∷ J) ≡ own.Retired s ∷ cell_items n n s J
cell_retires n s J = ap (λ (b : Bool). if b then own.Retired s ∷ cell_items n n s J else cell_items n n s J) (eq-eqb n n refl)

-- the items at cell q, where the last may be one there
at_here : (u : ℕ) (item : Own) (items : List Own) (b : Bool) → b ≡ true → (if b then item ∷ filter (is_at_cell u) items else filter (is_at_cell u) items) ≡ item ∷ filter (is_at_cell u) items
at_here u item items b is = ap (λ (c : Bool). if c then item ∷ filter (is_at_cell u) items else filter (is_at_cell u) items) is

at_there : (q : ℕ) (item : Own) (items : List Own) (b : Bool) → b ≡ false → (if b then item ∷ filter (is_at_cell q) items else filter (is_at_cell q) items) ≡ filter (is_at_cell q) items
at_there q item items b is = ap (λ (c : Bool). if c then item ∷ filter (is_at_cell q) items else filter (is_at_cell q) items) is

module _ (n u : ℕ) (s : Sat) (w v : CellsSeen) (items : List Own) (before : List CellEvent) (only : OnlyAt u w v) (grows : GrowsBy (by_event n) n (seen_at w u) before) (a : AreOwn n s w items) where
  pub own_boot : (k : ℕ) → seen_at v u ≡ cell.Boot k ∷ before → AreOwn n s v (own.Boot u k ∷ items)
  own_boot k is = record {
    okd = a.okd;
    proxies = a.proxies;
    pubd = a.pubd;
    oklogd = a.oklogd;
    cells = λ q. dite (ℕ_discrete q u)
        (λ same. subst (λ m. cell_items n n m (seen_at v m) ≡ filter (is_at_cell m) (own.Boot u k ∷ items)) (sym same)
        (ap (cell_items n n u) is ∙ (cell_boots n u k before ∙ (ap (λ (l : List Own). own.Boot u k ∷ l) (cell_sees n u (seen_at w u) before (filter (is_at_cell u) items) grows (a.cells u))
        ∙ sym (at_here u (own.Boot u k) items (u == u) (eq-eqb u u refl))))))
        (λ apart. ap (cell_items n n q) (only_else u q w v apart only) ∙ (a.cells q ∙ sym (at_there q (own.Boot u k) items (u == q) (ne_eqb u q (λ e. apart (sym e))))));
    launches = a.launches;
  }

  pub own_retired : seen_at v u ≡ cell.Retired ∷ before → AreOwn n s v (own.Retired u ∷ items)
  own_retired is = record {
    okd = a.okd;
    proxies = a.proxies;
    pubd = a.pubd;
    oklogd = a.oklogd;
    cells = λ q. dite (ℕ_discrete q u)
        (λ same. subst (λ m. cell_items n n m (seen_at v m) ≡ filter (is_at_cell m) (own.Retired u ∷ items)) (sym same)
        (ap (cell_items n n u) is ∙ (cell_retires n u before ∙ (ap (λ (l : List Own). own.Retired u ∷ l) (cell_sees n u (seen_at w u) before (filter (is_at_cell u) items) grows (a.cells u))
        ∙ sym (at_here u (own.Retired u) items (u == u) (eq-eqb u u refl))))))
        (λ apart. ap (cell_items n n q) (only_else u q w v apart only) ∙ (a.cells q ∙ sym (at_there q (own.Retired u) items (u == q) (ne_eqb u q (λ e. apart (sym e))))));
    launches = a.launches;
  }

  pub saw_cell : seen_at v u ≡ before → AreOwn n s v items
  saw_cell is = record {
    okd = a.okd;
    proxies = a.proxies;
    pubd = a.pubd;
    oklogd = a.oklogd;
    cells = λ q. dite (ℕ_discrete q u)
        (λ same. subst (λ m. cell_items n n m (seen_at v m) ≡ filter (is_at_cell m) items) (sym same)
        (ap (cell_items n n u) is ∙ cell_sees n u (seen_at w u) before (filter (is_at_cell u) items) grows (a.cells u)))
        (λ apart. ap (cell_items n n q) (only_else u q w v apart only) ∙ a.cells q);
    launches = a.launches;
  }

-- ---- nothing was seen

pub no_past : (m p : ℕ) → proxy_past (replicate m []) p ≡ []
no_past zero p = refl
no_past (suc m) zero = refl
no_past (suc m) (suc p) = no_past m p

pub own_none : (C : Config) (n : ℕ) (w : CellsSeen) → IsNew (length C.services) n w → AreOwn n (fresh (length C.proxies) n) w []
own_none C n w new = record {
  okd = refl;
  proxies = λ p. ap (events_of n) (no_past (length C.proxies) p);
  pubd = refl;
  oklogd = refl;
  cells = λ s. ap (cell_items n n s) (new_at (length C.services) n s w new);
  launches = refl;
}
