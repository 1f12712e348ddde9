-- How what a number has seen is tied to its own items, and to the record.
use Rattle.std.proofs.Common.{◌≡◌, ◌≢◌, ℕ, suc, ◌+◌, ◌<◌, ◌≤◌, Bool, true, false, cond, List, [], ◌∷◌, ◌++◌, ◌==◌, refl, sym, ap, ◌∙◌, subst, arith, length, filter, filter_map, map, length-set, get_or-set_same, get_or-set_other, eqb-true, eq-eqb, ne_eqb, ap₂}
use Rattle.std.proofs.lemmas.Bool.{eqb-false}
use Rattle.std.specs.Prelude.{slice_set, ◌&&◌}
use Rattle.okws_base.specs.Past.{AllForeign, Grows, events_of}
use Rattle.okws_base.specs.declared.journal.Entry.{Entry}
use Rattle.okws_plan.specs.declared.event.LauncherEvent.{LauncherEvent}
use Rattle.okws_plan.specs.declared.event.LogEvent.{LogEvent}
use Rattle.okws_plan.specs.declared.event.OkdEvent.{OkdEvent}
use Rattle.okws_plan.specs.declared.event.ProxyEvent.{ProxyEvent}
use Rattle.okws_plan.specs.declared.event.PubdEvent.{PubdEvent}
use Rattle.monitor_model.specs.declared.record.CellEvent.{CellEvent}
use Rattle.monitor_model.specs.declared.record.CellEvent.TheVariants as cell
use Rattle.monitor_model.specs.declared.record.Own.{Own}
use Rattle.monitor_model.specs.declared.record.Own.TheVariants as own
use Rattle.monitor_model.specs.declared.record.Record.{Record}
use Rattle.monitor_model.specs.Cell.{CellLaw}
use Rattle.monitor_model.specs.Lawful.{AllStandThere}
use Rattle.monitor_model.specs.Merged.{okd_item, proxy_item, pubd_item, log_item, launcher_item}
use Rattle.monitor_model.specs.Missing.{AreTrulyMissed}
use Rattle.monitor_model.specs.Placed.{count_of, up_to_nth, up_to_each, seen_after}
use Rattle.monitor_model.specs.Seen.{Seen, AtOkd, AtProxy, AtPubd, AtLog, AtLauncher, proxy_past}
use Rattle.monitor_model.specs.Tied.{OwnsEntries, OwnsColumns, EndsIn, EndsInOwn, GoesOnFrom, RowGoesOn, WentOn, AllEnded}

-- ---- others' entries

others_leave : {E : Type 0} (w : ℕ) (more J : List (Entry E)) → AllForeign w more → events_of w (more ++ J) ≡ events_of w J
others_leave w [] J foreign = refl
others_leave w (e ∷ more) J foreign = rw (ne_eqb e.worker w foreign.0) (others_leave w more J foreign.1)

pub others_leave_entries : {E : Type 0} (w : ℕ) (J now : List (Entry E)) → Grows w J now → events_of w now ≡ events_of w J
others_leave_entries w J now grows = ap (events_of w) grows.2 ∙ others_leave w grows.0 J grows.1

own_more : {E : Type 0} (w : ℕ) (event : E) (J : List (Entry E)) → events_of w (record { worker = w; event = event } ∷ J) ≡ event ∷ events_of w J
own_more w event J = rw (eq-eqb w w refl) refl

own_grown : {E : Type 0} (w : ℕ) (event : E) (J before : List (Entry E)) → Grows w J before → events_of w (record { worker = w; event = event } ∷ before) ≡ event ∷ events_of w J
own_grown {E} w event J before grows = own_more w event before ∙ ap (λ (events : List E). event ∷ events) (others_leave_entries w J before grows)

pub ends_are_own : (R : Record) (proxies w : ℕ) (J : Seen) → OwnsEntries proxies w J → EndsIn R w J → OwnsColumns R w J.own
ends_are_own R proxies w J o e = record {
  okd = others_leave_entries w J.okd R.okd e.okd ∙ o.okd;
  proxies = λ p. others_leave_entries w (proxy_past J.proxies p) (proxy_past R.proxies p) (e.proxies p) ∙ o.proxies_are p;
  pubd = others_leave_entries w J.pubd R.pubd e.pubd ∙ o.pubd;
  oklogd = others_leave_entries w J.oklogd R.oklogd e.oklogd ∙ o.oklogd;
}

-- ---- one entry

proxy_here : (w p : ℕ) (event : ProxyEvent) (J : Seen) (before : List (Entry ProxyEvent)) → p < length J.proxies → Grows w (proxy_past J.proxies p) before
    → events_of w (proxy_past J.proxies p) ≡ filter_map (proxy_item p) J.own
    → events_of w (proxy_past (slice_set J.proxies p (record { worker = w; event = event } ∷ before)) p) ≡ filter_map (proxy_item p) (own.Proxy p event ∷ J.own)
proxy_here w p event J before declared grows owns =
    rw (get_or-set_same J.proxies p (record { worker = w; event = event } ∷ before) [] declared, eq-eqb p p refl)
    (own_grown w event (proxy_past J.proxies p) before grows ∙ ap (λ (events : List ProxyEvent). event ∷ events) owns)

proxy_entered : (w p : ℕ) (event : ProxyEvent) (J : Seen) (before : List (Entry ProxyEvent)) (q : ℕ) (b : Bool) → (p == q) ≡ b → p < length J.proxies → Grows w (proxy_past J.proxies p) before
    → events_of w (proxy_past J.proxies q) ≡ filter_map (proxy_item q) J.own
    → events_of w (proxy_past (slice_set J.proxies p (record { worker = w; event = event } ∷ before)) q) ≡ filter_map (proxy_item q) (own.Proxy p event ∷ J.own)
proxy_entered w p event J before q true here declared grows owns =
    let same : p ≡ q = eqb-true p q here in
    subst (λ (r : ℕ). events_of w (proxy_past (slice_set J.proxies p (record { worker = w; event = event } ∷ before)) r) ≡ filter_map (proxy_item r) (own.Proxy p event ∷ J.own)) same
    (proxy_here w p event J before declared grows (subst (λ (r : ℕ). events_of w (proxy_past J.proxies r) ≡ filter_map (proxy_item r) J.own) (sym same) owns))
proxy_entered w p event J before q false there declared grows owns =
    let away : q ≢ p = (λ (is : q ≡ p). eqb-false p q there (sym is)) in
    rw (get_or-set_other J.proxies p q (record { worker = w; event = event } ∷ before) [] away, there) owns

pub proxy_keeps : (n w p : ℕ) (event : ProxyEvent) (J : Seen) (before : List (Entry ProxyEvent)) (now : Seen) → p < n → AtProxy w p event J before now → OwnsEntries n w J → OwnsEntries n w now
proxy_keeps n w p event J before now declared at o = subst (OwnsEntries n w) (sym at.1) (record {
  many = length-set J.proxies p (record { worker = w; event = event } ∷ before) ∙ o.many;
  okd = o.okd;
  proxies_are = λ q. proxy_entered w p event J before q (p == q) refl (rw o.many declared) at.0 (o.proxies_are q);
  pubd = o.pubd;
  oklogd = o.oklogd;
  launcher = o.launcher;
})

pub pubd_keeps : (n w : ℕ) (event : PubdEvent) (J : Seen) (before : List (Entry PubdEvent)) (now : Seen) → AtPubd w event J before now → OwnsEntries n w J → OwnsEntries n w now
pubd_keeps n w event J before now at o = subst (OwnsEntries n w) (sym at.1) (record {
  many = o.many;
  okd = o.okd;
  proxies_are = o.proxies_are;
  pubd = own_grown w event J.pubd before at.0 ∙ ap (λ (events : List PubdEvent). event ∷ events) o.pubd;
  oklogd = o.oklogd;
  launcher = o.launcher;
})

pub log_keeps : (n w : ℕ) (event : LogEvent) (J : Seen) (before : List (Entry LogEvent)) (now : Seen) → AtLog w event J before now → OwnsEntries n w J → OwnsEntries n w now
log_keeps n w event J before now at o = subst (OwnsEntries n w) (sym at.1) (record {
  many = o.many;
  okd = o.okd;
  proxies_are = o.proxies_are;
  pubd = o.pubd;
  oklogd = own_grown w event J.oklogd before at.0 ∙ ap (λ (events : List LogEvent). event ∷ events) o.oklogd;
  launcher = o.launcher;
})

pub okd_keeps : (n w : ℕ) (event : OkdEvent) (J : Seen) (before : List (Entry OkdEvent)) (now : Seen) → AtOkd w event J before now → OwnsEntries n w J → OwnsEntries n w now
okd_keeps n w event J before now at o = subst (OwnsEntries n w) (sym at.1) (record {
  many = o.many;
  okd = own_grown w event J.okd before at.0 ∙ ap (λ (events : List OkdEvent). event ∷ events) o.okd;
  proxies_are = o.proxies_are;
  pubd = o.pubd;
  oklogd = o.oklogd;
  launcher = o.launcher;
})

pub launcher_keeps : (n w : ℕ) (event : LauncherEvent) (J : Seen) (before : List (Entry LauncherEvent)) (now : Seen) → AtLauncher w event J before now → OwnsEntries n w J → OwnsEntries n w now
launcher_keeps n w event J before now at o = subst (OwnsEntries n w) (sym at.1) (record {
  many = o.many;
  okd = o.okd;
  proxies_are = o.proxies_are;
  pubd = o.pubd;
  oklogd = o.oklogd;
  launcher = own_grown w event J.launcher before at.0 ∙ ap (λ (events : List LauncherEvent). event ∷ events) o.launcher;
})

-- ---- what was seen is placed

pub count_more : {E : Type 0} (w : ℕ) (more J : List (Entry E)) → count_of w J ≤ count_of w (more ++ J)
count_more w [] J = omega arith
count_more {E} w (e ∷ more) J = by (e.worker == w) (count_more w more J)
  where
    by : (b : Bool) → count_of w J ≤ count_of w (more ++ J) → count_of w J ≤ length (map (λ (f : Entry E). f.event) (cond b (e ∷ filter (λ (f : Entry E). f.worker == w) (more ++ J)) (filter (λ (f : Entry E). f.worker == w) (more ++ J))))
    by true before = omega (arith, before)
    by false before = before

-- behind the n-th entry nothing is the n-th
skips : {E : Type 0} (w n : ℕ) (e : Entry E) (K : List (Entry E)) → n ≤ count_of w K → up_to_nth w n (e ∷ K) ≡ up_to_nth w n K
skips {E} w n e K behind = by (e.worker == w)
  where
    by : (b : Bool) → cond (b && (count_of w K + 1 == n)) (e ∷ K) (up_to_nth w n K) ≡ up_to_nth w n K
    by true = rw (ne_eqb (count_of w K + 1) n (λ (is : count_of w K + 1 ≡ n). omega (arith, is, behind))) refl
    by false = refl

at_its_entry : {E : Type 0} (w : ℕ) (J : List (Entry E)) → EndsInOwn w J → up_to_nth w (count_of w J) J ≡ J
at_its_entry w [] ends = refl
at_its_entry w (e ∷ J) ends =
    let here : (e.worker == w) ≡ true = eq-eqb e.worker w ends in
    let count : count_of w (e ∷ J) ≡ count_of w J + 1 = rw here (omega arith) in
    rw (count, here, eq-eqb (count_of w J + 1) (count_of w J + 1) refl) refl

behind_it : {E : Type 0} (w : ℕ) (more J : List (Entry E)) → EndsInOwn w J → up_to_nth w (count_of w J) (more ++ J) ≡ J
behind_it w [] J ends = at_its_entry w J ends
behind_it w (e ∷ more) J ends = skips w (count_of w J) e (more ++ J) (count_more w more J) ∙ behind_it w more J ends

went_on_is : {E : Type 0} (w : ℕ) (events : List E) (J K : List (Entry E)) → GoesOnFrom w events J K → up_to_nth w (length events) K ≡ J
went_on_is w events J K g = rw (g.is, sym g.own) (behind_it w g.more J g.ends)

row_is : (w : ℕ) (items : List Own) (p : ℕ) (Js Ks : List (List (Entry ProxyEvent))) → RowGoesOn w items p Js Ks → up_to_each w items p Ks ≡ Js
row_is w items p [] [] g = refl
row_is w items p [] (K ∷ Ks) g = absurd g
row_is w items p (J ∷ Js) [] g = absurd g
row_is w items p (J ∷ Js) (K ∷ Ks) g = ap₂ (λ (x : List (Entry ProxyEvent)) (xs : List (List (Entry ProxyEvent))). x ∷ xs) (went_on_is w (filter_map (proxy_item p) items) J K g.0) (row_is w items (suc p) Js Ks g.1)

pub seen_is_placed : (R : Record) (w : ℕ) (J : Seen) → WentOn R w J → seen_after R w J.own ≡ J
seen_is_placed R w J g =
    rw (
      went_on_is w (filter_map okd_item J.own) J.okd R.okd g.okd,
      row_is w J.own 0 J.proxies R.proxies g.proxies,
      went_on_is w (filter_map pubd_item J.own) J.pubd R.pubd g.pubd,
      went_on_is w (filter_map log_item J.own) J.oklogd R.oklogd g.oklogd,
      went_on_is w (filter_map launcher_item J.own) J.launcher R.launcher g.launcher,
    ) refl

-- ---- a cell's law

pub cell_laws_are_parts : (J : List CellEvent) → CellLaw J → AllEnded J → AreTrulyMissed J × AllStandThere J
cell_laws_are_parts [] law ended = (tt, tt)
cell_laws_are_parts (cell.Boot k ∷ J) law ended = let before = cell_laws_are_parts J law.0 ended.0 in ((before.0, tt), (before.1, law.2))
cell_laws_are_parts (cell.Retired ∷ J) law ended = let before = cell_laws_are_parts J law.0 ended.0 in ((before.0, tt), (before.1, law.2))
cell_laws_are_parts (cell.Missed worker wanted is ∷ J) law ended = let before = cell_laws_are_parts J law.0 ended.0 in ((before.0, law.2), (before.1, tt))
cell_laws_are_parts (cell.Dialog d ∷ J) law ended = let before = cell_laws_are_parts J law.0 ended.0 in ((before.0, tt), (before.1, law.2))
cell_laws_are_parts (cell.Speaking worker items ∷ J) law ended = absurd ended.1
