-- How what a worker has seen goes on in a dialog: its entries stay its items, each column goes on from what it was, and each item is an entry that the dialog may make.
use Rattle.std.proofs.Common.{◌≡◌, ◌≢◌, ℕ, zero, suc, ◌<◌, Bool, true, false, cond, List, [], ◌∷◌, ◌++◌, ◌==◌, refl, sym, ap, ◌∙◌, subst, arith, inl, inr, length, get_or-set_same, get_or-set_other, eqb-true, eq-eqb, Option, Some, None, is_none, not}
use Rattle.std.proofs.lemmas.Bool.{eqb-false, ltb-true}
use Rattle.std.specs.List.{list_all}
use Rattle.std.specs.Prelude.{slice_get, slice_set, find, nat_lt, ◌⊎◌}
use Rattle.okws_base.specs.Past.{Grows}
use Rattle.okws_base.specs.Turns.{Behind}
use Rattle.okws_base.specs.declared.journal.Entry.{Entry}
use Rattle.okws_base.specs.declared.denial.Rule.{Rule}
use Rattle.okws_base.specs.declared.denial.Rule.TheVariants as rule
use Rattle.okws_base.specs.declared.value.Value.{Value}
use Rattle.okws_plan.specs.Configuration.{grants, queries_of, query}
use Rattle.okws_plan.specs.declared.configuration.Config.{Config}
use Rattle.okws_plan.specs.declared.configuration.ProxyPlan.{ProxyPlan}
use Rattle.okws_plan.specs.declared.configuration.Query.{Query}
use Rattle.okws_plan.specs.declared.event.Call.{Call as Called}
use Rattle.okws_plan.specs.declared.event.LauncherEvent.{LauncherEvent}
use Rattle.okws_plan.specs.declared.event.LogEvent.{LogEvent}
use Rattle.okws_plan.specs.declared.event.LogEvent.TheVariants as oklogd
use Rattle.okws_plan.specs.declared.event.OkdEvent.{OkdEvent}
use Rattle.okws_plan.specs.declared.event.ProxyEvent.{ProxyEvent}
use Rattle.okws_plan.specs.declared.event.ProxyEvent.TheVariants as proxy
use Rattle.okws_plan.specs.declared.event.PubdEvent.{PubdEvent}
use Rattle.okws_plan.specs.declared.event.PubdEvent.TheVariants as pubd
use Rattle.frame_codec.specs.Spelling.{server_spelling}
use Rattle.frame_codec.specs.declared.frame.ServiceFrame.{ServiceFrame}
use Rattle.frame_codec.specs.declared.frame.ServiceFrame.TheVariants.{Open, Call, Get, Log, Reply}
use Rattle.frame_codec.specs.declared.frame.ServerFrame.{ServerFrame}
use Rattle.monitor_model.specs.declared.record.End.{End}
use Rattle.monitor_model.specs.declared.record.End.TheVariants as end
use Rattle.monitor_model.specs.declared.record.Item.{Item}
use Rattle.monitor_model.specs.declared.record.Item.TheVariants.{Heard, Said}
use Rattle.monitor_model.specs.declared.record.Own.{Own}
use Rattle.monitor_model.specs.declared.record.Own.TheVariants as own
use Rattle.monitor_model.specs.Course.{Speaker, Answers, Ends, IsAnswered, IsDialog, IsNextOf, IsOpening, Unanswered, called}
use Rattle.monitor_model.specs.Pieces.{is_entry_of, is_proxy_entry_of, is_pubd_entry_of, is_log_entry_of}
use Rattle.monitor_model.specs.Proxy.{allowed, granted, opened, query_denial}
use Rattle.monitor_model.specs.Seen.{Seen, AtOkd, AtProxy, AtPubd, AtLog, AtLauncher, proxy_past}
use Rattle.monitor_model.specs.Standing.{live_at_proxy}
use Rattle.monitor_model.specs.Tied.{OwnsEntries, EndsInOwn}
use Rattle.monitor_model.proofs.Tied.{proxy_keeps, pubd_keeps, log_keeps, okd_keeps, launcher_keeps}

-- each column ends in the worker's own entry, if in any
pub record Trimmed (w : ℕ) (S : Seen) : Type 0 where
  pub okd : EndsInOwn w S.okd
  pub proxies : (p : ℕ) → EndsInOwn w (proxy_past S.proxies p)
  pub pubd : EndsInOwn w S.pubd
  pub oklogd : EndsInOwn w S.oklogd
  pub launcher : EndsInOwn w S.launcher

-- each column went on from what it was
pub record Since (I S : Seen) : Type 0 where
  pub okd : Behind I.okd S.okd
  pub proxies : (p : ℕ) → Behind (proxy_past I.proxies p) (proxy_past S.proxies p)
  pub pubd : Behind I.pubd S.pubd
  pub oklogd : Behind I.oklogd S.oklogd
  pub launcher : Behind I.launcher S.launcher

-- ---- behind

assoc : {A : Type 0} (xs ys zs : List A) → xs ++ (ys ++ zs) ≡ (xs ++ ys) ++ zs
assoc [] ys zs = refl
assoc {A} (x ∷ xs) ys zs = ap (λ (rest : List A). x ∷ rest) (assoc xs ys zs)

pub behind_itself : {A : Type 0} (J : List A) → Behind J J
behind_itself J = ([], refl)

pub behind_then : {A : Type 0} (I J K : List A) → Behind I J → Behind J K → Behind I K
behind_then {A} I J K i j = (j.0 ++ i.0, j.1 ∙ ap (λ (rest : List A). j.0 ++ rest) i.1 ∙ assoc j.0 i.0 I)

pub behind_entry : {E : Type 0} (w : ℕ) (e : Entry E) (J before : List (Entry E)) → Grows w J before → Behind J (e ∷ before)
behind_entry {E} w e J before grows = (e ∷ grows.0, ap (λ (rest : List (Entry E)). e ∷ rest) grows.2)

pub since_itself : (I : Seen) → Since I I
since_itself I = record {
  okd = behind_itself I.okd;
  proxies = λ p. behind_itself (proxy_past I.proxies p);
  pubd = behind_itself I.pubd;
  oklogd = behind_itself I.oklogd;
  launcher = behind_itself I.launcher;
}

pub since_then : (I J K : Seen) → Since I J → Since J K → Since I K
since_then I J K i j = record {
  okd = behind_then I.okd J.okd K.okd i.okd j.okd;
  proxies = λ p. behind_then (proxy_past I.proxies p) (proxy_past J.proxies p) (proxy_past K.proxies p) (i.proxies p) (j.proxies p);
  pubd = behind_then I.pubd J.pubd K.pubd i.pubd j.pubd;
  oklogd = behind_then I.oklogd J.oklogd K.oklogd i.oklogd j.oklogd;
  launcher = behind_then I.launcher J.launcher K.launcher i.launcher j.launcher;
}

-- ---- what one entry does

-- the worker's entries stay its items, its columns end in its own entries, and each goes on from what it was
pub record Steps (n w : ℕ) (S now : Seen) : Type 0 where
  pub owns : OwnsEntries n w S → OwnsEntries n w now
  pub trimmed : Trimmed w S → Trimmed w now
  pub since : Since S now

row_ends : (w p : ℕ) (event : ProxyEvent) (S : Seen) (before : List (Entry ProxyEvent)) (q : ℕ) (b : Bool) → (p == q) ≡ b → p < length S.proxies → EndsInOwn w (proxy_past S.proxies q)
    → EndsInOwn w (proxy_past (slice_set S.proxies p (record { worker = w; event = event } ∷ before)) q)
row_ends w p event S before q true here declared ends =
    let same : p ≡ q = eqb-true p q here in
    subst (λ (r : ℕ). EndsInOwn w (proxy_past (slice_set S.proxies p (record { worker = w; event = event } ∷ before)) r)) same
    (rw (get_or-set_same S.proxies p (record { worker = w; event = event } ∷ before) [] declared) refl)
row_ends w p event S before q false there declared ends =
    let away : q ≢ p = (λ (is : q ≡ p). eqb-false p q there (sym is)) in
    rw (get_or-set_other S.proxies p q (record { worker = w; event = event } ∷ before) [] away) ends

row_since : (w p : ℕ) (event : ProxyEvent) (S : Seen) (before : List (Entry ProxyEvent)) (q : ℕ) (b : Bool) → (p == q) ≡ b → p < length S.proxies → Grows w (proxy_past S.proxies p) before
    → Behind (proxy_past S.proxies q) (proxy_past (slice_set S.proxies p (record { worker = w; event = event } ∷ before)) q)
row_since w p event S before q true here declared grows =
    let same : p ≡ q = eqb-true p q here in
    subst (λ (r : ℕ). Behind (proxy_past S.proxies r) (proxy_past (slice_set S.proxies p (record { worker = w; event = event } ∷ before)) r)) same
    (rw (get_or-set_same S.proxies p (record { worker = w; event = event } ∷ before) [] declared)
    (behind_entry w (record { worker = w; event = event }) (proxy_past S.proxies p) before grows))
row_since w p event S before q false there declared grows =
    let away : q ≢ p = (λ (is : q ≡ p). eqb-false p q there (sym is)) in
    rw (get_or-set_other S.proxies p q (record { worker = w; event = event } ∷ before) [] away) (behind_itself (proxy_past S.proxies q))

pub proxy_steps : (n w p : ℕ) (event : ProxyEvent) (S : Seen) (before : List (Entry ProxyEvent)) (now : Seen) → p < n → length S.proxies ≡ n → AtProxy w p event S before now → Steps n w S now
proxy_steps n w p event S before now declared many at = record {
  owns = proxy_keeps n w p event S before now declared at;
  trimmed = λ t. subst (Trimmed w) (sym at.1) (record {
    okd = t.okd;
    proxies = λ q. row_ends w p event S before q (p == q) refl (rw many declared) (t.proxies q);
    pubd = t.pubd;
    oklogd = t.oklogd;
    launcher = t.launcher;
  });
  since = subst (Since S) (sym at.1) (record {
    okd = behind_itself S.okd;
    proxies = λ q. row_since w p event S before q (p == q) refl (rw many declared) at.0;
    pubd = behind_itself S.pubd;
    oklogd = behind_itself S.oklogd;
    launcher = behind_itself S.launcher;
  });
}

pub okd_steps : (n w : ℕ) (event : OkdEvent) (S : Seen) (before : List (Entry OkdEvent)) (now : Seen) → AtOkd w event S before now → Steps n w S now
okd_steps n w event S before now at = record {
  owns = okd_keeps n w event S before now at;
  trimmed = λ t. subst (Trimmed w) (sym at.1) (record { okd = refl; proxies = t.proxies; pubd = t.pubd; oklogd = t.oklogd; launcher = t.launcher });
  since = subst (Since S) (sym at.1) (record {
    okd = behind_entry w (record { worker = w; event = event }) S.okd before at.0;
    proxies = λ p. behind_itself (proxy_past S.proxies p);
    pubd = behind_itself S.pubd;
    oklogd = behind_itself S.oklogd;
    launcher = behind_itself S.launcher;
  });
}

pub pubd_steps : (n w : ℕ) (event : PubdEvent) (S : Seen) (before : List (Entry PubdEvent)) (now : Seen) → AtPubd w event S before now → Steps n w S now
pubd_steps n w event S before now at = record {
  owns = pubd_keeps n w event S before now at;
  trimmed = λ t. subst (Trimmed w) (sym at.1) (record { okd = t.okd; proxies = t.proxies; pubd = refl; oklogd = t.oklogd; launcher = t.launcher });
  since = subst (Since S) (sym at.1) (record {
    okd = behind_itself S.okd;
    proxies = λ p. behind_itself (proxy_past S.proxies p);
    pubd = behind_entry w (record { worker = w; event = event }) S.pubd before at.0;
    oklogd = behind_itself S.oklogd;
    launcher = behind_itself S.launcher;
  });
}

pub log_steps : (n w : ℕ) (event : LogEvent) (S : Seen) (before : List (Entry LogEvent)) (now : Seen) → AtLog w event S before now → Steps n w S now
log_steps n w event S before now at = record {
  owns = log_keeps n w event S before now at;
  trimmed = λ t. subst (Trimmed w) (sym at.1) (record { okd = t.okd; proxies = t.proxies; pubd = t.pubd; oklogd = refl; launcher = t.launcher });
  since = subst (Since S) (sym at.1) (record {
    okd = behind_itself S.okd;
    proxies = λ p. behind_itself (proxy_past S.proxies p);
    pubd = behind_itself S.pubd;
    oklogd = behind_entry w (record { worker = w; event = event }) S.oklogd before at.0;
    launcher = behind_itself S.launcher;
  });
}

pub launcher_steps : (n w : ℕ) (event : LauncherEvent) (S : Seen) (before : List (Entry LauncherEvent)) (now : Seen) → AtLauncher w event S before now → Steps n w S now
launcher_steps n w event S before now at = record {
  owns = launcher_keeps n w event S before now at;
  trimmed = λ t. subst (Trimmed w) (sym at.1) (record { okd = t.okd; proxies = t.proxies; pubd = t.pubd; oklogd = t.oklogd; launcher = refl });
  since = subst (Since S) (sym at.1) (record {
    okd = behind_itself S.okd;
    proxies = λ p. behind_itself (proxy_past S.proxies p);
    pubd = behind_itself S.pubd;
    oklogd = behind_itself S.oklogd;
    launcher = behind_entry w (record { worker = w; event = event }) S.launcher before at.0;
  });
}

-- ---- a dialog

-- behind I the worker's dialog at this cell went on to S
pub record Went (C : Config) (who : Speaker) (I S : Seen) : Type 0 where
  pub owns : OwnsEntries (length C.proxies) who.worker S
  pub trimmed : Trimmed who.worker I → Trimmed who.worker S
  pub since : Since I S
  pub taken : List Own
  pub taken_is : S.own ≡ taken ++ I.own
  pub entries : list_all (is_entry_of who.service) taken ≡ true

same_went : (C : Config) (who : Speaker) (I S now : Seen) → now ≡ S → Went C who I S → Went C who I now
same_went C who I S now is g = subst (Went C who I) (sym is) g

-- one item more
more_taken : (C : Config) (who : Speaker) (I S now : Seen) (item : Own) → Steps (length C.proxies) who.worker S now → now.own ≡ item ∷ S.own → is_entry_of who.service item ≡ true → Went C who I S → Went C who I now
more_taken C who I S now item steps own_is entry g = record {
  owns = steps.owns g.owns;
  trimmed = λ t. steps.trimmed (g.trimmed t);
  since = since_then I S now g.since steps.since;
  taken = item ∷ g.taken;
  taken_is = own_is ∙ ap (λ (rest : List Own). item ∷ rest) g.taken_is;
  entries = rw (entry) g.entries;
}

proxy_went : (C : Config) (who : Speaker) (I : Seen) (p : ℕ) (event : ProxyEvent) (S : Seen) (before : List (Entry ProxyEvent)) (now : Seen) → p < length C.proxies → is_proxy_entry_of who.service event ≡ true
    → AtProxy who.worker p event S before now → Went C who I S → Went C who I now
proxy_went C who I p event S before now declared entry at g =
    more_taken C who I S now (own.Proxy p event) (proxy_steps (length C.proxies) who.worker p event S before now declared g.owns.many at) (ap (λ (x : Seen). x.own) at.1) entry g

pubd_went : (C : Config) (who : Speaker) (I : Seen) (event : PubdEvent) (S : Seen) (before : List (Entry PubdEvent)) (now : Seen) → is_pubd_entry_of who.service event ≡ true
    → AtPubd who.worker event S before now → Went C who I S → Went C who I now
pubd_went C who I event S before now entry at g =
    more_taken C who I S now (own.Pubd event) (pubd_steps (length C.proxies) who.worker event S before now at) (ap (λ (x : Seen). x.own) at.1) entry g

log_went : (C : Config) (who : Speaker) (I : Seen) (event : LogEvent) (S : Seen) (before : List (Entry LogEvent)) (now : Seen) → is_log_entry_of who.service event ≡ true
    → AtLog who.worker event S before now → Went C who I S → Went C who I now
log_went C who I event S before now entry at g =
    more_taken C who I S now (own.Oklogd event) (log_steps (length C.proxies) who.worker event S before now at) (ap (λ (x : Seen). x.own) at.1) entry g

answers_went : (C : Config) (who : Speaker) (I : Seen) (frame : ServiceFrame) (J : Seen) (heard : ServerFrame) (now : Seen) → Answers C who frame J heard now
    → Went C who I J → Went C who I now
answers_went C who I (Open p shown) J heard now (inl h) o = same_went C who I J now h.2 o
answers_went C who I (Open p shown) J heard now (inr (inl h)) o = same_went C who I J now h.2 o
answers_went C who I (Open p shown) J heard now (inr (inr h)) o = proxy_went C who I p (proxy.Open who.service who.incarnation shown) J h.1 now (ltb-true p (length C.proxies) h.0) (eq-eqb who.service who.service refl) h.3 o
answers_went C who I (Call p n q args) J heard now (inl h) o = same_went C who I J now h.2 o
answers_went C who I (Call p n q args) J heard now (inr (inl h)) o = same_went C who I J now h.2 o
answers_went C who I (Call p n q args) J heard now (inr (inr h)) o = proxy_went C who I p (proxy.Call (called who n q args) h.2) J h.1 now (ltb-true p (length C.proxies) h.0) (eq-eqb who.service who.service refl) h.4 o
answers_went C who I (Get name) J heard now (inl h) o = same_went C who I J now h.1 o
answers_went C who I (Get name) J heard now (inr h) o = pubd_went C who I (pubd.Get who.service who.incarnation name) J h.0 now (eq-eqb who.service who.service refl) h.2 o
answers_went C who I (Log text) J heard now (inl h) o = same_went C who I J now h.1 o
answers_went C who I (Log text) J heard now (inr h) o = log_went C who I (oklogd.Log who.service who.incarnation text) J h.0 now (eq-eqb who.service who.service refl) h.2 o
answers_went C who I (Reply status content_type location content) J heard now h o = absurd h

answered_went : (C : Config) (who : Speaker) (I : Seen) (opened : List Item) (J : Seen) (items : List Item) (now : Seen) → IsAnswered C who opened J items now
    → Went C who I J → Went C who I now
answered_went C who I opened J [] now h o = absurd h
answered_went C who I opened J (Heard heard ∷ []) now h o = same_went C who I J now h.1 o
answered_went C who I opened J (Heard heard ∷ Heard other ∷ items) now h o = same_went C who I J now h.1 o
answered_went C who I opened J (Heard heard ∷ Said frame ∷ items) now h o = answers_went C who I frame h.0 heard now h.2 (answered_went C who I opened J items h.0 h.1 o)
answered_went C who I opened J (Said frame ∷ items) now h o = absurd h

-- a call that breaks no rule is of a declared proxy
get_some : {A : Type 0} (xs : List A) (n : ℕ) (a : A) → slice_get xs n ≡ Some a → n < length xs
get_some [] n a is = let never : ⊥ = cc in absurd never
get_some (x ∷ xs) zero a is = omega arith
get_some (x ∷ xs) (suc n) a is = let before : n < length xs = get_some xs n a is in omega (arith, before)

found_is_declared : (C : Config) (p q : ℕ) (args : List Value) (o : Option ProxyPlan) → slice_get C.proxies p ≡ o
    → is_none (query_denial (find (λ (x : Query). x.number == q) (queries_of o)) args) ≡ true → p < length C.proxies
found_is_declared C p q args None is allowed_it = let bad : false ≡ true = allowed_it in let never : ⊥ = cc in absurd never
found_is_declared C p q args (Some plan) is allowed_it = get_some C.proxies p plan is

granted_is_declared : (C : Config) (p q : ℕ) (args : List Value) (b : Bool) → is_none (query_denial (cond b (query C p q) None) args) ≡ true → p < length C.proxies
granted_is_declared C p q args true is = found_is_declared C p q args (slice_get C.proxies p) refl is
granted_is_declared C p q args false is = let bad : false ≡ true = is in let never : ⊥ = cc in absurd never

none_denied : (some live : Bool) (rest : Option Rule) → is_none (cond (not some) (Some rule.NoSession) (cond (not live) (Some rule.StaleToken) rest)) ≡ true → is_none rest ≡ true
none_denied true true rest is = is
none_denied true false rest is = let bad : false ≡ true = is in let never : ⊥ = cc in absurd never
none_denied false live rest is = let bad : false ≡ true = is in let never : ⊥ = cc in absurd never

allowed_is_declared : (C : Config) (p : ℕ) (J : List (Entry ProxyEvent)) (call : Called) → allowed C p J call ≡ true → p < length C.proxies
allowed_is_declared C p J call is =
    granted_is_declared C p call.query call.args (grants C call.service p call.query)
    (none_denied (nat_lt call.session (opened J call.service call.incarnation)) (live_at_proxy J call.service call.incarnation)
    (query_denial (granted C p call.service call.query) call.args) is)

unanswered_went : (C : Config) (who : Speaker) (I : Seen) (frame : ServiceFrame) (J now : Seen) → Unanswered C who frame J now
    → Went C who I J → Went C who I now
unanswered_went C who I (Call p n q args) J now (inl h) o = same_went C who I J now h o
unanswered_went C who I (Call p n q args) J now (inr h) o =
    proxy_went C who I p (proxy.Call (called who n q args) h.1) J h.0 now (allowed_is_declared C p h.0 (called who n q args) h.2) (eq-eqb who.service who.service refl) h.4 o
unanswered_went C who I (Open p shown) J now h o = same_went C who I J now h o
unanswered_went C who I (Get name) J now h o = same_went C who I J now h o
unanswered_went C who I (Log text) J now h o = same_went C who I J now h o
unanswered_went C who I (Reply status content_type location content) J now h o = same_went C who I J now h o

ends_went : (C : Config) (who : Speaker) (I : Seen) (since left due : List ℕ) (opened : List Item) (J : Seen) (items : List Item) (how : End) (now : Seen) → Ends C who since left due opened J items how now
    → Went C who I J → Went C who I now
ends_went C who I since left due opened J items end.Reply now h o = answered_went C who I opened J h.0 now h.2 o
ends_went C who I since left due opened J items (end.Superseded shown) now h o = answered_went C who I opened J items now h.1 o
ends_went C who I since left due opened J items end.BadFrame now h o = answered_went C who I opened J items now h.0 o
ends_went C who I since left due opened J items end.Ended now h o = answered_went C who I opened J items now h.0 o
ends_went C who I since left due opened J items end.FrameLimit now h o = answered_went C who I opened J h.1 now h.3 o
ends_went C who I since left due opened J items end.LinkFault now h o = by h.1
  where
    by : ((IsOpening opened J items now × IsNextOf opened items due) ⊎ (IsAnswered C who opened J items now × (due ≡ []))
        ⊎ ((said : ServiceFrame) × (heard : ServerFrame) × (before : List Item) × (mid : Seen) × (items ≡ Said said ∷ before) × IsAnswered C who opened J before mid
        × Answers C who said mid heard now × (due ≡ server_spelling heard)))
        → Went C who I now
    by (inl k) = same_went C who I J now k.0.2 o
    by (inr (inl k)) = answered_went C who I opened J items now k.0 o
    by (inr (inr k)) = answers_went C who I k.0 k.3 k.1 now k.6 (answered_went C who I opened J k.2 k.3 k.5 o)
ends_went C who I since left due opened J items end.Starved now h o = by h.1
  where
    by : (IsOpening opened J items now ⊎ IsAnswered C who opened J items now
        ⊎ ((said : ServiceFrame) × (before : List Item) × (mid : Seen) × (items ≡ Said said ∷ before) × IsAnswered C who opened J before mid × Unanswered C who said mid now))
        → Went C who I now
    by (inl k) = same_went C who I J now k.2 o
    by (inr (inl k)) = answered_went C who I opened J items now k o
    by (inr (inr k)) = unanswered_went C who I k.0 k.2 now k.5 (answered_went C who I opened J k.1 k.2 k.4 o)

pub dialog_went : (C : Config) (who : Speaker) (I : Seen) (since left due head content : List ℕ) (J now : Seen) (items : List Item) (how : End)
    → IsDialog C who since left due head content J items how now → Went C who I J → Went C who I now
dialog_went C who I since left due head content J now items how (inl h) o = same_went C who I J now h.4 o
dialog_went C who I since left due head content J now items how (inr h) o =
    ends_went C who I since left due _ h.1 items how now h.3 (pubd_went C who I (pubd.Drain who.service who.incarnation) J h.0 h.1 (eq-eqb who.service who.service refl) h.2 o)

-- where it begins
pub begins : (C : Config) (who : Speaker) (I : Seen) → OwnsEntries (length C.proxies) who.worker I → Went C who I I
begins C who I o = record { owns = o; trimmed = λ t. t; since = since_itself I; taken = []; taken_is = refl; entries = refl }

pub dialogs_keep_entries : (C : Config) (who : Speaker) (since left due head content : List ℕ) (J now : Seen) (items : List Item) (how : End)
    → IsDialog C who since left due head content J items how now → OwnsEntries (length C.proxies) who.worker J → OwnsEntries (length C.proxies) who.worker now
dialogs_keep_entries C who since left due head content J now items how is o = (dialog_went C who J since left due head content J now items how is (begins C who J o)).owns
