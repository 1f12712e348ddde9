-- What a worker saw of the journals grows to the record's, and each dialog that it held fits them.
use Rattle.std.proofs.Common.{◌≡◌, ℕ, ◌<◌, ◌⊎◌, inl, inr, true, List, [], ◌∷◌, ◌++◌, length, count_by, refl, sym, ap, subst, ◌∙◌, arith, append_assoc}
use Rattle.std.specs.Prelude.{slice_set, nat_lt}
use Rattle.std.proofs.lemmas.Bool.{ltb-true, cases_eq}
use Rattle.std.proofs.lemmas.List.{length-set, get_or-set_same, get_or-set_other}
use Rattle.okws_base.specs.declared.journal.Entry.{Entry}
use Rattle.okws_plan.specs.declared.configuration.Config.{Config}
use Rattle.okws_plan.specs.declared.event.ProxyEvent.{ProxyEvent}
use Rattle.okws_plan.specs.declared.event.ProxyEvent.TheVariants as proxy
use Rattle.okws_plan.specs.declared.event.PubdEvent.{PubdEvent}
use Rattle.okws_plan.specs.declared.event.PubdEvent.TheVariants as pubd
use Rattle.okws_plan.specs.declared.event.LogEvent.{LogEvent}
use Rattle.okws_plan.specs.declared.event.LogEvent.TheVariants as oklogd
use Rattle.frame_codec.specs.Spelling.{server_spelling}
use Rattle.frame_codec.specs.declared.frame.ServerFrame.{ServerFrame}
use Rattle.frame_codec.specs.declared.frame.ServerFrame.TheVariants as frame
use Rattle.frame_codec.specs.declared.frame.ServiceFrame.{ServiceFrame}
use Rattle.frame_codec.specs.declared.frame.ServiceFrame.TheVariants.{Open, Call, Get, Log, Reply}
use Rattle.monitor_model.specs.declared.record.End.{End}
use Rattle.monitor_model.specs.declared.record.End.TheVariants as end
use Rattle.monitor_model.specs.declared.record.Item.{Item}
use Rattle.monitor_model.specs.declared.record.Item.TheVariants.{Heard, Said}
use Rattle.monitor_model.specs.declared.record.Own.{Own}
use Rattle.monitor_model.specs.declared.record.Own.TheVariants as own
use Rattle.monitor_model.specs.declared.record.Record.{Record}
use Rattle.monitor_model.specs.Answered.{StandsIn, AnswersIn, AreAnsweredIn, EndsIn, IsDialogIn}
use Rattle.monitor_model.specs.Course.{Speaker, Answers, IsAnswered, Unanswered, IsNextOf, IsOpening, Ends, IsDialog, opening, called}
use Rattle.monitor_model.specs.Pubd.{drain_verdict}
use Rattle.monitor_model.specs.Seen.{Seen, AtOkd, AtProxy, AtPubd, AtLog, AtLauncher, noted, proxy_past}
use Rattle.okws_plan.specs.declared.event.OkdEvent.{OkdEvent}
use Rattle.okws_plan.specs.declared.event.LauncherEvent.{LauncherEvent}
use Rattle.monitor_model.specs.Worker.{is_dialog_at}

-- what holds from one state to a later one: as many proxies, and no dialog more in the own list
pub record Quiet (J now : Seen) : Type 0 where
  pub many : length now.proxies ≡ length J.proxies
  pub same : (s : ℕ) → count_by (is_dialog_at s) now.own ≡ count_by (is_dialog_at s) J.own

pub quiet_same : (J now : Seen) → now ≡ J → Quiet J now
quiet_same J now e = record { many = ap (λ (K : Seen). length K.proxies) e; same = λ s. ap (λ (K : Seen). count_by (is_dialog_at s) K.own) e }

pub quiet_then : (J mid now : Seen) → Quiet J mid → Quiet mid now → Quiet J now
quiet_then J mid now first next = record { many = next.many ∙ first.many; same = λ s. next.same s ∙ first.same s }

quiet_proxy : (w p : ℕ) (v : ProxyEvent) (J : Seen) (before : List (Entry ProxyEvent)) (now : Seen) → AtProxy w p v J before now → Quiet J now
quiet_proxy w p v J before now h = record {
  many = ap (λ (K : Seen). length K.proxies) h.1 ∙ length-set J.proxies p (record { worker = w; event = v } ∷ before);
  same = λ s. ap (λ (K : Seen). count_by (is_dialog_at s) K.own) h.1 ∙ omega arith;
}

pub quiet_pubd : (w : ℕ) (v : PubdEvent) (J : Seen) (before : List (Entry PubdEvent)) (now : Seen) → AtPubd w v J before now → Quiet J now
quiet_pubd w v J before now h = record { many = ap (λ (K : Seen). length K.proxies) h.1; same = λ s. ap (λ (K : Seen). count_by (is_dialog_at s) K.own) h.1 ∙ omega arith }

quiet_log : (w : ℕ) (v : LogEvent) (J : Seen) (before : List (Entry LogEvent)) (now : Seen) → AtLog w v J before now → Quiet J now
quiet_log w v J before now h = record { many = ap (λ (K : Seen). length K.proxies) h.1; same = λ s. ap (λ (K : Seen). count_by (is_dialog_at s) K.own) h.1 ∙ omega arith }

quiet_answer : (C : Config) (w : Speaker) (said : ServiceFrame) (J : Seen) (heard : ServerFrame) (now : Seen) → Answers C w said J heard now → Quiet J now
quiet_answer C w (Open p shown) J heard now (inl h) = quiet_same J now h.2
quiet_answer C w (Open p shown) J heard now (inr (inl h)) = quiet_same J now h.2
quiet_answer C w (Open p shown) J heard now (inr (inr h)) = quiet_proxy w.worker p (proxy.Open w.service w.incarnation shown) J h.1 now h.3
quiet_answer C w (Call p n q args) J heard now (inl h) = quiet_same J now h.2
quiet_answer C w (Call p n q args) J heard now (inr (inl h)) = quiet_same J now h.2
quiet_answer C w (Call p n q args) J heard now (inr (inr h)) = quiet_proxy w.worker p (proxy.Call (called w n q args) h.2) J h.1 now h.4
quiet_answer C w (Get name) J heard now (inl h) = quiet_same J now h.1
quiet_answer C w (Get name) J heard now (inr h) = quiet_pubd w.worker (pubd.Get w.service w.incarnation name) J h.0 now h.2
quiet_answer C w (Log text) J heard now (inl h) = quiet_same J now h.1
quiet_answer C w (Log text) J heard now (inr h) = quiet_log w.worker (oklogd.Log w.service w.incarnation text) J h.0 now h.2
quiet_answer C w (Reply status content_type location content) J heard now h = absurd h

quiet_answered : (C : Config) (w : Speaker) (opened : List Item) (J : Seen) (items : List Item) (now : Seen) → IsAnswered C w opened J items now → Quiet J now
quiet_answered C w opened J [] now h = absurd h
quiet_answered C w opened J (Heard heard ∷ []) now h = quiet_same J now h.1
quiet_answered C w opened J (Heard heard ∷ Heard other ∷ items) now h = quiet_same J now h.1
quiet_answered C w opened J (Heard heard ∷ Said said ∷ items) now h = quiet_then J h.0 now (quiet_answered C w opened J items h.0 h.1) (quiet_answer C w said h.0 heard now h.2)
quiet_answered C w opened J (Said said ∷ items) now h = absurd h

quiet_unanswered : (C : Config) (w : Speaker) (said : ServiceFrame) (J now : Seen) → Unanswered C w said J now → Quiet J now
quiet_unanswered C w (Call p n q args) J now (inl h) = quiet_same J now h
quiet_unanswered C w (Call p n q args) J now (inr h) = quiet_proxy w.worker p (proxy.Call (called w n q args) h.1) J h.0 now h.4
quiet_unanswered C w (Open p shown) J now h = quiet_same J now h
quiet_unanswered C w (Get name) J now h = quiet_same J now h
quiet_unanswered C w (Log text) J now h = quiet_same J now h
quiet_unanswered C w (Reply status content_type location content) J now h = quiet_same J now h

-- the record's journals grow from what was seen
pub record Ext (R : Record) (now : Seen) : Type 0 where
  pub many : length now.proxies ≡ length R.proxies
  pub proxies : (p : ℕ) → p < length R.proxies → (since : List (Entry ProxyEvent)) × (proxy_past R.proxies p ≡ since ++ proxy_past now.proxies p)
  pub pubd : (since : List (Entry PubdEvent)) × (R.pubd ≡ since ++ now.pubd)
  pub oklogd : (since : List (Entry LogEvent)) × (R.oklogd ≡ since ++ now.oklogd)

pub ext_same : (R : Record) (J now : Seen) → now ≡ J → Ext R now → Ext R J
ext_same R J now e x = subst (Ext R) e x

behind : {E : Type 0} (J since more : List E) (e : E) (last : List E) → J ≡ since ++ e ∷ (more ++ last) → J ≡ (since ++ e ∷ more) ++ last
behind J since more e last h = h ∙ sym (append_assoc since (e ∷ more) last)

ext_proxy : (R : Record) (w p : ℕ) (v : ProxyEvent) (J : Seen) (before : List (Entry ProxyEvent)) (now : Seen) → AtProxy w p v J before now → Ext R now → Ext R J
ext_proxy R w p v J before now h x = record { many = many; proxies = back; pubd = y.pubd; oklogd = y.oklogd }
  where
    entry : Entry ProxyEvent
    entry = record { worker = w; event = v }

    after : Seen
    after = record J { proxies = slice_set J.proxies p (entry ∷ before); own = own.Proxy p v ∷ J.own }

    y : Ext R after
    y = subst (Ext R) h.1 x

    many : length J.proxies ≡ length R.proxies
    many = sym (length-set J.proxies p (entry ∷ before)) ∙ y.many

    back : (q : ℕ) → q < length R.proxies → (since : List (Entry ProxyEvent)) × (proxy_past R.proxies q ≡ since ++ proxy_past J.proxies q)
    back q below = by (cases_eq q p) (y.proxies q below)
      where
        by : (q ≡ p) ⊎ (q ≡ p → ⊥) → (since : List (Entry ProxyEvent)) × (proxy_past R.proxies q ≡ since ++ proxy_past (slice_set J.proxies p (entry ∷ before)) q)
            → (since : List (Entry ProxyEvent)) × (proxy_past R.proxies q ≡ since ++ proxy_past J.proxies q)
        by (inl same) z =
            let sizes : length J.proxies ≡ length R.proxies = many in
            let here : p < length J.proxies = omega arith in
            let at : proxy_past (slice_set J.proxies p (entry ∷ before)) q ≡ entry ∷ before = ap (proxy_past (slice_set J.proxies p (entry ∷ before))) same ∙ get_or-set_same J.proxies p (entry ∷ before) [] here in
            let grown : before ≡ h.0.0 ++ proxy_past J.proxies q = h.0.2 ∙ ap (λ (n : ℕ). h.0.0 ++ proxy_past J.proxies n) (sym same) in
            (z.0 ++ entry ∷ h.0.0, behind (proxy_past R.proxies q) z.0 h.0.0 entry (proxy_past J.proxies q) (z.1 ∙ ap (λ (l : List (Entry ProxyEvent)). z.0 ++ l) (at ∙ ap (λ (l : List (Entry ProxyEvent)). entry ∷ l) grown)))
        by (inr other) z = (z.0, z.1 ∙ ap (λ (l : List (Entry ProxyEvent)). z.0 ++ l) (get_or-set_other J.proxies p q (entry ∷ before) [] other))

stands_proxy : (R : Record) (w p : ℕ) (v : ProxyEvent) (J : Seen) (before : List (Entry ProxyEvent)) (now : Seen) → AtProxy w p v J before now → Ext R now → p < length R.proxies → StandsIn (proxy_past R.proxies p) w v before
stands_proxy R w p v J before now h x below =
    let entry : Entry ProxyEvent = record { worker = w; event = v } in
    let many : length (slice_set J.proxies p (entry ∷ before)) ≡ length R.proxies = ap (λ (K : Seen). length K.proxies) (sym h.1) ∙ x.many in
    let size : length (slice_set J.proxies p (entry ∷ before)) ≡ length J.proxies = length-set J.proxies p (entry ∷ before) in
    let here : p < length J.proxies = omega arith in
    let at : proxy_past now.proxies p ≡ entry ∷ before = ap (λ (K : Seen). proxy_past K.proxies p) h.1 ∙ get_or-set_same J.proxies p (entry ∷ before) [] here in
    ((x.proxies p below).0, (x.proxies p below).1 ∙ ap (λ (l : List (Entry ProxyEvent)). (x.proxies p below).0 ++ l) at)

pub ext_pubd : (R : Record) (w : ℕ) (v : PubdEvent) (J : Seen) (before : List (Entry PubdEvent)) (now : Seen) → AtPubd w v J before now → Ext R now → Ext R J × StandsIn R.pubd w v before
ext_pubd R w v J before now h x = (record { many = y.many; proxies = y.proxies; pubd = (y.pubd.0 ++ entry ∷ h.0.0, grown); oklogd = y.oklogd }, y.pubd)
  where
    entry : Entry PubdEvent
    entry = record { worker = w; event = v }

    y : Ext R (record J { pubd = entry ∷ before; own = own.Pubd v ∷ J.own })
    y = subst (Ext R) h.1 x

    grown : R.pubd ≡ (y.pubd.0 ++ entry ∷ h.0.0) ++ J.pubd
    grown = behind R.pubd y.pubd.0 h.0.0 entry J.pubd (y.pubd.1 ∙ ap (λ (l : List (Entry PubdEvent)). y.pubd.0 ++ entry ∷ l) h.0.2)

ext_log : (R : Record) (w : ℕ) (v : LogEvent) (J : Seen) (before : List (Entry LogEvent)) (now : Seen) → AtLog w v J before now → Ext R now → Ext R J × StandsIn R.oklogd w v before
ext_log R w v J before now h x = (record { many = y.many; proxies = y.proxies; pubd = y.pubd; oklogd = (y.oklogd.0 ++ entry ∷ h.0.0, grown) }, y.oklogd)
  where
    entry : Entry LogEvent
    entry = record { worker = w; event = v }

    y : Ext R (record J { oklogd = entry ∷ before; own = own.Oklogd v ∷ J.own })
    y = subst (Ext R) h.1 x

    grown : R.oklogd ≡ (y.oklogd.0 ++ entry ∷ h.0.0) ++ J.oklogd
    grown = behind R.oklogd y.oklogd.0 h.0.0 entry J.oklogd (y.oklogd.1 ∙ ap (λ (l : List (Entry LogEvent)). y.oklogd.0 ++ entry ∷ l) h.0.2)

-- what answers a frame stands in the record's journals
below_declared : (C : Config) (R : Record) (p : ℕ) → length R.proxies ≡ length C.proxies → nat_lt p (length C.proxies) ≡ true → p < length R.proxies
below_declared C R p many h = let below : p < length C.proxies = ltb-true p (length C.proxies) h in omega arith

answer_fits : (C : Config) (R : Record) (w : Speaker) (said : ServiceFrame) (J : Seen) (heard : ServerFrame) (now : Seen) → length R.proxies ≡ length C.proxies → Answers C w said J heard now → Ext R now → AnswersIn C R w said heard × Ext R J
answer_fits C R w (Open p shown) J heard now many (inl h) x = (inl (h.0, h.1), ext_same R J now h.2 x)
answer_fits C R w (Open p shown) J heard now many (inr (inl h)) x = (inr (inl (h.0, h.1)), ext_same R J now h.2 x)
answer_fits C R w (Open p shown) J heard now many (inr (inr h)) x = (
  inr (inr (h.0, h.1, h.2, stands_proxy R w.worker p (proxy.Open w.service w.incarnation shown) J h.1 now h.3 x (below_declared C R p many h.0))),
  ext_proxy R w.worker p (proxy.Open w.service w.incarnation shown) J h.1 now h.3 x,
)
answer_fits C R w (Call p n q args) J heard now many (inl h) x = (inl (h.0, h.1), ext_same R J now h.2 x)
answer_fits C R w (Call p n q args) J heard now many (inr (inl h)) x = (inr (inl (h.0, h.1)), ext_same R J now h.2 x)
answer_fits C R w (Call p n q args) J heard now many (inr (inr h)) x = (
  inr (inr (h.0, h.1, h.2, h.3, stands_proxy R w.worker p (proxy.Call (called w n q args) h.2) J h.1 now h.4 x (below_declared C R p many h.0))),
  ext_proxy R w.worker p (proxy.Call (called w n q args) h.2) J h.1 now h.4 x,
)
answer_fits C R w (Get name) J heard now many (inl h) x = (inl h.0, ext_same R J now h.1 x)
answer_fits C R w (Get name) J heard now many (inr h) x = let both = ext_pubd R w.worker (pubd.Get w.service w.incarnation name) J h.0 now h.2 x in (inr (h.0, h.1, both.1), both.0)
answer_fits C R w (Log text) J heard now many (inl h) x = (inl h.0, ext_same R J now h.1 x)
answer_fits C R w (Log text) J heard now many (inr h) x = let both = ext_log R w.worker (oklogd.Log w.service w.incarnation text) J h.0 now h.2 x in (inr (h.0, h.1, both.1), both.0)
answer_fits C R w (Reply status content_type location content) J heard now many h x = absurd h

answered_fit : (C : Config) (R : Record) (w : Speaker) (opened : List Item) (J : Seen) (items : List Item) (now : Seen) → length R.proxies ≡ length C.proxies → IsAnswered C w opened J items now → Ext R now → AreAnsweredIn C R w opened items × Ext R J
answered_fit C R w opened J [] now many h x = absurd h
answered_fit C R w opened J (Heard heard ∷ []) now many h x = (h.0, ext_same R J now h.1 x)
answered_fit C R w opened J (Heard heard ∷ Heard other ∷ items) now many h x = (h.0, ext_same R J now h.1 x)
answered_fit C R w opened J (Heard heard ∷ Said said ∷ items) now many h x =
    let last = answer_fits C R w said h.0 heard now many h.2 x in
    let rest = answered_fit C R w opened J items h.0 many h.1 last.1 in
    ((rest.0, last.0), rest.1)
answered_fit C R w opened J (Said said ∷ items) now many h x = absurd h

unanswered_fits : (C : Config) (R : Record) (w : Speaker) (said : ServiceFrame) (J now : Seen) → Unanswered C w said J now → Ext R now → Ext R J
unanswered_fits C R w (Call p n q args) J now (inl h) x = ext_same R J now h x
unanswered_fits C R w (Call p n q args) J now (inr h) x = ext_proxy R w.worker p (proxy.Call (called w n q args) h.1) J h.0 now h.4 x
unanswered_fits C R w (Open p shown) J now h x = ext_same R J now h x
unanswered_fits C R w (Get name) J now h x = ext_same R J now h x
unanswered_fits C R w (Log text) J now h x = ext_same R J now h x
unanswered_fits C R w (Reply status content_type location content) J now h x = ext_same R J now h x

-- a dialog's end
quiet_ends : (C : Config) (w : Speaker) (since left due : List ℕ) (opened : List Item) (J : Seen) (items : List Item) (how : End) (now : Seen) → Ends C w since left due opened J items how now → Quiet J now
quiet_ends C w since left due opened J items end.Reply now h = quiet_answered C w opened J h.0 now h.2
quiet_ends C w since left due opened J items (end.Superseded shown) now h = quiet_answered C w opened J items now h.1
quiet_ends C w since left due opened J items end.BadFrame now h = quiet_answered C w opened J items now h.0
quiet_ends C w since left due opened J items end.Ended now h = quiet_answered C w opened J items now h.0
quiet_ends C w since left due opened J items end.FrameLimit now h = quiet_answered C w opened J h.1 now h.3
quiet_ends C w since left due opened J items end.LinkFault now h = by h.1
  where
    by : (IsOpening opened J items now × IsNextOf opened items due) ⊎ (IsAnswered C w opened J items now × (due ≡ []))
        ⊎ ((said : ServiceFrame) × (heard : ServerFrame) × (before : List Item) × (mid : Seen) × (items ≡ Said said ∷ before)
        × IsAnswered C w opened J before mid × Answers C w said mid heard now × (due ≡ server_spelling heard)) → Quiet J now
    by (inl f) = quiet_same J now f.0.2
    by (inr (inl a)) = quiet_answered C w opened J items now a.0
    by (inr (inr b)) = quiet_then J b.3 now (quiet_answered C w opened J b.2 b.3 b.5) (quiet_answer C w b.0 b.3 b.1 now b.6)
quiet_ends C w since left due opened J items end.Starved now h = by h.1
  where
    by : IsOpening opened J items now ⊎ IsAnswered C w opened J items now ⊎ ((said : ServiceFrame) × (before : List Item) × (mid : Seen) × (items ≡ Said said ∷ before)
        × IsAnswered C w opened J before mid × Unanswered C w said mid now) → Quiet J now
    by (inl f) = quiet_same J now f.2
    by (inr (inl a)) = quiet_answered C w opened J items now a
    by (inr (inr b)) = quiet_then J b.2 now (quiet_answered C w opened J b.1 b.2 b.4) (quiet_unanswered C w b.0 b.2 now b.5)

pub quiet_dialog : (C : Config) (w : Speaker) (since left due head content : List ℕ) (J : Seen) (items : List Item) (how : End) (now : Seen) → IsDialog C w since left due head content J items how now → Quiet J now
quiet_dialog C w since left due head content J items how now (inl h) = quiet_same J now h.4
quiet_dialog C w since left due head content J items how now (inr h) =
    quiet_then J h.1 now (quiet_pubd w.worker (pubd.Drain w.service w.incarnation) J h.0 h.1 h.2)
    (quiet_ends C w since left due (opening (drain_verdict C h.0 w.service w.incarnation) (frame.Request head content)) h.1 items how now h.3)

ends_fit : (C : Config) (R : Record) (w : Speaker) (since left due : List ℕ) (opened : List Item) (J : Seen) (items : List Item) (how : End) (now : Seen) → length R.proxies ≡ length C.proxies
    → Ends C w since left due opened J items how now → Ext R now → EndsIn C R w due opened items how × Ext R J
ends_fit C R w since left due opened J items end.Reply now many h x = let a = answered_fit C R w opened J h.0 now many h.2 x in ((h.0, h.1, a.0, h.3), a.1)
ends_fit C R w since left due opened J items (end.Superseded shown) now many h x = let a = answered_fit C R w opened J items now many h.1 x in ((h.0, a.0, h.2), a.1)
ends_fit C R w since left due opened J items end.BadFrame now many h x = let a = answered_fit C R w opened J items now many h.0 x in ((a.0, h.1), a.1)
ends_fit C R w since left due opened J items end.Ended now many h x = let a = answered_fit C R w opened J items now many h.0 x in ((a.0, h.1), a.1)
ends_fit C R w since left due opened J items end.FrameLimit now many h x = let a = answered_fit C R w opened J h.1 now many h.3 x in ((h.0, h.1, h.2, a.0, h.4), a.1)
ends_fit C R w since left due opened J items end.LinkFault now many h x = by h.1
  where
    by : (IsOpening opened J items now × IsNextOf opened items due) ⊎ (IsAnswered C w opened J items now × (due ≡ []))
        ⊎ ((said : ServiceFrame) × (heard : ServerFrame) × (before : List Item) × (mid : Seen) × (items ≡ Said said ∷ before)
        × IsAnswered C w opened J before mid × Answers C w said mid heard now × (due ≡ server_spelling heard)) → EndsIn C R w due opened items end.LinkFault × Ext R J
    by (inl f) = ((h.0, inl ((f.0.0, f.0.1), f.1)), ext_same R J now f.0.2 x)
    by (inr (inl a)) = let b = answered_fit C R w opened J items now many a.0 x in ((h.0, inr (inl (b.0, a.1))), b.1)
    by (inr (inr b)) =
        let last = answer_fits C R w b.0 b.3 b.1 now many b.6 x in
        let rest = answered_fit C R w opened J b.2 b.3 many b.5 last.1 in
        ((h.0, inr (inr (b.0, b.1, b.2, b.4, rest.0, last.0, b.7))), rest.1)
ends_fit C R w since left due opened J items end.Starved now many h x = by h.1
  where
    by : IsOpening opened J items now ⊎ IsAnswered C w opened J items now ⊎ ((said : ServiceFrame) × (before : List Item) × (mid : Seen) × (items ≡ Said said ∷ before)
        × IsAnswered C w opened J before mid × Unanswered C w said mid now) → EndsIn C R w due opened items end.Starved × Ext R J
    by (inl f) = ((h.0, inl (f.0, f.1)), ext_same R J now f.2 x)
    by (inr (inl a)) = let b = answered_fit C R w opened J items now many a x in ((h.0, inr (inl b.0)), b.1)
    by (inr (inr b)) =
        let rest = answered_fit C R w opened J b.1 b.2 many b.4 (unanswered_fits C R w b.0 b.2 now b.5 x) in
        ((h.0, inr (inr (b.0, b.1, b.3, rest.0))), rest.1)

pub dialog_fits : (C : Config) (R : Record) (w : Speaker) (since left due head content : List ℕ) (J : Seen) (items : List Item) (how : End) (now : Seen) → length R.proxies ≡ length C.proxies
    → IsDialog C w since left due head content J items how now → Ext R now → IsDialogIn C R w due items how × Ext R J
dialog_fits C R w since left due head content J items how now many (inl h) x = (inl (h.0, h.1, h.2, h.3), ext_same R J now h.4 x)
dialog_fits C R w since left due head content J items how now many (inr h) x =
    let opened : List Item = opening (drain_verdict C h.0 w.service w.incarnation) (frame.Request head content) in
    let ends = ends_fit C R w since left due opened h.1 items how now many h.3 x in
    let drain = ext_pubd R w.worker (pubd.Drain w.service w.incarnation) J h.0 h.1 h.2 ends.1 in
    (inr (opened, (h.0, head, content, drain.1, refl), ends.0), drain.0)

pub quiet_okd : (w : ℕ) (v : OkdEvent) (J : Seen) (before : List (Entry OkdEvent)) (now : Seen) → AtOkd w v J before now → Quiet J now
quiet_okd w v J before now h = record { many = ap (λ (K : Seen). length K.proxies) h.1; same = λ s. ap (λ (K : Seen). count_by (is_dialog_at s) K.own) h.1 ∙ omega arith }

pub ext_okd : (R : Record) (w : ℕ) (v : OkdEvent) (J : Seen) (before : List (Entry OkdEvent)) (now : Seen) → AtOkd w v J before now → Ext R now → Ext R J
ext_okd R w v J before now h x = record { many = y.many; proxies = y.proxies; pubd = y.pubd; oklogd = y.oklogd }
  where
    y : Ext R (record J { okd = record { worker = w; event = v } ∷ before; own = own.Okd v ∷ J.own })
    y = subst (Ext R) h.1 x

pub quiet_launcher : (w : ℕ) (v : LauncherEvent) (J : Seen) (before : List (Entry LauncherEvent)) (now : Seen) → AtLauncher w v J before now → Quiet J now
quiet_launcher w v J before now h = record { many = ap (λ (K : Seen). length K.proxies) h.1; same = λ s. ap (λ (K : Seen). count_by (is_dialog_at s) K.own) h.1 ∙ omega arith }

pub ext_launcher : (R : Record) (w : ℕ) (v : LauncherEvent) (J : Seen) (before : List (Entry LauncherEvent)) (now : Seen) → AtLauncher w v J before now → Ext R now → Ext R J
ext_launcher R w v J before now h x = record { many = y.many; proxies = y.proxies; pubd = y.pubd; oklogd = y.oklogd }
  where
    y : Ext R (record J { launcher = record { worker = w; event = v } ∷ before; own = own.Launcher v ∷ J.own })
    y = subst (Ext R) h.1 x

pub ext_noted : (R : Record) (J : Seen) (item : Own) (now : Seen) → now ≡ noted J item → Ext R now → Ext R J
ext_noted R J item now h x = record { many = y.many; proxies = y.proxies; pubd = y.pubd; oklogd = y.oklogd }
  where
    y : Ext R (noted J item)
    y = subst (Ext R) h x
