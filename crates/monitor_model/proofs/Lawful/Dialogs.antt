-- What the steps of a dialog keep.
use Rattle.std.proofs.Common.{◌≡◌, ◌≢◌, ◌⊎◌, inl, inr, ℕ, zero, suc, ◌+◌, ◌<◌, Bool, true, false, cond, List, [], ◌∷◌, Option, Some, None, refl, ap, sym, ◌∙◌, arith, length, get_or-set_same, le_refl}
use Rattle.std.specs.Prelude.{filter, nat_lt}
use Rattle.okws_base.specs.declared.limit.TheConstants.{MOST_FRAMES}
use Rattle.okws_plan.specs.declared.configuration.Config.{Config}
use Rattle.okws_plan.specs.declared.event.ProxyEvent.{ProxyEvent}
use Rattle.okws_plan.specs.declared.event.ProxyEvent.TheVariants as proxy
use Rattle.okws_plan.specs.declared.event.PubdEvent.{PubdEvent}
use Rattle.okws_plan.specs.declared.event.PubdEvent.TheVariants as pubd
use Rattle.okws_plan.specs.declared.event.LogEvent.{LogEvent}
use Rattle.okws_plan.specs.declared.event.LogEvent.TheVariants as oklogd
use Rattle.frame_codec.specs.declared.frame.ServiceFrame.{ServiceFrame}
use Rattle.frame_codec.specs.declared.frame.ServiceFrame.TheVariants as said
use Rattle.frame_codec.specs.declared.frame.ServerFrame.{ServerFrame}
use Rattle.frame_codec.specs.declared.frame.ServerFrame.TheVariants as frame
use Rattle.monitor_model.specs.declared.record.CellEvent.{CellEvent}
use Rattle.monitor_model.specs.declared.record.CellEvent.TheVariants as cell
use Rattle.monitor_model.specs.declared.record.Item.TheVariants.{Heard, Said}
use Rattle.monitor_model.specs.declared.record.End.{End}
use Rattle.monitor_model.specs.declared.record.End.TheVariants as end
use Rattle.monitor_model.specs.declared.record.Own.{Own}
use Rattle.monitor_model.specs.declared.record.Own.TheVariants as own
use Rattle.monitor_model.specs.Cell.{incarnation}
use Rattle.monitor_model.specs.Course.{Answers, Speaker, called, opening, said_count}
use Rattle.monitor_model.specs.Merged.{is_at_cell}
use Rattle.monitor_model.specs.Pubd.{drain_verdict}
use Rattle.monitor_model.specs.Seen.{Seen, proxy_past}
use Rattle.monitor_model.specs.Stage.{Stage, Stand, Opened, Asked, empty_stand, stand, with_stand, with_seen, with_item}
use Rattle.monitor_model.specs.Script.{at_proxy, at_pubd, at_log, greatest, closed, continued, heard_said, reply_end, said_end, speaker, IsNext, Takes, Advances, GoesOn, Begun, missed, dialog_opened, settled}
use Rattle.monitor_model.proofs.Lawful.Plain.{is_true_below, none_some}
use Rattle.monitor_model.proofs.Lawful.Settled.{closed_there, settled_keeps}
use Rattle.monitor_model.proofs.Lawful.Kept.{EndFits, CellKept, IsGood}
use Rattle.monitor_model.proofs.Lawful.Columns.{mark_fits}
use Rattle.monitor_model.proofs.Lawful.Cells.{cell_missed, cell_opened, cell_went_on, cell_closed}
use Rattle.monitor_model.proofs.Lawful.Stages.{good_proxy, good_pubd, good_log, good_stand, good_closed, good_superseded, good_missed_item, good_dialog_item, open_is_declared}

-- the one entry that was made, if any, is the one that the worker's items tell
other_heads : (x y : Own) (xs ys : List Own) → x ∷ xs ≡ y ∷ ys → x ≡ y
other_heads x y xs ys same = cc

proxy_head : (p q : ℕ) (e event : ProxyEvent) → own.Proxy q e ≡ own.Proxy p event → (q ≡ p) × (e ≡ event)
proxy_head p q e event same = (cc, cc)

pub next_proxy : (J now : Seen) (p : ℕ) (event : ProxyEvent) → now.own ≡ own.Proxy p event ∷ J.own → IsNext J now → (now ≡ J) ⊎ (now ≡ at_proxy p event J)
next_proxy J now p event owns (inl same) = inl same
next_proxy J now p event owns (inr (inl made)) =
    let heads : own.Proxy made.0 made.1 ≡ own.Proxy p event = other_heads (own.Proxy made.0 made.1) (own.Proxy p event) J.own J.own (sym (ap (λ (K : Seen). K.own) made.2) ∙ owns) in
    let parts : (made.0 ≡ p) × (made.1 ≡ event) = proxy_head p made.0 made.1 event heads in
    inr (made.2 ∙ ap (λ (q : ℕ). at_proxy q made.1 J) parts.0 ∙ ap (λ (e : ProxyEvent). at_proxy p e J) parts.1)
next_proxy J now p event owns (inr (inr (inl made))) =
    let heads : own.Pubd made.0 ≡ own.Proxy p event = other_heads (own.Pubd made.0) (own.Proxy p event) J.own J.own (sym (ap (λ (K : Seen). K.own) made.1) ∙ owns) in
    let never : ⊥ = cc in absurd never
next_proxy J now p event owns (inr (inr (inr made))) =
    let heads : own.Oklogd made.0 ≡ own.Proxy p event = other_heads (own.Oklogd made.0) (own.Proxy p event) J.own J.own (sym (ap (λ (K : Seen). K.own) made.1) ∙ owns) in
    let never : ⊥ = cc in absurd never

pub next_pubd : (J now : Seen) (event : PubdEvent) → now.own ≡ own.Pubd event ∷ J.own → IsNext J now → (now ≡ J) ⊎ (now ≡ at_pubd event J)
next_pubd J now event owns (inl same) = inl same
next_pubd J now event owns (inr (inl made)) =
    let heads : own.Proxy made.0 made.1 ≡ own.Pubd event = other_heads (own.Proxy made.0 made.1) (own.Pubd event) J.own J.own (sym (ap (λ (K : Seen). K.own) made.2) ∙ owns) in
    let never : ⊥ = cc in absurd never
next_pubd J now event owns (inr (inr (inl made))) =
    let heads : own.Pubd made.0 ≡ own.Pubd event = other_heads (own.Pubd made.0) (own.Pubd event) J.own J.own (sym (ap (λ (K : Seen). K.own) made.1) ∙ owns) in
    let same : made.0 ≡ event = cc in
    inr (made.1 ∙ ap (λ (e : PubdEvent). at_pubd e J) same)
next_pubd J now event owns (inr (inr (inr made))) =
    let heads : own.Oklogd made.0 ≡ own.Pubd event = other_heads (own.Oklogd made.0) (own.Pubd event) J.own J.own (sym (ap (λ (K : Seen). K.own) made.1) ∙ owns) in
    let never : ⊥ = cc in absurd never

pub next_log : (J now : Seen) (event : LogEvent) → now.own ≡ own.Oklogd event ∷ J.own → IsNext J now → (now ≡ J) ⊎ (now ≡ at_log event J)
next_log J now event owns (inl same) = inl same
next_log J now event owns (inr (inl made)) =
    let heads : own.Proxy made.0 made.1 ≡ own.Oklogd event = other_heads (own.Proxy made.0 made.1) (own.Oklogd event) J.own J.own (sym (ap (λ (K : Seen). K.own) made.2) ∙ owns) in
    let never : ⊥ = cc in absurd never
next_log J now event owns (inr (inr (inl made))) =
    let heads : own.Pubd made.0 ≡ own.Oklogd event = other_heads (own.Pubd made.0) (own.Oklogd event) J.own J.own (sym (ap (λ (K : Seen). K.own) made.1) ∙ owns) in
    let never : ⊥ = cc in absurd never
next_log J now event owns (inr (inr (inr made))) =
    let heads : own.Oklogd made.0 ≡ own.Oklogd event = other_heads (own.Oklogd made.0) (own.Oklogd event) J.own J.own (sym (ap (λ (K : Seen). K.own) made.1) ∙ owns) in
    let same : made.0 ≡ event = cc in
    inr (made.1 ∙ ap (λ (e : LogEvent). at_log e J) same)

-- nothing was entered, or this
seen_same : (C : Config) (seed : List ℕ) (S : Stage) (now : Seen) → IsGood C seed S → now ≡ S.seen → IsGood C seed (with_seen S now)
seen_same C seed S now g is = rw is g

after_proxy : (C : Config) (seed : List ℕ) (S : Stage) (now : Seen) (p : ℕ) (event : ProxyEvent) → IsGood C seed S → IsGood C seed (with_seen S (at_proxy p event S.seen))
    → (now ≡ S.seen) ⊎ (now ≡ at_proxy p event S.seen) → IsGood C seed (with_seen S now)
after_proxy C seed S now p event g more (inl is) = rw is g
after_proxy C seed S now p event g more (inr is) = rw is more

after_pubd : (C : Config) (seed : List ℕ) (S : Stage) (now : Seen) (event : PubdEvent) → IsGood C seed S → IsGood C seed (with_seen S (at_pubd event S.seen))
    → (now ≡ S.seen) ⊎ (now ≡ at_pubd event S.seen) → IsGood C seed (with_seen S now)
after_pubd C seed S now event g more (inl is) = rw is g
after_pubd C seed S now event g more (inr is) = rw is more

after_log : (C : Config) (seed : List ℕ) (S : Stage) (now : Seen) (event : LogEvent) → IsGood C seed S → IsGood C seed (with_seen S (at_log event S.seen))
    → (now ≡ S.seen) ⊎ (now ≡ at_log event S.seen) → IsGood C seed (with_seen S now)
after_log C seed S now event g more (inl is) = rw is g
after_log C seed S now event g more (inr is) = rw is more

-- a frame that was said is answered
pub good_answered : (C : Config) (seed : List ℕ) (w : Speaker) (frame : ServiceFrame) (S : Stage) (heard : ServerFrame) (now : Seen) → IsGood C seed S
    → Answers C w frame S.seen heard now → IsNext S.seen now → IsGood C seed (with_seen S now)
good_answered C seed w (said.Open p shown) S heard now g (inl unknown) next = seen_same C seed S now g unknown.2
good_answered C seed w (said.Open p shown) S heard now g (inr (inl wanting)) next = seen_same C seed S now g wanting.2
good_answered C seed w (said.Open p shown) S heard now g (inr (inr made)) next =
    after_proxy C seed S now p (proxy.Open w.service w.incarnation shown) g
    (good_proxy C seed p (proxy.Open w.service w.incarnation shown) S g (is_true_below p (length C.proxies) made.0) (λ none. tt) tt)
    (next_proxy S.seen now p (proxy.Open w.service w.incarnation shown) (ap (λ (K : Seen). K.own) made.3.1) next)
good_answered C seed w (said.Call p n q args) S heard now g (inl unknown) next = seen_same C seed S now g unknown.2
good_answered C seed w (said.Call p n q args) S heard now g (inr (inl wanting)) next = seen_same C seed S now g wanting.2
good_answered C seed w (said.Call p n q args) S heard now g (inr (inr made)) next =
    after_proxy C seed S now p (proxy.Call (called w n q args) made.2) g
    (good_proxy C seed p (proxy.Call (called w n q args) made.2) S g (is_true_below p (length C.proxies) made.0)
    (mark_fits C p (proxy_past S.seen.proxies p) (called w n q args) made.2) tt)
    (next_proxy S.seen now p (proxy.Call (called w n q args) made.2) (ap (λ (K : Seen). K.own) made.4.1) next)
good_answered C seed w (said.Get name) S heard now g (inl wanting) next = seen_same C seed S now g wanting.1
good_answered C seed w (said.Get name) S heard now g (inr made) next =
    after_pubd C seed S now (pubd.Get w.service w.incarnation name) g (good_pubd C seed (pubd.Get w.service w.incarnation name) S g tt tt)
    (next_pubd S.seen now (pubd.Get w.service w.incarnation name) (ap (λ (K : Seen). K.own) made.2.1) next)
good_answered C seed w (said.Log text) S heard now g (inl wanting) next = seen_same C seed S now g wanting.1
good_answered C seed w (said.Log text) S heard now g (inr made) next =
    after_log C seed S now (oklogd.Log w.service w.incarnation text) g (good_log C seed (oklogd.Log w.service w.incarnation text) S g tt tt)
    (next_log S.seen now (oklogd.Log w.service w.incarnation text) (ap (λ (K : Seen). K.own) made.2.1) next)
good_answered C seed w (said.Reply status content_type location content) S heard now g never next = absurd never

-- a dialog goes on
good_continued : (C : Config) (seed : List ℕ) (s : ℕ) (was opened : Opened) (left : List ℕ) (S : Stage) → IsGood C seed S → (stand S s).open_dialog ≡ Some was
    → IsGood C seed (continued s opened left S)
good_continued C seed s was opened left S g is =
    let kept : CellKept s (Some was) (stand S s).past (filter (is_at_cell s) S.seen.own) (greatest S s) = rw is at (g.cells s) in
    good_stand C seed s (record (stand S s) { left = left; open_dialog = Some opened }) S g (open_is_declared s S.stands was is)
    (cell_went_on s was opened (stand S s).past (filter (is_at_cell s) S.seen.own) (greatest S s) kept)

continued_is_open : (s : ℕ) (was opened : Opened) (left : List ℕ) (S : Stage) → (stand S s).open_dialog ≡ Some was → (stand (continued s opened left S) s).open_dialog ≡ Some opened
continued_is_open s was opened left S is =
    rw (get_or-set_same S.stands s (record (stand S s) { left = left; open_dialog = Some opened }) empty_stand (open_is_declared s S.stands was is)) refl

-- how a dialog ends at a frame that was said
end_fits : (k greatest : ℕ) (how there : End) → EndFits k greatest there → Some there ≡ Some how → EndFits k greatest how
end_fits k greatest how there fits is = let same : there ≡ how = cc in rw same at fits

reply_fits : (k greatest : ℕ) (frame : ServiceFrame) (how : End) → reply_end frame ≡ Some how → EndFits k greatest how
reply_fits k greatest (said.Reply status content_type location content) how is = end_fits k greatest how end.Reply (tt, refl, tt) is
reply_fits k greatest (said.Open p shown) how is = absurd (none_some how None refl is)
reply_fits k greatest (said.Call p n q args) how is = absurd (none_some how None refl is)
reply_fits k greatest (said.Get name) how is = absurd (none_some how None refl is)
reply_fits k greatest (said.Log text) how is = absurd (none_some how None refl is)

said_fits : (k greatest : ℕ) (b : Bool) (frame : ServiceFrame) (how : End) → cond b (Some end.FrameLimit) (reply_end frame) ≡ Some how → EndFits k greatest how
said_fits k greatest true frame how is = end_fits k greatest how end.FrameLimit (tt, refl, tt) is
said_fits k greatest false frame how is = reply_fits k greatest frame how is

good_takes : (C : Config) (seed : List ℕ) (s : ℕ) (opened : Opened) (frame : ServiceFrame) (left : List ℕ) (o : Option End) (S : Stage) (text : List ℕ) (now : Stage)
    → IsGood C seed S → (stand S s).open_dialog ≡ Some opened → said_end (said_count opened.items + 1) frame ≡ o → Takes C s opened frame left o S text now → IsGood C seed now
good_takes C seed s opened frame left (Some how) S text now g is ends takes =
    rw takes.0
    (good_closed C seed s opened (heard_said opened frame) how (continued s opened left S) (good_continued C seed s opened opened left S g is)
    (continued_is_open s opened opened left S is)
    (said_fits (incarnation (stand (continued s opened left S) s).past) (greatest S s) (nat_lt MOST_FRAMES (said_count opened.items + 1)) frame how ends))
good_takes C seed s opened frame left None S text now g is ends takes =
    let more : Opened = record opened { items = Heard takes.0 ∷ Said frame ∷ opened.items } in
    rw takes.4
    (good_answered C seed (speaker S s) frame (continued s more left S) takes.0 takes.1 (good_continued C seed s opened more left S g is) takes.2 takes.3)

pub good_advances : (C : Config) (seed : List ℕ) (s : ℕ) (opened : Opened) (S : Stage) (text : List ℕ) (now : Stage)
    → IsGood C seed S → (stand S s).open_dialog ≡ Some opened → Advances C s opened S text now → IsGood C seed now
good_advances C seed s opened S text now g is (inl ends) = rw ends.1 (good_superseded C seed s S (is_true_below (incarnation (stand S s).past) (greatest S s) ends.0) g)
good_advances C seed s opened S text now g is (inr (inl takes)) =
    good_takes C seed s opened takes.1 takes.2 (said_end (said_count opened.items + 1) takes.1) S text now g is refl takes.4
good_advances C seed s opened S text now g is (inr (inr (inl bad))) = rw bad.2 (good_closed C seed s opened opened end.BadFrame S g is (tt, refl, tt))
good_advances C seed s opened S text now g is (inr (inr (inr (inl ended)))) = rw ended.3 (good_closed C seed s opened opened end.Ended S g is (tt, refl, tt))
good_advances C seed s opened S text now g is (inr (inr (inr (inr cut)))) = rw cut.4 (good_closed C seed s opened opened end.BadFrame S g is (tt, refl, tt))

pub good_goes_on : (C : Config) (seed : List ℕ) (s steps : ℕ) (S : Stage) (text : List ℕ) (now : Stage) → IsGood C seed S → GoesOn C s steps S text now → IsGood C seed now
good_goes_on C seed s zero S text now g on = rw on.1 g
good_goes_on C seed s (suc steps) S text now g on =
    good_goes_on C seed s steps on.1 on.3 now (good_advances C seed s on.0 S on.2 on.1 g on.4 on.6) on.7

-- a dialog begins
good_missed : (C : Config) (seed : List ℕ) (s k : ℕ) (S : Stage) → IsGood C seed S → s < length S.stands → (stand S s).open_dialog ≡ None → incarnation (stand S s).past ≢ k
    → IsGood C seed (missed s k S)
good_missed C seed s k S g declared shut other =
    let kept : CellKept s None (stand S s).past (filter (is_at_cell s) S.seen.own) (greatest S s) = rw shut at (g.cells s) in
    let now : CellKept s None (cell.Missed 0 k (incarnation (stand S s).past) ∷ (stand S s).past) (own.Missed s k (incarnation (stand S s).past) ∷ filter (is_at_cell s) S.seen.own) (greatest S s)
    = cell_missed s k (stand S s).past (filter (is_at_cell s) S.seen.own) (greatest S s) kept (λ same. other (sym same)) in
    good_missed_item C seed s k (incarnation (stand S s).past) (record (stand S s) { past = cell.Missed 0 k (incarnation (stand S s).past) ∷ (stand S s).past }) S g declared (rw shut now)

there_is : (k n : ℕ) → 0 < k → n ≡ k → n ≢ 0
there_is k n above is = omega arith

opened_cell : (C : Config) (seed : List ℕ) (s k : ℕ) (opened : Opened) (S : Stage) → IsGood C seed S → (stand S s).open_dialog ≡ None → 0 < k → incarnation (stand S s).past ≡ k
    → CellKept s (Some opened) (stand S s).past (own.Dialog s ∷ filter (is_at_cell s) S.seen.own) (greatest S s)
opened_cell C seed s k opened S g shut above is =
    let kept : CellKept s None (stand S s).past (filter (is_at_cell s) S.seen.own) (greatest S s) = rw shut at (g.cells s) in
    cell_opened s opened (stand S s).past (filter (is_at_cell s) S.seen.own) (greatest S s) kept (there_is k (incarnation (stand S s).past) above is)

good_at_once : (C : Config) (seed : List ℕ) (s k : ℕ) (opened : Opened) (S : Stage) → IsGood C seed S → s < length S.stands → (stand S s).open_dialog ≡ None → 0 < k → incarnation (stand S s).past ≡ k
    → k < greatest S s → IsGood C seed (closed s opened (end.Superseded (greatest S s)) (with_item S (own.Dialog s)))
good_at_once C seed s k opened S g declared shut above is later =
    let ended : Stand = closed_there opened.items (end.Superseded (greatest S s)) (stand S s) in
    good_dialog_item C seed s (settled ended) S g declared
    (settled_keeps (λ (J : List CellEvent) (o : Option Opened). CellKept s o J (own.Dialog s ∷ filter (is_at_cell s) S.seen.own) (greatest S s)) ended
    (cell_closed s opened (end.Superseded (greatest S s)) (stand S s).past (own.Dialog s ∷ filter (is_at_cell s) S.seen.own) (greatest S s)
    (opened_cell C seed s k opened S g shut above is) (le_refl (greatest S s), refl, omega (arith, is, later))))

pub good_opened : (C : Config) (seed : List ℕ) (n s k : ℕ) (asked : Asked) (S : Stage) → IsGood C seed S → s < length S.stands → (stand S s).open_dialog ≡ None → 0 < k → incarnation (stand S s).past ≡ k
    → IsGood C seed (dialog_opened C n s k asked S)
good_opened C seed n s k asked S g declared shut above is =
    let opened : Opened = record { request = n; items = opening (drain_verdict C S.seen.pubd s k) (frame.Request asked.head asked.content) } in
    let there : Stand = record (stand S s) { open_dialog = Some opened } in
    good_pubd C seed (pubd.Drain s k) (with_item (with_stand S s there) (own.Dialog s))
    (good_dialog_item C seed s there S g declared (opened_cell C seed s k opened S g shut above is)) tt tt

pub good_begun : (C : Config) (seed : List ℕ) (n s k : ℕ) (asked : Asked) (S : Stage) (text : List ℕ) (now : Stage)
    → IsGood C seed S → s < length S.stands → (stand S s).open_dialog ≡ None → 0 < k → Begun C n s k asked S text now → IsGood C seed now
good_begun C seed n s k asked S text now g declared shut above (inl begun) = rw begun.1 (good_missed C seed s k S g declared shut begun.0)
good_begun C seed n s k asked S text now g declared shut above (inr (inl begun)) =
    rw begun.2 (good_at_once C seed s k (record { request = n; items = [] }) S g declared shut above begun.0 begun.1)
good_begun C seed n s k asked S text now g declared shut above (inr (inr begun)) =
    good_goes_on C seed s begun.2 (dialog_opened C n s k asked S) begun.3 now (good_opened C seed n s k asked S g declared shut above begun.0) begun.4
