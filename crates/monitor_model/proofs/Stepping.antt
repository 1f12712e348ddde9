-- Steps of two runs that are alike leave them alike.
use Rattle.std.proofs.Common.{◌≡◌, inl, inr, ℕ, ◌+◌, Bool, true, false, cond, List, [], ◌∷◌, Option, Some, None, refl, sym, ap, ◌∙◌, subst, ◌==◌, max}
use Rattle.okws_base.specs.Past.{Leaves}
use Rattle.okws_plan.specs.Configuration.{cols, all_places}
use Rattle.okws_plan.specs.declared.configuration.Config.{Config}
use Rattle.okws_plan.specs.declared.script.Place.{Place}
use Rattle.okws_plan.specs.declared.script.Place.TheVariants.{Proxy, Pubd, Oklogd}
use Rattle.okws_plan.specs.declared.event.OkdEvent.{OkdEvent}
use Rattle.okws_plan.specs.declared.event.OkdEvent.TheVariants as okd
use Rattle.okws_plan.specs.declared.event.ProxyEvent.TheVariants as proxy
use Rattle.okws_plan.specs.declared.event.PubdEvent.TheVariants as pubd
use Rattle.okws_plan.specs.declared.event.LogEvent.TheVariants as oklogd
use Rattle.okws_plan.specs.declared.event.LauncherEvent.{LauncherEvent}
use Rattle.okws_plan.specs.declared.event.LauncherEvent.TheVariants as launcher
use Rattle.frame_codec.specs.declared.frame.ServiceFrame.{ServiceFrame}
use Rattle.frame_codec.specs.declared.frame.ServiceFrame.TheVariants as said
use Rattle.frame_codec.specs.declared.frame.ServerFrame.{ServerFrame}
use Rattle.token_core.specs.Token.{token_of}
use Rattle.monitor_model.specs.declared.record.CellEvent.TheVariants as cell
use Rattle.monitor_model.specs.declared.record.End.{End}
use Rattle.monitor_model.specs.declared.record.End.TheVariants as end
use Rattle.monitor_model.specs.declared.record.Item.TheVariants.{Heard, Said}
use Rattle.monitor_model.specs.declared.record.Own.{Own}
use Rattle.monitor_model.specs.declared.record.Own.TheVariants as own
use Rattle.monitor_model.specs.Standing.{proxy_grant, pubd_grant, log_grant, up_at_okd}
use Rattle.monitor_model.specs.Pubd.{edition_after}
use Rattle.monitor_model.specs.Launcher.{begun}
use Rattle.monitor_model.specs.Cell.{incarnation, last_booted, after_end}
use Rattle.monitor_model.specs.Course.{Answers, Speaker, said_count, called}
use Rattle.monitor_model.specs.Seen.{Seen, noted}
use Rattle.monitor_model.specs.Stage.{Stage, Stand, Opened, stand, with_stand, with_item}
use Rattle.monitor_model.specs.Script
use Rattle.monitor_model.specs.Script.{entry, at_okd, at_proxy, at_pubd, at_log, greatest, begins, install_place, installed, stands_of, revoke_place, revoked, down_okd, downed, upped, closed, superseded_if, superseded, retired, freshly_booted, booted, installed_all, revoked_all, launched_rest, launched, taken_down, relaunched, marked, missed, dialog_opened, said_end, continued, heard_said, IsNext, Takes, Advances, IsReady, GoesOn, Begun, given, has_ended, accepted, Does, last_at, is_pending, is_busy_at, is_busy_request, broken, no_cell, refusal, Plays, PlaysAll}
use Rattle.monitor_model.proofs.Alike.{AlikeSeen, seen_itself, seen_sym, seen_trans, proxy_alike, okd_more, launcher_more, proxy_more, pubd_more, log_more, noted_more, proxy_quiet, pubd_quiet, log_quiet, brief, AlikeStand, Alike, alike_at, alike_stand, alike_seen, alike_settled}

pub greatest_alike : (s : ℕ) (S T : Stage) → Alike S T → greatest S s ≡ greatest T s
greatest_alike s S T a = ap (λ J. begun J s) a.seen.launcher

-- the steps that enter at a column
pub alike_begins : (s : ℕ) (S T : Stage) → Alike S T → Alike (begins s S) (begins s T)
alike_begins s S T a =
    let one : LauncherEvent = launcher.Begun s (greatest S s + 1) in
    let other : LauncherEvent = launcher.Begun s (greatest T s + 1) in
    let is : one ≡ other = ap (λ (n : ℕ). launcher.Begun s (n + 1)) (greatest_alike s S T a) in
    alike_seen (Script.at_launcher one S.seen) (Script.at_launcher other T.seen) S T (launcher_more one other S.seen T.seen is a.seen) a

install_alike : (seed : List ℕ) (s k : ℕ) (at : Place) (J K : Seen) → AlikeSeen J K → AlikeSeen (install_place seed s k at J) (install_place seed s k at K)
install_alike seed s k (Proxy p) J K a = proxy_more p (proxy.Install s k (token_of seed s k p)) J K a
install_alike seed s k Pubd J K a = pubd_more (pubd.Install s k) J K a
install_alike seed s k Oklogd J K a = log_more (oklogd.Install s k) J K a

pub alike_installed : (seed : List ℕ) (s : ℕ) (at : Place) (S T : Stage) → Alike S T → Alike (installed seed s at S) (installed seed s at T)
alike_installed seed s at S T a =
    let one : AlikeSeen (install_place seed s (greatest S s) at S.seen) (install_place seed s (greatest S s) at T.seen) = install_alike seed s (greatest S s) at S.seen T.seen a.seen in
    alike_seen (install_place seed s (greatest S s) at S.seen) (install_place seed s (greatest T s) at T.seen) S T
    (subst (λ (k : ℕ). AlikeSeen (install_place seed s (greatest S s) at S.seen) (install_place seed s k at T.seen)) (greatest_alike s S T a) one) a

stands_alike : (s : ℕ) (at : Place) (J K : Seen) → AlikeSeen J K → stands_of s at J ≡ stands_of s at K
stands_alike s (Proxy p) J K a = (proxy_alike p J K a).standing s
stands_alike s Pubd J K a = a.pubd.standing s
stands_alike s Oklogd J K a = a.oklogd.standing s

pub last_alike : (s : ℕ) (at : Place) (J K : Seen) → AlikeSeen J K → last_at s at J ≡ last_at s at K
last_alike s (Proxy p) J K a = (proxy_alike p J K a).last s
last_alike s Pubd J K a = a.pubd.last s
last_alike s Oklogd J K a = a.oklogd.last s

revoke_alike : (s : ℕ) (at : Place) (o : Option ℕ) (J K : Seen) → AlikeSeen J K → AlikeSeen (revoke_place s at o J) (revoke_place s at o K)
revoke_alike s at None J K a = a
revoke_alike s (Proxy p) (Some k) J K a = proxy_more p (proxy.Revoke s k) J K a
revoke_alike s Pubd (Some k) J K a = pubd_more (pubd.Revoke s k) J K a
revoke_alike s Oklogd (Some k) J K a = log_more (oklogd.Revoke s k) J K a

pub alike_revoked : (s : ℕ) (at : Place) (S T : Stage) → Alike S T → Alike (revoked s at S) (revoked s at T)
alike_revoked s at S T a =
    let one : AlikeSeen (revoke_place s at (stands_of s at S.seen) S.seen) (revoke_place s at (stands_of s at S.seen) T.seen) = revoke_alike s at (stands_of s at S.seen) S.seen T.seen a.seen in
    alike_seen (revoke_place s at (stands_of s at S.seen) S.seen) (revoke_place s at (stands_of s at T.seen) T.seen) S T
    (subst (λ (o : Option ℕ). AlikeSeen (revoke_place s at (stands_of s at S.seen) S.seen) (revoke_place s at o T.seen)) (stands_alike s at S.seen T.seen a.seen) one) a

down_alike : (s : ℕ) (o : Option ℕ) (J K : Seen) → AlikeSeen J K → AlikeSeen (down_okd s o J) (down_okd s o K)
down_alike s None J K a = a
down_alike s (Some k) J K a = okd_more (okd.Down s k) (okd.Down s k) J K refl a

pub up_alike : (s : ℕ) (S T : Stage) → Alike S T → up_at_okd S.seen.okd s ≡ up_at_okd T.seen.okd s
up_alike s S T a = ap (λ J. up_at_okd J s) a.seen.okd

pub alike_downed : (s : ℕ) (S T : Stage) → Alike S T → Alike (downed s S) (downed s T)
alike_downed s S T a =
    let one : AlikeSeen (down_okd s (up_at_okd S.seen.okd s) S.seen) (down_okd s (up_at_okd S.seen.okd s) T.seen) = down_alike s (up_at_okd S.seen.okd s) S.seen T.seen a.seen in
    alike_seen (down_okd s (up_at_okd S.seen.okd s) S.seen) (down_okd s (up_at_okd T.seen.okd s) T.seen) S T
    (subst (λ (o : Option ℕ). AlikeSeen (down_okd s (up_at_okd S.seen.okd s) S.seen) (down_okd s o T.seen)) (up_alike s S T a) one) a

pub alike_upped : (s : ℕ) (S T : Stage) → Alike S T → Alike (upped s S) (upped s T)
alike_upped s S T a =
    let one : OkdEvent = okd.Up s (incarnation (stand S s).past) in
    let other : OkdEvent = okd.Up s (incarnation (stand T s).past) in
    let is : one ≡ other = ap (okd.Up s) (alike_at s S T a).here in
    alike_seen (at_okd one S.seen) (at_okd other T.seen) S T (okd_more one other S.seen T.seen is a.seen) a

pub alike_item : (x y : Own) (S T : Stage) → Alike S T → Alike (with_item S x) (with_item T y)
alike_item x y S T a = alike_seen (noted S.seen x) (noted T.seen y) S T (noted_more x y S.seen T.seen a.seen) a

-- the steps of a cell
ended_same : (how how' : End) (n m : ℕ) → how ≡ how' → n ≡ m → after_end how n ≡ after_end how' m
ended_same how how' n m is at = ap (λ (e : End). after_end e n) is ∙ ap (after_end how') at

pub alike_closed : (s : ℕ) (opened opened' : Opened) (how how' : End) (S T : Stage) → how ≡ how' → Alike S T → Alike (closed s opened how S) (closed s opened' how' T)
alike_closed s opened opened' how how' S T is a =
    let there : AlikeStand (stand S s) (stand T s) = alike_at s S T a in
    let x : Stand = record (stand S s) { past = cell.Dialog (record { worker = 0; items = opened.items; end = how; due = [] }) ∷ (stand S s).past; open_dialog = None } in
    let y : Stand = record (stand T s) { past = cell.Dialog (record { worker = 0; items = opened'.items; end = how'; due = [] }) ∷ (stand T s).past; open_dialog = None } in
    let now : AlikeStand x y
    = record { here = ended_same how how' (incarnation (stand S s).past) (incarnation (stand T s).past) is there.here; last = there.last; left = there.left; ended = there.ended; open_is = refl } in
    alike_stand s (Script.settled x) (Script.settled y) S T (alike_settled x y now) a

alike_superseded_if : (s : ℕ) (o o' : Option Opened) (S T : Stage) → brief o ≡ brief o' → Alike S T → Alike (superseded_if s o S) (superseded_if s o' T)
alike_superseded_if s None None S T is a = a
alike_superseded_if s (Some opened) (Some opened') S T is a =
    alike_closed s opened opened' (end.Superseded (greatest S s)) (end.Superseded (greatest T s)) S T (ap end.Superseded (greatest_alike s S T a)) a
alike_superseded_if s None (Some opened') S T is a = let never : ⊥ = cc in absurd never
alike_superseded_if s (Some opened) None S T is a = let never : ⊥ = cc in absurd never

pub alike_superseded : (s : ℕ) (S T : Stage) → Alike S T → Alike (superseded s S) (superseded s T)
alike_superseded s S T a = alike_superseded_if s (stand S s).open_dialog (stand T s).open_dialog S T (alike_at s S T a).open_is a

-- The cell of s once it is retired.
abbrev retired_stand : Stand → Stand
retired_stand there = Script.settled (record there { past = cell.Retired ∷ there.past })

retired_if : (s : ℕ) (S T : Stage) (b c : Bool) → b ≡ c → Alike S T
    → Alike (cond b S (with_item (with_stand S s (retired_stand (stand S s))) (own.Retired s))) (cond c T (with_item (with_stand T s (retired_stand (stand T s))) (own.Retired s)))
retired_if s S T true true is a = a
retired_if s S T false false is a =
    let there : AlikeStand (stand S s) (stand T s) = alike_at s S T a in
    let x : Stand = record (stand S s) { past = cell.Retired ∷ (stand S s).past } in
    let y : Stand = record (stand T s) { past = cell.Retired ∷ (stand T s).past } in
    let now : AlikeStand (Script.settled x) (Script.settled y)
    = alike_settled x y (record { here = refl; last = there.last; left = there.left; ended = there.ended; open_is = there.open_is }) in
    alike_item (own.Retired s) (own.Retired s) (with_stand S s (Script.settled x)) (with_stand T s (Script.settled y)) (alike_stand s (Script.settled x) (Script.settled y) S T now a)
retired_if s S T true false is a = let never : ⊥ = cc in absurd never
retired_if s S T false true is a = let never : ⊥ = cc in absurd never

alike_retired : (s : ℕ) (S T : Stage) → Alike S T → Alike (retired s S) (retired s T)
alike_retired s S T a =
    retired_if s S T (incarnation (stand S s).past == 0) (incarnation (stand T s).past == 0) (ap (λ (n : ℕ). n == 0) (alike_at s S T a).here) a

alike_fresh : (s : ℕ) (S T : Stage) → Alike S T → Alike (freshly_booted s S) (freshly_booted s T)
alike_fresh s S T a =
    let k : greatest S s ≡ greatest T s = greatest_alike s S T a in
    let last : max (greatest S s) (last_booted (stand S s).past) ≡ max (greatest T s) (last_booted (stand T s).past)
    = ap (λ (n : ℕ). max n (last_booted (stand S s).past)) k ∙ ap (max (greatest T s)) (alike_at s S T a).last in
    let x : Stand = record { past = cell.Boot (greatest S s) ∷ (stand S s).past; left = []; has_ended = false; open_dialog = None } in
    let y : Stand = record { past = cell.Boot (greatest T s) ∷ (stand T s).past; left = []; has_ended = false; open_dialog = None } in
    alike_item (own.Boot s (greatest S s)) (own.Boot s (greatest T s)) (with_stand S s x) (with_stand T s y)
    (alike_stand s x y S T (record { here = k; last = last; left = refl; ended = refl; open_is = refl }) a)

pub alike_booted : (s : ℕ) (S T : Stage) → Alike S T → Alike (booted s S) (booted s T)
alike_booted s S T a =
    alike_fresh s (retired s (superseded s S)) (retired s (superseded s T)) (alike_retired s (superseded s S) (superseded s T) (alike_superseded s S T a))

alike_installed_all : (seed : List ℕ) (s : ℕ) (ats : List Place) (S T : Stage) → Alike S T → Alike (installed_all seed s ats S) (installed_all seed s ats T)
alike_installed_all seed s [] S T a = a
alike_installed_all seed s (at ∷ more) S T a = alike_installed_all seed s more (installed seed s at S) (installed seed s at T) (alike_installed seed s at S T a)

alike_revoked_all : (s : ℕ) (ats : List Place) (S T : Stage) → Alike S T → Alike (revoked_all s ats S) (revoked_all s ats T)
alike_revoked_all s [] S T a = a
alike_revoked_all s (at ∷ more) S T a = alike_revoked_all s more (revoked s at S) (revoked s at T) (alike_revoked s at S T a)

pub alike_launched_rest : (C : Config) (seed : List ℕ) (s : ℕ) (S T : Stage) → Alike S T → Alike (launched_rest C seed s S) (launched_rest C seed s T)
alike_launched_rest C seed s S T a =
    let U : Stage = installed_all seed s (cols C s) S in
    let V : Stage = installed_all seed s (cols C s) T in
    alike_upped s (booted s U) (booted s V) (alike_booted s U V (alike_installed_all seed s (cols C s) S T a))

pub alike_relaunched : (C : Config) (seed : List ℕ) (s : ℕ) (S T : Stage) → Alike S T → Alike (relaunched C seed s S) (relaunched C seed s T)
alike_relaunched C seed s S T a =
    let one : Alike (begins s S) (begins s T) = alike_begins s S T a in
    let two : Alike (downed s (begins s S)) (downed s (begins s T)) = alike_downed s (begins s S) (begins s T) one in
    let D : Stage = revoked_all s (all_places C) (downed s (begins s S)) in
    let E : Stage = revoked_all s (all_places C) (downed s (begins s T)) in
    let three : Alike D E = alike_revoked_all s (all_places C) (downed s (begins s S)) (downed s (begins s T)) two in
    let four : Alike (retired s (superseded s D)) (retired s (superseded s E)) = alike_retired s (superseded s D) (superseded s E) (alike_superseded s D E three) in
    alike_launched_rest C seed s (retired s (superseded s D)) (retired s (superseded s E)) four

-- An item that changes nothing that stands.
abbrev IsQuiet : Own → Type 0
IsQuiet (own.Proxy p e) = proxy_grant e ≡ Leaves
IsQuiet (own.Pubd e) = (pubd_grant e ≡ Leaves) × ((t n : ℕ) → edition_after e t n ≡ n)
IsQuiet (own.Oklogd e) = log_grant e ≡ Leaves
IsQuiet _ = Unit {0}

first_item : (x y : Own) (xs ys : List Own) → x ∷ xs ≡ y ∷ ys → x ≡ y
first_item x y xs ys e = cc

next_alike : (item : Own) (J now : Seen) → now.own ≡ item ∷ J.own → IsQuiet item → IsNext J now → AlikeSeen J now
next_alike item J now is quiet (inl same) = rw same (seen_itself J)
next_alike item J now is quiet (inr (inl at)) =
    let own_is : own.Proxy at.0 at.1 ∷ J.own ≡ item ∷ J.own = sym (ap (λ (x : Seen). x.own) at.2) ∙ is in
    rw at.2 (proxy_quiet at.0 at.1 J (subst IsQuiet (sym (first_item _ _ J.own J.own own_is)) quiet))
next_alike item J now is quiet (inr (inr (inl at))) =
    let own_is : own.Pubd at.0 ∷ J.own ≡ item ∷ J.own = sym (ap (λ (x : Seen). x.own) at.1) ∙ is in
    let here : IsQuiet (own.Pubd at.0) = subst IsQuiet (sym (first_item _ _ J.own J.own own_is)) quiet in
    rw at.1 (pubd_quiet at.0 J here.0 here.1)
next_alike item J now is quiet (inr (inr (inr at))) =
    let own_is : own.Oklogd at.0 ∷ J.own ≡ item ∷ J.own = sym (ap (λ (x : Seen). x.own) at.1) ∙ is in
    rw at.1 (log_quiet at.0 J (subst IsQuiet (sym (first_item _ _ J.own J.own own_is)) quiet))

-- what answers a frame changes nothing that stands
answer_alike : (C : Config) (w : Speaker) (said : ServiceFrame) (J : Seen) (heard : ServerFrame) (now : Seen) → Answers C w said J heard now → IsNext J now → AlikeSeen J now
answer_alike C w (said.Open p shown) J heard now (inl none) next = rw none.2 (seen_itself J)
answer_alike C w (said.Open p shown) J heard now (inr (inl none)) next = rw none.2 (seen_itself J)
answer_alike C w (said.Open p shown) J heard now (inr (inr some)) next =
    next_alike (own.Proxy p (proxy.Open w.service w.incarnation shown)) J now (ap (λ (x : Seen). x.own) some.3.1) refl next
answer_alike C w (said.Call p n q args) J heard now (inl none) next = rw none.2 (seen_itself J)
answer_alike C w (said.Call p n q args) J heard now (inr (inl none)) next = rw none.2 (seen_itself J)
answer_alike C w (said.Call p n q args) J heard now (inr (inr some)) next =
    next_alike (own.Proxy p (proxy.Call (called w n q args) some.2)) J now (ap (λ (x : Seen). x.own) some.4.1) refl next
answer_alike C w (said.Get name) J heard now (inl none) next = rw none.1 (seen_itself J)
answer_alike C w (said.Get name) J heard now (inr some) next =
    next_alike (own.Pubd (pubd.Get w.service w.incarnation name)) J now (ap (λ (x : Seen). x.own) some.2.1) (refl, λ t n. refl) next
answer_alike C w (said.Log text) J heard now (inl none) next = rw none.1 (seen_itself J)
answer_alike C w (said.Log text) J heard now (inr some) next = next_alike (own.Oklogd (oklogd.Log w.service w.incarnation text)) J now (ap (λ (x : Seen). x.own) some.2.1) refl next
answer_alike C w (said.Reply status content_type location content) J heard now none next = absurd none

-- the open dialog goes on
alike_continued : (s : ℕ) (opened opened' : Opened) (left : List ℕ) (S T : Stage) → said_count opened.items ≡ said_count opened'.items → Alike S T
    → Alike (continued s opened left S) (continued s opened' left T)
alike_continued s opened opened' left S T is a =
    let there : AlikeStand (stand S s) (stand T s) = alike_at s S T a in
    let x : Stand = record (stand S s) { left = left; open_dialog = Some opened } in
    let y : Stand = record (stand T s) { left = left; open_dialog = Some opened' } in
    alike_stand s x y S T (record { here = there.here; last = there.last; left = refl; ended = there.ended; open_is = ap Some is }) a

pub alike_takes : (C : Config) (s : ℕ) (opened opened' : Opened) (said : ServiceFrame) (left : List ℕ) (o : Option End) (S T now now' : Stage) (text text' : List ℕ)
    → said_count opened.items ≡ said_count opened'.items → Alike S T → Takes C s opened said left o S text now → Takes C s opened' said left o T text' now' → Alike now now'
alike_takes C s opened opened' said left (Some how) S T now now' text text' is a one two =
    rw (one.0, two.0) (alike_closed s (heard_said opened said) (heard_said opened' said) how how (continued s opened left S) (continued s opened' left T) refl (alike_continued s opened opened' left S T is a))
alike_takes C s opened opened' said left None S T now now' text text' is a one two =
    let seen : AlikeSeen one.1 two.1
    = seen_trans one.1 S.seen two.1 (seen_sym S.seen one.1 (answer_alike C _ said S.seen one.0 one.1 one.2 one.3))
    (seen_trans S.seen T.seen two.1 a.seen (answer_alike C _ said T.seen two.0 two.1 two.2 two.3)) in
    let more : Opened = record opened { items = Heard one.0 ∷ Said said ∷ opened.items } in
    let more' : Opened = record opened' { items = Heard two.0 ∷ Said said ∷ opened'.items } in
    rw (one.4, two.4) (alike_seen one.1 two.1 (continued s more left S) (continued s more' left T) seen (alike_continued s more more' left S T (ap (λ (n : ℕ). n + 1) is) a))
