-- What stands in the journals stays there while they grow.
use Rattle.std.proofs.Common.{◌≡◌, ◌≢◌, ◌⊎◌, inl, inr, ℕ, ◌<◌, ◌≤◌, Bool, true, false, List, [], ◌∷◌, ◌++◌, Option, Some, None, refl, ap, sym, length, ◌==◌, eqb-true, get_or-set_same, get_or-set_other, subst, append_assoc}
use Rattle.std.specs.Prelude.{slice_set}
use Rattle.std.proofs.lemmas.Bool.{eqb-false, cases_lt}
use Rattle.std.proofs.lemmas.List.{set_past}
use Rattle.okws_base.specs.declared.journal.Entry.{Entry}
use Rattle.okws_plan.specs.declared.configuration.Config.{Config}
use Rattle.okws_plan.specs.declared.script.Place.{Place}
use Rattle.okws_plan.specs.declared.script.Place.TheVariants.{Proxy, Pubd, Oklogd}
use Rattle.okws_plan.specs.declared.event.ProxyEvent.{ProxyEvent}
use Rattle.okws_plan.specs.declared.event.ProxyEvent.TheVariants as proxy
use Rattle.okws_plan.specs.declared.event.PubdEvent.{PubdEvent}
use Rattle.okws_plan.specs.declared.event.PubdEvent.TheVariants as pubd
use Rattle.okws_plan.specs.declared.event.LogEvent.{LogEvent}
use Rattle.okws_plan.specs.declared.event.LogEvent.TheVariants as oklogd
use Rattle.token_core.specs.Token.{token_of}
use Rattle.frame_codec.specs.Spelling.{server_spelling}
use Rattle.frame_codec.specs.declared.frame.ServiceFrame.{ServiceFrame}
use Rattle.frame_codec.specs.declared.frame.ServiceFrame.TheVariants as said
use Rattle.frame_codec.specs.declared.frame.ServerFrame.{ServerFrame}
use Rattle.monitor_model.specs.declared.record.CellEvent.{CellEvent}
use Rattle.monitor_model.specs.declared.record.CellEvent.TheVariants as cell
use Rattle.monitor_model.specs.declared.record.End.{End}
use Rattle.monitor_model.specs.declared.record.End.TheVariants as end
use Rattle.monitor_model.specs.declared.record.Item.{Item}
use Rattle.monitor_model.specs.declared.record.Item.TheVariants.{Heard, Said}
use Rattle.monitor_model.specs.declared.record.Record.{Record}
use Rattle.monitor_model.specs.Course.{Speaker, IsNextOf}
use Rattle.monitor_model.specs.Seen.{Seen, proxy_past}
use Rattle.monitor_model.specs.Stage.{Stage, with_seen}
use Rattle.monitor_model.specs.Script.{entry, at_proxy, at_pubd, at_log, IsNext, installed, installed_all, revoked, revoke_place, revoked_all, stands_of, down_okd, greatest}
use Rattle.monitor_model.specs.Played.{record_of}
use Rattle.monitor_model.specs.Answered.{StandsIn, AnswersIn, AreAnsweredIn, IsFront, EndsIn, OpensIn, IsDialogIn, IsOpenIn, IsEventIn, AreEventsIn, speaker_of}

-- A journal grew.
abbrev pub Extends : {E : Type 0} → List (Entry E) → List (Entry E) → Type 0
Extends {E} J now = (since : List (Entry E)) × (now ≡ since ++ J)

extends_then : {E : Type 0} (J mid now : List (Entry E)) → Extends J mid → Extends mid now → Extends J now
extends_then J mid now a b = (b.0 ++ a.0, rw (b.1, a.1, append_assoc b.0 a.0 J) refl)

stands_later : {E : Type 0} (J now : List (Entry E)) (w : ℕ) (event : E) (before : List (Entry E)) → Extends J now → StandsIn J w event before → StandsIn now w event before
stands_later J now w event before more there = (more.0 ++ there.0, rw (more.1, there.1, append_assoc more.0 there.0 (record { worker = w; event = event } ∷ before)) refl)

-- The journals of a record grew.
pub record IsLater (R now : Record) : Type 0 where
  pub proxies : (p : ℕ) → Extends (proxy_past R.proxies p) (proxy_past now.proxies p)
  pub pubd : Extends R.pubd now.pubd
  pub oklogd : Extends R.oklogd now.oklogd

-- answers stay
answers_later : (C : Config) (R now : Record) (w : Speaker) (said : ServiceFrame) (heard : ServerFrame) → IsLater R now → AnswersIn C R w said heard → AnswersIn C now w said heard
answers_later C R now w (said.Open p shown) heard later (inl unknown) = inl unknown
answers_later C R now w (said.Open p shown) heard later (inr (inl wanting)) = inr (inl wanting)
answers_later C R now w (said.Open p shown) heard later (inr (inr made)) =
    inr (inr (made.0, made.1, made.2, stands_later (proxy_past R.proxies p) (proxy_past now.proxies p) w.worker (proxy.Open w.service w.incarnation shown) made.1 (later.proxies p) made.3))
answers_later C R now w (said.Call p n q args) heard later (inl unknown) = inl unknown
answers_later C R now w (said.Call p n q args) heard later (inr (inl wanting)) = inr (inl wanting)
answers_later C R now w (said.Call p n q args) heard later (inr (inr made)) =
    inr (inr (made.0, made.1, made.2, made.3, stands_later (proxy_past R.proxies p) (proxy_past now.proxies p) w.worker _ made.1 (later.proxies p) made.4))
answers_later C R now w (said.Get name) heard later (inl wanting) = inl wanting
answers_later C R now w (said.Get name) heard later (inr made) =
    inr (made.0, made.1, stands_later R.pubd now.pubd w.worker (pubd.Get w.service w.incarnation name) made.0 later.pubd made.2)
answers_later C R now w (said.Log text) heard later (inl wanting) = inl wanting
answers_later C R now w (said.Log text) heard later (inr made) =
    inr (made.0, made.1, stands_later R.oklogd now.oklogd w.worker (oklogd.Log w.service w.incarnation text) made.0 later.oklogd made.2)
answers_later C R now w (said.Reply status content_type location content) heard later never = absurd never

all_later : (C : Config) (R now : Record) (w : Speaker) (opened items : List Item) → IsLater R now → AreAnsweredIn C R w opened items → AreAnsweredIn C now w opened items
all_later C R now w opened [] later all = absurd all
all_later C R now w opened (Heard heard ∷ []) later all = all
all_later C R now w opened (Heard heard ∷ Heard other ∷ items) later all = all
all_later C R now w opened (Heard heard ∷ Said said ∷ items) later all = (all_later C R now w opened items later all.0, answers_later C R now w said heard later all.1)
all_later C R now w opened (Said said ∷ items) later all = absurd all

-- what a link that failed, or memory that was wanting, cut short
abbrev pub CutByFault : Config → Record → Speaker → List ℕ → List Item → List Item → Type 0
CutByFault C R w due opened items =
    (IsFront opened items × IsNextOf opened items due) ⊎ (AreAnsweredIn C R w opened items × (due ≡ []))
    ⊎ ((said : ServiceFrame) × (heard : ServerFrame) × (before : List Item) × (items ≡ Said said ∷ before) × AreAnsweredIn C R w opened before × AnswersIn C R w said heard × (due ≡ server_spelling heard))

abbrev pub CutByWant : Config → Record → Speaker → List Item → List Item → Type 0
CutByWant C R w opened items =
    IsFront opened items ⊎ AreAnsweredIn C R w opened items
    ⊎ ((said : ServiceFrame) × (before : List Item) × (items ≡ Said said ∷ before) × AreAnsweredIn C R w opened before)

fault_later : (C : Config) (R now : Record) (w : Speaker) (due : List ℕ) (opened items : List Item) → IsLater R now → CutByFault C R w due opened items → CutByFault C now w due opened items
fault_later C R now w due opened items later (inl front) = inl front
fault_later C R now w due opened items later (inr (inl all)) = inr (inl (all_later C R now w opened items later all.0, all.1))
fault_later C R now w due opened items later (inr (inr cut)) =
    inr (inr (cut.0, cut.1, cut.2, cut.3, all_later C R now w opened cut.2 later cut.4, answers_later C R now w cut.0 cut.1 later cut.5, cut.6))

want_later : (C : Config) (R now : Record) (w : Speaker) (opened items : List Item) → IsLater R now → CutByWant C R w opened items → CutByWant C now w opened items
want_later C R now w opened items later (inl front) = inl front
want_later C R now w opened items later (inr (inl all)) = inr (inl (all_later C R now w opened items later all))
want_later C R now w opened items later (inr (inr cut)) = inr (inr (cut.0, cut.1, cut.2, all_later C R now w opened cut.1 later cut.3))

ends_later : (C : Config) (R now : Record) (w : Speaker) (due : List ℕ) (opened items : List Item) (how : End) → IsLater R now → EndsIn C R w due opened items how → EndsIn C now w due opened items how
ends_later C R now w due opened items end.Reply later ends = (ends.0, ends.1, all_later C R now w opened ends.0 later ends.2, ends.3)
ends_later C R now w due opened items (end.Superseded shown) later ends = (ends.0, all_later C R now w opened items later ends.1, ends.2)
ends_later C R now w due opened items end.BadFrame later ends = (all_later C R now w opened items later ends.0, ends.1)
ends_later C R now w due opened items end.Ended later ends = (all_later C R now w opened items later ends.0, ends.1)
ends_later C R now w due opened items end.FrameLimit later ends = (ends.0, ends.1, ends.2, all_later C R now w opened ends.1 later ends.3, ends.4)
ends_later C R now w due opened items end.LinkFault later ends = (ends.0, fault_later C R now w due opened items later ends.1)
ends_later C R now w due opened items end.Starved later ends = (ends.0, want_later C R now w opened items later ends.1)

opens_later : (C : Config) (R now : Record) (w : Speaker) (opened : List Item) → IsLater R now → OpensIn C R w opened → OpensIn C now w opened
opens_later C R now w opened later opens =
    (opens.0, opens.1, opens.2, stands_later R.pubd now.pubd w.worker (pubd.Drain w.service w.incarnation) opens.0 later.pubd opens.3, opens.4)

dialog_later : (C : Config) (R now : Record) (w : Speaker) (due : List ℕ) (items : List Item) (how : End) → IsLater R now → IsDialogIn C R w due items how → IsDialogIn C now w due items how
dialog_later C R now w due items how later (inl at_once) = inl at_once
dialog_later C R now w due items how later (inr course) =
    inr (course.0, opens_later C R now w course.0 later course.1, ends_later C R now w due course.0 items how later course.2)

open_later : (C : Config) (R now : Record) (w : Speaker) (items : List Item) → IsLater R now → IsOpenIn C R w items → IsOpenIn C now w items
open_later C R now w items later o = (o.0, opens_later C R now w o.0 later o.1, all_later C R now w o.0 items later o.2, o.3)

event_later : (C : Config) (R now : Record) (s : ℕ) (J : List CellEvent) (e : CellEvent) → IsLater R now → IsEventIn C R s J e → IsEventIn C now s J e
event_later C R now s J (cell.Dialog d) later there = dialog_later C R now (speaker_of d.worker s J) d.due d.items d.end later there
event_later C R now s J (cell.Speaking worker items) later there = open_later C R now (speaker_of worker s J) items later there
event_later C R now s J (cell.Boot k) later there = tt
event_later C R now s J cell.Retired later there = tt
event_later C R now s J (cell.Missed worker wanted is) later there = tt

pub events_later : (C : Config) (R now : Record) (s : ℕ) (J : List CellEvent) → IsLater R now → AreEventsIn C R s J → AreEventsIn C now s J
events_later C R now s [] later there = tt
events_later C R now s (e ∷ J) later there = (events_later C R now s J later there.0, event_later C R now s J e later there.1)

-- the same journals, and one after another
pub later_same : (S now : Stage) → now.seen.proxies ≡ S.seen.proxies → now.seen.pubd ≡ S.seen.pubd → now.seen.oklogd ≡ S.seen.oklogd → IsLater (record_of S) (record_of now)
later_same S now proxies pubd oklogd = record {
  proxies = λ p. ([], ap (λ (ps : List (List (Entry ProxyEvent))). proxy_past ps p) proxies);
  pubd = ([], pubd);
  oklogd = ([], oklogd);
}

pub later_then : (S mid now : Stage) → IsLater (record_of S) (record_of mid) → IsLater (record_of mid) (record_of now) → IsLater (record_of S) (record_of now)
later_then S mid now a b = record {
  proxies = λ p. extends_then (proxy_past S.seen.proxies p) (proxy_past mid.seen.proxies p) (proxy_past now.seen.proxies p) (a.proxies p) (b.proxies p);
  pubd = extends_then S.seen.pubd mid.seen.pubd now.seen.pubd a.pubd b.pubd;
  oklogd = extends_then S.seen.oklogd mid.seen.oklogd now.seen.oklogd a.oklogd b.oklogd;
}

-- one entry more
extends_when : (ps : List (List (Entry ProxyEvent))) (p q : ℕ) (e : Entry ProxyEvent) → p < length ps → (b : Bool) → (p == q) ≡ b → Extends (proxy_past ps q) (proxy_past (slice_set ps p (e ∷ proxy_past ps p)) q)
extends_when ps p q e declared true same =
    subst (λ (r : ℕ). Extends (proxy_past ps r) (proxy_past (slice_set ps p (e ∷ proxy_past ps p)) r)) (eqb-true p q same)
    (e ∷ [], get_or-set_same ps p (e ∷ proxy_past ps p) [] declared)
extends_when ps p q e declared false same =
    let away : q ≢ p = (λ (is : q ≡ p). eqb-false p q same (sym is)) in
    ([], get_or-set_other ps p q (e ∷ proxy_past ps p) [] away)

extends_at : (ps : List (List (Entry ProxyEvent))) (p q : ℕ) (e : Entry ProxyEvent) → (p < length ps) ⊎ (length ps ≤ p) → Extends (proxy_past ps q) (proxy_past (slice_set ps p (e ∷ proxy_past ps p)) q)
extends_at ps p q e (inl declared) = extends_when ps p q e declared (p == q) refl
extends_at ps p q e (inr past) = ([], ap (λ (qs : List (List (Entry ProxyEvent))). proxy_past qs q) (set_past ps p (e ∷ proxy_past ps p) past))

pub later_proxy : (p : ℕ) (e : ProxyEvent) (S : Stage) → IsLater (record_of S) (record_of (with_seen S (at_proxy p e S.seen)))
later_proxy p e S = record { proxies = λ q. extends_at S.seen.proxies p q (entry e) (cases_lt p (length S.seen.proxies)); pubd = ([], refl); oklogd = ([], refl) }

pub later_pubd : (e : PubdEvent) (S : Stage) → IsLater (record_of S) (record_of (with_seen S (at_pubd e S.seen)))
later_pubd e S = record { proxies = λ q. ([], refl); pubd = (entry e ∷ [], refl); oklogd = ([], refl) }

pub later_log : (e : LogEvent) (S : Stage) → IsLater (record_of S) (record_of (with_seen S (at_log e S.seen)))
later_log e S = record { proxies = λ q. ([], refl); pubd = ([], refl); oklogd = (entry e ∷ [], refl) }

pub later_next : (S : Stage) (now : Seen) → IsNext S.seen now → IsLater (record_of S) (record_of (with_seen S now))
later_next S now (inl same) = rw same (later_same S S refl refl refl)
later_next S now (inr (inl made)) = rw made.2 (later_proxy made.0 made.1 S)
later_next S now (inr (inr (inl made))) = rw made.1 (later_pubd made.0 S)
later_next S now (inr (inr (inr made))) = rw made.1 (later_log made.0 S)

-- installs, revokes and a Down
pub later_installed : (seed : List ℕ) (s : ℕ) (at : Place) (S : Stage) → IsLater (record_of S) (record_of (installed seed s at S))
later_installed seed s (Proxy p) S = later_proxy p (proxy.Install s (greatest S s) (token_of seed s (greatest S s) p)) S
later_installed seed s Pubd S = later_pubd (pubd.Install s (greatest S s)) S
later_installed seed s Oklogd S = later_log (oklogd.Install s (greatest S s)) S

pub later_installed_all : (seed : List ℕ) (s : ℕ) (places : List Place) (S : Stage) → IsLater (record_of S) (record_of (installed_all seed s places S))
later_installed_all seed s [] S = later_same S S refl refl refl
later_installed_all seed s (at ∷ more) S =
    later_then S (installed seed s at S) (installed_all seed s more (installed seed s at S)) (later_installed seed s at S) (later_installed_all seed s more (installed seed s at S))

later_revoke : (s : ℕ) (at : Place) (o : Option ℕ) (S : Stage) → IsLater (record_of S) (record_of (with_seen S (revoke_place s at o S.seen)))
later_revoke s (Proxy p) None S = later_same S S refl refl refl
later_revoke s Pubd None S = later_same S S refl refl refl
later_revoke s Oklogd None S = later_same S S refl refl refl
later_revoke s (Proxy p) (Some k) S = later_proxy p (proxy.Revoke s k) S
later_revoke s Pubd (Some k) S = later_pubd (pubd.Revoke s k) S
later_revoke s Oklogd (Some k) S = later_log (oklogd.Revoke s k) S

pub later_revoked : (s : ℕ) (at : Place) (S : Stage) → IsLater (record_of S) (record_of (revoked s at S))
later_revoked s at S = later_revoke s at (stands_of s at S.seen) S

pub later_revoked_all : (s : ℕ) (places : List Place) (S : Stage) → IsLater (record_of S) (record_of (revoked_all s places S))
later_revoked_all s [] S = later_same S S refl refl refl
later_revoked_all s (at ∷ more) S = later_then S (revoked s at S) (revoked_all s more (revoked s at S)) (later_revoked s at S) (later_revoked_all s more (revoked s at S))

pub later_down : (s : ℕ) (o : Option ℕ) (S : Stage) → IsLater (record_of S) (record_of (with_seen S (down_okd s o S.seen)))
later_down s None S = later_same S S refl refl refl
later_down s (Some k) S = later_same S (with_seen S (down_okd s (Some k) S.seen)) refl refl refl
