-- Each dialog of a run is answered by the verdicts along its journals.
use Rattle.std.proofs.Common.{◌≡◌, inl, inr, ℕ, zero, suc, ◌+◌, ◌<◌, ◌≤◌, Bool, true, false, cond, List, [], ◌∷◌, ◌++◌, Option, Some, None, map, reverse, refl, ap, ◌∙◌, arith, length, nat_lt, get_or-set_same, ltb-false}
use Rattle.std.specs.Prelude.{slice_set}
use Rattle.okws_base.specs.declared.limit.TheConstants.{MOST_FRAMES}
use Rattle.okws_base.specs.Runs.{Each}
use Rattle.okws_base.specs.declared.journal.Entry.{Entry}
use Rattle.okws_plan.specs.declared.configuration.Config.{Config}
use Rattle.okws_plan.specs.declared.script.Line.{Line}
use Rattle.okws_plan.specs.declared.script.Line.TheVariants as line
use Rattle.okws_plan.specs.declared.event.ProxyEvent.{ProxyEvent}
use Rattle.okws_plan.specs.declared.event.ProxyEvent.TheVariants as proxy
use Rattle.okws_plan.specs.declared.event.PubdEvent.TheVariants as pubd
use Rattle.frame_codec.specs.declared.frame.ServiceFrame.{ServiceFrame}
use Rattle.frame_codec.specs.declared.frame.ServiceFrame.TheVariants as said
use Rattle.frame_codec.specs.declared.frame.ServerFrame.{ServerFrame}
use Rattle.frame_codec.specs.declared.frame.ServerFrame.TheVariants as frame
use Rattle.monitor_model.specs.declared.record.CellEvent.{CellEvent}
use Rattle.monitor_model.specs.declared.record.CellEvent.TheVariants as cell
use Rattle.monitor_model.specs.declared.record.End.{End}
use Rattle.monitor_model.specs.declared.record.End.TheVariants as end
use Rattle.monitor_model.specs.declared.record.Item.{Item}
use Rattle.monitor_model.specs.declared.record.Item.TheVariants.{Heard, Said}
use Rattle.monitor_model.specs.declared.record.Own.TheVariants as own
use Rattle.monitor_model.specs.declared.record.Record.{Record}
use Rattle.monitor_model.specs.declared.verdict.Push.{Push}
use Rattle.monitor_model.specs.Answered.{AnswersIn, AreAnsweredIn, IsOpenIn, AreEventsIn, speaker_of}
use Rattle.monitor_model.specs.Cell.{incarnation, last_booted}
use Rattle.monitor_model.specs.Course.{Answers, Speaker, called, opening, push_frame, said_count}
use Rattle.okws_plan.specs.Lines.{LineFits}
use Rattle.monitor_model.specs.Merged.{cell_past}
use Rattle.monitor_model.specs.Played.{record_of, with_open}
use Rattle.monitor_model.specs.Pubd.{drain_verdict}
use Rattle.monitor_model.specs.Seen.{Seen, proxy_past}
use Rattle.monitor_model.specs.Stage.{Stage, Stand, Opened, Asked, empty_stand, first_stage, stand, with_stand, with_seen, with_item}
use Rattle.monitor_model.specs.Script.{at_pubd, greatest, begins, closed, installed, revoked, upped, downed, continued, heard_said, reply_end, said_end, said_end, speaker, missed, dialog_opened, given, has_ended, marked, Takes, Advances, GoesOn, Begun, Does, PlaysAll, refusal, settled}
use Rattle.monitor_model.specs.Standing.{up_at_okd}
use Rattle.monitor_model.proofs.Lawful.Plain.{each_reverse, is_true_below, replicate_at}
use Rattle.monitor_model.proofs.Lawful.Kept.{IsGood}
use Rattle.monitor_model.proofs.Lawful.Settled.{closed_there, settled_keeps}
use Rattle.monitor_model.proofs.Lawful.Stages.{open_is_declared}
use Rattle.monitor_model.proofs.Lawful.Dialogs.{good_advances, good_opened}
use Rattle.monitor_model.proofs.Lawful.Lines.{MayBegin, dialog_may_begin, good_install, good_marked, good_given, good_has_ended}
use Rattle.monitor_model.proofs.Lawful.Records.{journal, cell_is, good_run}
use Rattle.monitor_model.proofs.Lawful.Later.{IsLater, events_later, later_same, later_then, later_pubd, later_next, later_installed, later_revoked, later_down}
use Rattle.monitor_model.proofs.Lawful.Answering.{IsAnswering, answering_later, answering_at, shut_events, open_events, answering_closed, answering_superseded, ends_said, ends_bad, ends_ended, answering_booted, answering_launched, answering_relaunched}

-- a frame's answer, by the entry that it made
proxy_stands : (T : Stage) (J : Seen) (p : ℕ) (e : Entry ProxyEvent) (before : List (Entry ProxyEvent)) → p < length J.proxies → T.seen.proxies ≡ slice_set J.proxies p (e ∷ before)
    → proxy_past T.seen.proxies p ≡ e ∷ before
proxy_stands T J p e before declared is = ap (λ (ps : List (List (Entry ProxyEvent))). proxy_past ps p) is ∙ get_or-set_same J.proxies p (e ∷ before) [] declared

answers_in : (C : Config) (w : Speaker) (said : ServiceFrame) (J : Seen) (heard : ServerFrame) (T : Stage) → length J.proxies ≡ length C.proxies → Answers C w said J heard T.seen → AnswersIn C (record_of T) w said heard
answers_in C w (said.Open p shown) J heard T many (inl unknown) = inl (unknown.0, unknown.1)
answers_in C w (said.Open p shown) J heard T many (inr (inl wanting)) = inr (inl (wanting.0, wanting.1))
answers_in C w (said.Open p shown) J heard T many (inr (inr made)) =
    inr (inr (
      made.0,
      made.1,
      made.2,
      ([], proxy_stands T J p (record { worker = w.worker; event = proxy.Open w.service w.incarnation shown }) made.1 (rw many (is_true_below p (length C.proxies) made.0)) (ap (λ (K : Seen). K.proxies) made.3.1)),
    ))
answers_in C w (said.Call p n q args) J heard T many (inl unknown) = inl (unknown.0, unknown.1)
answers_in C w (said.Call p n q args) J heard T many (inr (inl wanting)) = inr (inl (wanting.0, wanting.1))
answers_in C w (said.Call p n q args) J heard T many (inr (inr made)) =
    inr (inr (
      made.0,
      made.1,
      made.2,
      made.3,
      ([], proxy_stands T J p (record { worker = w.worker; event = proxy.Call (called w n q args) made.2 }) made.1 (rw many (is_true_below p (length C.proxies) made.0)) (ap (λ (K : Seen). K.proxies) made.4.1)),
    ))
answers_in C w (said.Get name) J heard T many (inl wanting) = inl wanting.0
answers_in C w (said.Get name) J heard T many (inr made) = inr (made.0, made.1, ([], ap (λ (K : Seen). K.pubd) made.2.1))
answers_in C w (said.Log text) J heard T many (inl wanting) = inl wanting.0
answers_in C w (said.Log text) J heard T many (inr made) = inr (made.0, made.1, ([], ap (λ (K : Seen). K.oklogd) made.2.1))
answers_in C w (said.Reply status content_type location content) J heard T many never = absurd never

few_said : (n : ℕ) (said : ServiceFrame) (b : Bool) → nat_lt MOST_FRAMES n ≡ b → cond b (Some end.FrameLimit) (reply_end said) ≡ None → n ≤ MOST_FRAMES
few_said n said true many is = let never : ⊥ = cc in absurd never
few_said n said false few is = ltb-false MOST_FRAMES n few

-- a frame was said
answering_continued : (C : Config) (s : ℕ) (opened : Opened) (left : List ℕ) (S : Stage) → IsAnswering C S → (stand S s).open_dialog ≡ Some opened → IsAnswering C (continued s opened left S)
answering_continued C s opened left S all is =
    let there : Stand = record (stand S s) { left = left; open_dialog = Some opened } in
    let later : IsLater (record_of S) (record_of (continued s opened left S)) = later_same S (continued s opened left S) refl refl refl in
    answering_at C S (continued s opened left S) s there later refl (open_is_declared s S.stands opened is)
    (events_later C (record_of S) (record_of (continued s opened left S)) s (journal there) later (open_events C S s opened all is)) all

answering_takes : (C : Config) (seed : List ℕ) (s : ℕ) (opened : Opened) (said : ServiceFrame) (left : List ℕ) (o : Option End) (S : Stage) (text : List ℕ) (now : Stage)
    → IsGood C seed S → IsAnswering C S → (stand S s).open_dialog ≡ Some opened → said_end (said_count opened.items + 1) said ≡ o → Takes C s opened said left o S text now → IsAnswering C now
answering_takes C seed s opened said left (Some how) S text now g all is ends takes =
    let mid : Stage = continued s opened left S in
    let here : (stand mid s).open_dialog ≡ Some opened
    = ap (λ (there : Stand). there.open_dialog) (get_or-set_same S.stands s (record (stand S s) { left = left; open_dialog = Some opened }) empty_stand (open_is_declared s S.stands opened is)) in
    rw takes.0
    (answering_closed C s opened (heard_said opened said) how mid (answering_continued C s opened left S all is) here
    (ends_said C (record_of mid) (speaker_of 0 s (stand mid s).past) opened.items said how (nat_lt MOST_FRAMES (said_count opened.items + 1)) refl ends))
answering_takes C seed s opened said left None S text now g all is ends takes =
    let there : Stand = record (stand S s) { left = left; open_dialog = Some (record opened { items = Heard takes.0 ∷ Said said ∷ opened.items }) } in
    let then : Stage = with_seen (continued s (record opened { items = Heard takes.0 ∷ Said said ∷ opened.items }) left S) takes.1 in
    let later : IsLater (record_of S) (record_of then) = later_then S (with_seen S takes.1) then (later_next S takes.1 takes.3) (later_same (with_seen S takes.1) then refl refl refl) in
    let before : AreEventsIn C (record_of then) s (cell.Speaking 0 opened.items ∷ (stand S s).past)
    = events_later C (record_of S) (record_of then) s (cell.Speaking 0 opened.items ∷ (stand S s).past) later (open_events C S s opened all is) in
    let answer : AnswersIn C (record_of then) (speaker S s) said takes.0 = answers_in C (speaker S s) said S.seen takes.0 then g.seen.proxies_are takes.2 in
    rw takes.4
    (answering_at C S then s there later refl (open_is_declared s S.stands opened is)
    (before.0, (before.1.0, before.1.1, (before.1.2, answer), few_said (said_count opened.items + 1) said (nat_lt MOST_FRAMES (said_count opened.items + 1)) refl ends)) all)

answering_advances : (C : Config) (seed : List ℕ) (s : ℕ) (opened : Opened) (S : Stage) (text : List ℕ) (now : Stage)
    → IsGood C seed S → IsAnswering C S → (stand S s).open_dialog ≡ Some opened → Advances C s opened S text now → IsAnswering C now
answering_advances C seed s opened S text now g all is (inl ends) =
    rw ends.1 (answering_superseded C s S all (is_true_below (incarnation (stand S s).past) (greatest S s) ends.0))
answering_advances C seed s opened S text now g all is (inr (inl takes)) =
    answering_takes C seed s opened takes.1 takes.2 (said_end (said_count opened.items + 1) takes.1) S text now g all is refl takes.4
answering_advances C seed s opened S text now g all is (inr (inr (inl bad))) =
    rw bad.2 (answering_closed C s opened opened end.BadFrame S all is (ends_bad C (record_of S) (speaker_of 0 s (stand S s).past) opened.items))
answering_advances C seed s opened S text now g all is (inr (inr (inr (inl ended)))) =
    rw ended.3 (answering_closed C s opened opened end.Ended S all is (ends_ended C (record_of S) (speaker_of 0 s (stand S s).past) opened.items))
answering_advances C seed s opened S text now g all is (inr (inr (inr (inr cut)))) =
    rw cut.4 (answering_closed C s opened opened end.BadFrame S all is (ends_bad C (record_of S) (speaker_of 0 s (stand S s).past) opened.items))

answering_goes_on : (C : Config) (seed : List ℕ) (s steps : ℕ) (S : Stage) (text : List ℕ) (now : Stage) → IsGood C seed S → IsAnswering C S → GoesOn C s steps S text now → IsAnswering C now
answering_goes_on C seed s zero S text now g all on = rw on.1 all
answering_goes_on C seed s (suc steps) S text now g all on =
    answering_goes_on C seed s steps on.1 on.3 now (good_advances C seed s on.0 S on.2 on.1 g on.4 on.6) (answering_advances C seed s on.0 S on.2 on.1 g all on.4 on.6) on.7

-- a dialog begins
answering_missed : (C : Config) (s k : ℕ) (S : Stage) → IsAnswering C S → s < length S.stands → (stand S s).open_dialog ≡ None → IsAnswering C (missed s k S)
answering_missed C s k S all declared shut =
    let there : Stand = record (stand S s) { past = cell.Missed 0 k (incarnation (stand S s).past) ∷ (stand S s).past } in
    let later : IsLater (record_of S) (record_of (missed s k S)) = later_same S (missed s k S) refl refl refl in
    answering_at C S (missed s k S) s there later refl declared
    (rw shut (events_later C (record_of S) (record_of (missed s k S)) s (stand S s).past later (shut_events C S s all shut), tt)) all

answering_at_once : (C : Config) (n s k : ℕ) (S : Stage) → IsAnswering C S → s < length S.stands → (stand S s).open_dialog ≡ None → incarnation (stand S s).past ≡ k → k < greatest S s
    → IsAnswering C (closed s (record { request = n; items = [] }) (end.Superseded (greatest S s)) (with_item S (own.Dialog s)))
answering_at_once C n s k S all declared shut is above =
    let then : Stage = closed s (record { request = n; items = [] }) (end.Superseded (greatest S s)) (with_item S (own.Dialog s)) in
    let there : Stand = closed_there [] (end.Superseded (greatest S s)) (stand S s) in
    let later : IsLater (record_of S) (record_of then) = later_same S then refl refl refl in
    let below : incarnation (stand S s).past < greatest S s = omega arith in
    answering_at C S then s (settled there) later refl declared
    (settled_keeps (λ (J : List CellEvent) (o : Option Opened). AreEventsIn C (record_of then) s (with_open o J)) there
    (events_later C (record_of S) (record_of then) s (stand S s).past later (shut_events C S s all shut), inl (greatest S s, refl, below, refl))) all

-- An item that was heard.
abbrev pub IsHeard : Item → Type 0
IsHeard (Heard frame) = Unit {0}
IsHeard (Said frame) = ⊥

pub all_heard : (pushes : List Push) → Each IsHeard (map (λ (push : Push). Heard (push_frame push)) pushes)
all_heard [] = tt
all_heard (push ∷ more) = (tt, all_heard more)

pub none_said : (items : List Item) → Each IsHeard items → said_count items ≡ 0
none_said [] all = refl
none_said (Heard frame ∷ items) all = none_said items all.1
none_said (Said frame ∷ items) all = absurd all.0

front_answered : (C : Config) (R : Record) (w : Speaker) (request : ServerFrame) (items : List Item) → Each IsHeard items → AreAnsweredIn C R w (Heard request ∷ items) (Heard request ∷ items)
front_answered C R w request [] all = refl
front_answered C R w request (Heard frame ∷ items) all = refl
front_answered C R w request (Said frame ∷ items) all = absurd all.0

opened_in : (C : Config) (R : Record) (s k : ℕ) (before : List (Entry _)) (head content : List ℕ) → R.pubd ≡ record { worker = 0; event = pubd.Drain s k } ∷ before
    → IsOpenIn C R (record { worker = 0; service = s; incarnation = k }) (opening (drain_verdict C before s k) (frame.Request head content))
opened_in C R s k before head content is =
    let pushes : List Item = map (λ (push : Push). Heard (push_frame push)) (drain_verdict C before s k) in
    let heard : Each IsHeard (reverse pushes) = each_reverse IsHeard pushes (all_heard (drain_verdict C before s k)) in
    let none : said_count (reverse pushes) ≡ 0 = none_said (reverse pushes) heard in (
      opening (drain_verdict C before s k) (frame.Request head content),
      (before, head, content, ([], is), refl),
      front_answered C R (record { worker = 0; service = s; incarnation = k }) (frame.Request head content) (reverse pushes) heard,
      omega arith,
    )

answering_opened : (C : Config) (n s k : ℕ) (asked : Asked) (S : Stage) → IsAnswering C S → s < length S.stands → (stand S s).open_dialog ≡ None → incarnation (stand S s).past ≡ k
    → IsAnswering C (dialog_opened C n s k asked S)
answering_opened C n s k asked S all declared shut is =
    let then : Stage = dialog_opened C n s k asked S in
    let there : Stand = record (stand S s) { open_dialog = Some (record { request = n; items = opening (drain_verdict C S.seen.pubd s k) (frame.Request asked.head asked.content) }) } in
    let later : IsLater (record_of S) (record_of then)
    = later_then S (with_seen S (at_pubd (pubd.Drain s k) S.seen)) then (later_pubd (pubd.Drain s k) S) (later_same (with_seen S (at_pubd (pubd.Drain s k) S.seen)) then refl refl refl) in
    answering_at C S then s there later refl declared
    (events_later C (record_of S) (record_of then) s (stand S s).past later (shut_events C S s all shut), rw is (opened_in C (record_of then) s k S.seen.pubd asked.head asked.content refl)) all

answering_begun : (C : Config) (seed : List ℕ) (n s k : ℕ) (asked : Asked) (S : Stage) (text : List ℕ) (now : Stage) → IsGood C seed S → IsAnswering C S → MayBegin s k S
    → Begun C n s k asked S text now → IsAnswering C now
answering_begun C seed n s k asked S text now g all may (inl begun) = rw begun.1 (answering_missed C s k S all may.declared may.shut)
answering_begun C seed n s k asked S text now g all may (inr (inl begun)) = rw begun.2 (answering_at_once C n s k S all may.declared may.shut begun.0 begun.1)
answering_begun C seed n s k asked S text now g all may (inr (inr begun)) =
    answering_goes_on C seed s begun.2 (dialog_opened C n s k asked S) begun.3 now (good_opened C seed n s k asked S g may.declared may.shut may.above begun.0)
    (answering_opened C n s k asked S all may.declared may.shut begun.0) begun.4

-- bytes come, or end
answering_link : (C : Config) (s : ℕ) (there : Stand) (S : Stage) → IsAnswering C S → s < length S.stands → there.past ≡ (stand S s).past → there.open_dialog ≡ (stand S s).open_dialog
    → IsAnswering C (with_stand S s there)
answering_link C s there S all declared past opened =
    let later : IsLater (record_of S) (record_of (with_stand S s there)) = later_same S (with_stand S s there) refl refl refl in
    answering_at C S (with_stand S s there) s there later refl declared
    (rw (past, opened) (events_later C (record_of S) (record_of (with_stand S s there)) s (journal (stand S s)) later (all s))) all

-- each line
answering_line : (C : Config) (seed : List ℕ) (line : Line) (S : Stage) (text : List ℕ) (now : Stage) → IsGood C seed S → IsAnswering C S → LineFits C line → refusal line S ≡ None → Does C seed line S text now
    → IsAnswering C now
answering_line C seed (line.Begin s) S text now g all fits unrefused does = rw does.0 (answering_later C S (begins s S) (later_same S (begins s S) refl refl refl) refl all)
answering_line C seed (line.Install s at) S text now g all fits unrefused does = rw does.0 (answering_later C S (installed seed s at S) (later_installed seed s at S) refl all)
answering_line C seed (line.Revoke s at) S text now g all fits unrefused does = rw does.0 (answering_later C S (revoked s at S) (later_revoked s at S) refl all)
answering_line C seed (line.Boot s) S text now g all fits unrefused does =
    rw does.0 (answering_booted C seed s S (record { good = g; declared = rw g.stands_are fits; fresh = good_install C seed s S (last_booted (stand S s).past) unrefused }) all)
answering_line C seed (line.Up s) S text now g all fits unrefused does = rw does.0 (answering_later C S (upped s S) (later_same S (upped s S) refl refl refl) refl all)
answering_line C seed (line.Down s) S text now g all fits unrefused does = rw does.0 (answering_later C S (downed s S) (later_down s (up_at_okd S.seen.okd s) S) refl all)
answering_line C seed (line.Launch s) S text now g all fits unrefused does = rw does.0 (answering_launched C seed s S g fits all)
answering_line C seed (line.Relaunch s) S text now g all fits unrefused does = rw does.0 (answering_relaunched C seed s S g fits all)
answering_line C seed (line.Accept method target content) S text now g all fits unrefused does =
    answering_later C S now (later_same S now (ap (λ (T : Stage). T.seen.proxies) does.0) (ap (λ (T : Stage). T.seen.pubd) does.0) (ap (λ (T : Stage). T.seen.oklogd) does.0))
    (ap (λ (T : Stage). T.stands) does.0) all
answering_line C seed (line.Dialog n) S text now g all fits unrefused does =
    let may : MayBegin does.1 does.2 S = dialog_may_begin C seed n S text now g unrefused does in
    answering_begun C seed n does.1 does.2 does.0 (marked n S) text now (good_marked C seed n S g) (answering_later C S (marked n S) (later_same S (marked n S) refl refl refl) refl all)
    (record { declared = may.declared; shut = may.shut; above = may.above }) does.5
answering_line C seed (line.Bytes s bytes) S text now g all fits unrefused does =
    answering_goes_on C seed s does.0 (given s bytes S) text now (good_given C seed s bytes S g fits)
    (answering_link C s (record (stand S s) { left = (stand S s).left ++ bytes }) S all (rw g.stands_are fits) refl refl) does.1
answering_line C seed (line.End s) S text now g all fits unrefused does =
    answering_goes_on C seed s does.0 (has_ended s S) text now (good_has_ended C seed s S g fits)
    (answering_link C s (record (stand S s) { has_ended = true }) S all (rw g.stands_are fits) refl refl) does.1
answering_line C seed (line.Publish t content) S text now g all fits unrefused does =
    rw does.0 (answering_later C S (with_seen S (at_pubd (pubd.Publish t content) S.seen)) (later_pubd (pubd.Publish t content) S) refl all)

-- the lines one after another
answering_first : (C : Config) → IsAnswering C (first_stage C)
answering_first C s = rw (replicate_at (length C.services) s empty_stand) tt

answering_run : (C : Config) (seed : List ℕ) (lines : List Line) (printed : List ℕ) (now : Stage) → Each (LineFits C) lines → PlaysAll C seed lines printed now → IsAnswering C now
answering_run C seed [] printed now fits run = rw run.1 (answering_first C)
answering_run C seed (line ∷ lines) printed now fits run =
    answering_line C seed line run.0 run.2 now (good_run C seed lines run.1 run.0 fits.1 run.3) (answering_run C seed lines run.1 run.0 fits.1 run.3) fits.0 run.4.0 run.4.1

pub script_runs_are_answered : (C : Config) (seed : List ℕ) (lines : List Line) (printed : List ℕ) (stage : Stage)
    → Each (LineFits C) lines → PlaysAll C seed (reverse lines) printed stage → (s : ℕ) → AreEventsIn C (record_of stage) s (cell_past (record_of stage) s)
script_runs_are_answered C seed lines printed stage fits run s =
    rw (cell_is stage s) (answering_run C seed (reverse lines) printed stage (each_reverse (LineFits C) lines fits) run s)
