-- An incarnation's entries are just the frames that it said.
use Rattle.std.proofs.Common.{◌≡◌, ◌≢◌, inl, inr, ℕ, zero, suc, ◌+◌, ◌<◌, Bool, true, false, ◌&&◌, cond, List, [], ◌∷◌, ◌++◌, Option, Some, None, map, reverse, refl, ap, ◌∙◌, length, ◌==◌, eq-eqb, ne_eqb, get_or-set_same}
use Rattle.okws_base.specs.Runs.{Each}
use Rattle.okws_base.specs.declared.journal.Entry.{Entry}
use Rattle.okws_plan.specs.declared.configuration.Config.{Config}
use Rattle.okws_plan.specs.declared.script.Place.{Place}
use Rattle.okws_plan.specs.declared.script.Place.TheVariants.{Proxy, Pubd, Oklogd}
use Rattle.okws_plan.specs.declared.script.Line.{Line}
use Rattle.okws_plan.specs.declared.script.Line.TheVariants as line
use Rattle.okws_plan.specs.declared.event.ProxyEvent.{ProxyEvent}
use Rattle.okws_plan.specs.declared.event.PubdEvent.TheVariants as pubd
use Rattle.frame_codec.specs.declared.frame.ServiceFrame.{ServiceFrame}
use Rattle.frame_codec.specs.declared.frame.ServerFrame.{ServerFrame}
use Rattle.frame_codec.specs.declared.frame.ServerFrame.TheVariants as frame
use Rattle.monitor_model.specs.declared.record.CellEvent.{CellEvent}
use Rattle.monitor_model.specs.declared.record.CellEvent.TheVariants as cell
use Rattle.monitor_model.specs.declared.record.End.{End}
use Rattle.monitor_model.specs.declared.record.End.TheVariants as end
use Rattle.monitor_model.specs.declared.record.Item.{Item}
use Rattle.monitor_model.specs.declared.record.Item.TheVariants.{Heard, Said}
use Rattle.monitor_model.specs.declared.record.Own.TheVariants as own
use Rattle.monitor_model.specs.declared.verdict.Push.{Push}
use Rattle.monitor_model.specs.Cell.{incarnation, last_booted}
use Rattle.monitor_model.specs.Course.{Answers, opening, push_frame, said_count}
use Rattle.monitor_model.specs.Entered.{Exchange, entered, entered_by, exchanges_at, is_for, tells_entry}
use Rattle.okws_plan.specs.Lines.{LineFits, PlaceFits}
use Rattle.monitor_model.specs.Merged.{cell_past}
use Rattle.monitor_model.specs.Played.{record_of, with_open}
use Rattle.monitor_model.specs.Pubd.{drain_verdict}
use Rattle.monitor_model.specs.Seen.{Seen}
use Rattle.monitor_model.specs.Stage.{Stage, Stand, Opened, Asked, empty_stand, first_stage, stand, with_stand, with_seen, with_item}
use Rattle.monitor_model.specs.Standing.{up_at_okd}
use Rattle.monitor_model.specs.Script.{IsNext, at_pubd, greatest, begins, closed, installed, revoked, downed, upped, continued, heard_said, said_end, speaker, missed, dialog_opened, given, has_ended, marked, Takes, Advances, GoesOn, Begun, Does, PlaysAll, refusal, settled}
use Rattle.monitor_model.proofs.Lawful.Plain.{each_reverse, replicate_at}
use Rattle.monitor_model.proofs.Lawful.Kept.{IsGood}
use Rattle.monitor_model.proofs.Lawful.Settled.{closed_there, settled_keeps}
use Rattle.monitor_model.proofs.Lawful.Stages.{open_is_declared}
use Rattle.monitor_model.proofs.Lawful.Dialogs.{good_advances, good_opened}
use Rattle.monitor_model.proofs.Lawful.Lines.{MayBegin, dialog_may_begin, good_install, good_marked, good_given, good_has_ended}
use Rattle.monitor_model.proofs.Lawful.Records.{journal, cell_is, good_run}
use Rattle.monitor_model.proofs.Lawful.Hearing.{stand_when}
use Rattle.monitor_model.proofs.Lawful.Answered.{IsHeard, all_heard}
use Rattle.monitor_model.proofs.Lawful.Keeping.{AreEntered, keeps_same, keeps_then, keeps_pubd, keeps_installed, keeps_revoked, keeps_down, entered_columns, entered_cell, entered_closed, entered_superseded, entered_booted, entered_launched, entered_relaunched}
use Rattle.monitor_model.proofs.Lawful.Entering.{answered_frames, is_own}

-- a frame was said
step_here : (own_entry here : Bool) (x : Exchange) (dialog rest old : List Exchange) → old ≡ cond own_entry dialog [] ++ rest
    → cond own_entry (cond here (x ∷ old) old) old ≡ cond own_entry (cond here (x ∷ dialog) dialog) [] ++ rest
step_here true true x dialog rest old is = ap (λ (xs : List Exchange). x ∷ xs) is
step_here true false x dialog rest old is = is
step_here false true x dialog rest old is = is
step_here false false x dialog rest old is = is

not_own : (own_entry here : Bool) (x : Exchange) (old : List Exchange) → own_entry ≡ false → cond own_entry (cond here (x ∷ old) old) old ≡ old
not_own own_entry here x old none = rw none refl

own_here : (s n k : ℕ) → ((s == s) && (n == k)) ≡ (n == k)
own_here s n k = rw (eq-eqb s s refl) refl

own_elsewhere : (s t n k : ℕ) → s ≢ t → ((s == t) && (n == k)) ≡ false
own_elsewhere s t n k apart = rw (ne_eqb s t apart) refl

entered_said : (C : Config) (seed : List ℕ) (s : ℕ) (opened : Opened) (frame : ServiceFrame) (left : List ℕ) (heard : ServerFrame) (seen : Seen) (S : Stage)
    → IsGood C seed S → AreEntered C S → (stand S s).open_dialog ≡ Some opened → Answers C (speaker S s) frame S.seen heard seen → IsNext S.seen seen
    → AreEntered C (with_seen (continued s (record opened { items = Heard heard ∷ Said frame ∷ opened.items }) left S) seen)
entered_said C seed s opened frame left heard seen S g all is answers next t k at fits =
    let there : Stand = record (stand S s) { left = left; open_dialog = Some (record opened { items = Heard heard ∷ Said frame ∷ opened.items }) } in
    let then : Stage = with_seen (continued s (record opened { items = Heard heard ∷ Said frame ∷ opened.items }) left S) seen in
    let frames : (r : ℕ) → exchanges_at C at r k (record_of then) ≡ cond (is_own (speaker S s) r k) (cond (is_for at frame && tells_entry heard) (record { said = frame; heard = heard } ∷ exchanges_at C at r k (record_of S)) (exchanges_at C at r k (record_of S))) (exchanges_at C at r k (record_of S))
    = (λ (r : ℕ). keeps_same C (with_seen S seen) then refl refl refl r k at ∙ answered_frames C (speaker S s) frame S heard seen g.seen.proxies_are answers next r k at fits) in
    let before : exchanges_at C at s k (record_of S) ≡ cond (incarnation (stand S s).past == k) (entered at opened.items) [] ++ entered_by at k (stand S s).past = rw is at (all s k at fits) in
    stand_when (λ (r : ℕ) (x : Stand). exchanges_at C at r k (record_of then) ≡ entered_by at k (journal x)) s t S.stands there (open_is_declared s S.stands opened is)
    (rw (frames s, own_here s (incarnation (stand S s).past) k)
    (step_here (incarnation (stand S s).past == k) (is_for at frame && tells_entry heard) (record { said = frame; heard = heard }) (entered at opened.items) (entered_by at k (stand S s).past) (exchanges_at C at s k (record_of S)) before))
    (λ apart. rw (frames t, not_own (is_own (speaker S s) t k) (is_for at frame && tells_entry heard) (record { said = frame; heard = heard }) (exchanges_at C at t k (record_of S)) (own_elsewhere s t (incarnation (stand S s).past) k apart)) (all t k at fits))
    (s == t) refl

entered_continued : (C : Config) (s : ℕ) (opened : Opened) (left : List ℕ) (S : Stage) → AreEntered C S → (stand S s).open_dialog ≡ Some opened → AreEntered C (continued s opened left S)
entered_continued C s opened left S all is =
    entered_cell C S (continued s opened left S) s (record (stand S s) { left = left; open_dialog = Some opened }) (keeps_same C S (continued s opened left S) refl refl refl) refl (open_is_declared s S.stands opened is)
    (λ k at. rw is refl) all

entered_takes : (C : Config) (seed : List ℕ) (s : ℕ) (opened : Opened) (frame : ServiceFrame) (left : List ℕ) (o : Option End) (S : Stage) (text : List ℕ) (now : Stage)
    → IsGood C seed S → AreEntered C S → (stand S s).open_dialog ≡ Some opened → Takes C s opened frame left o S text now → AreEntered C now
entered_takes C seed s opened frame left (Some how) S text now g all is takes =
    let mid : Stage = continued s opened left S in
    let here : (stand mid s).open_dialog ≡ Some opened
    = ap (λ (there : Stand). there.open_dialog) (get_or-set_same S.stands s (record (stand S s) { left = left; open_dialog = Some opened }) empty_stand (open_is_declared s S.stands opened is)) in
    rw takes.0 (entered_closed C s opened (heard_said opened frame) how mid (entered_continued C s opened left S all is) here (λ at. refl))
entered_takes C seed s opened frame left None S text now g all is takes = rw takes.4 (entered_said C seed s opened frame left takes.0 takes.1 S g all is takes.2 takes.3)

entered_advances : (C : Config) (seed : List ℕ) (s : ℕ) (opened : Opened) (S : Stage) (text : List ℕ) (now : Stage)
    → IsGood C seed S → AreEntered C S → (stand S s).open_dialog ≡ Some opened → Advances C s opened S text now → AreEntered C now
entered_advances C seed s opened S text now g all is (inl ends) = rw ends.1 (entered_superseded C s S all)
entered_advances C seed s opened S text now g all is (inr (inl takes)) = entered_takes C seed s opened takes.1 takes.2 (said_end (said_count opened.items + 1) takes.1) S text now g all is takes.4
entered_advances C seed s opened S text now g all is (inr (inr (inl bad))) = rw bad.2 (entered_closed C s opened opened end.BadFrame S all is (λ at. refl))
entered_advances C seed s opened S text now g all is (inr (inr (inr (inl ended)))) = rw ended.3 (entered_closed C s opened opened end.Ended S all is (λ at. refl))
entered_advances C seed s opened S text now g all is (inr (inr (inr (inr cut)))) = rw cut.4 (entered_closed C s opened opened end.BadFrame S all is (λ at. refl))

entered_goes_on : (C : Config) (seed : List ℕ) (s steps : ℕ) (S : Stage) (text : List ℕ) (now : Stage) → IsGood C seed S → AreEntered C S → GoesOn C s steps S text now → AreEntered C now
entered_goes_on C seed s zero S text now g all on = rw on.1 all
entered_goes_on C seed s (suc steps) S text now g all on =
    entered_goes_on C seed s steps on.1 on.3 now (good_advances C seed s on.0 S on.2 on.1 g on.4 on.6) (entered_advances C seed s on.0 S on.2 on.1 g all on.4 on.6) on.7

-- a dialog begins
entered_missed : (C : Config) (s k : ℕ) (S : Stage) → AreEntered C S → s < length S.stands → (stand S s).open_dialog ≡ None → AreEntered C (missed s k S)
entered_missed C s k S all declared shut =
    entered_cell C S (missed s k S) s (record (stand S s) { past = cell.Missed 0 k (incarnation (stand S s).past) ∷ (stand S s).past }) (keeps_same C S (missed s k S) refl refl refl) refl declared
    (λ j at. rw shut refl) all

nothing_when : (b : Bool) (xs ys : List Exchange) → xs ≡ [] → cond b xs [] ++ ys ≡ ys
nothing_when true xs ys none = rw none refl
nothing_when false xs ys none = refl

entered_at_once : (C : Config) (n s : ℕ) (S : Stage) → AreEntered C S → s < length S.stands → (stand S s).open_dialog ≡ None
    → AreEntered C (closed s (record { request = n; items = [] }) (end.Superseded (greatest S s)) (with_item S (own.Dialog s)))
entered_at_once C n s S all declared shut =
    let then : Stage = closed s (record { request = n; items = [] }) (end.Superseded (greatest S s)) (with_item S (own.Dialog s)) in
    let there : Stand = closed_there [] (end.Superseded (greatest S s)) (stand S s) in
    entered_cell C S then s (settled there) (keeps_same C S then refl refl refl) refl declared
    (λ k at. settled_keeps (λ (J : List CellEvent) (o : Option Opened). entered_by at k (with_open o J) ≡ entered_by at k (journal (stand S s))) there
    (rw shut (nothing_when (incarnation (stand S s).past == k) [] (entered_by at k (stand S s).past) refl))) all

front_entered : (at : Place) (request : ServerFrame) (items : List Item) → Each IsHeard items → entered at (Heard request ∷ items) ≡ []
front_entered at request [] all = refl
front_entered at request (Heard frame ∷ items) all = refl
front_entered at request (Said frame ∷ items) all = absurd all.0

opening_entered : (at : Place) (pushes : List Push) (request : ServerFrame) → entered at (opening pushes request) ≡ []
opening_entered at pushes request =
    front_entered at request (reverse (map (λ (push : Push). Heard (push_frame push)) pushes)) (each_reverse IsHeard (map (λ (push : Push). Heard (push_frame push)) pushes) (all_heard pushes))

entered_opened : (C : Config) (n s k : ℕ) (asked : Asked) (S : Stage) → AreEntered C S → s < length S.stands → (stand S s).open_dialog ≡ None → AreEntered C (dialog_opened C n s k asked S)
entered_opened C n s k asked S all declared shut =
    let then : Stage = dialog_opened C n s k asked S in
    let drained : Stage = with_seen S (at_pubd (pubd.Drain s k) S.seen) in
    let items : List Item = opening (drain_verdict C S.seen.pubd s k) (frame.Request asked.head asked.content) in
    entered_cell C S then s (record (stand S s) { open_dialog = Some (record { request = n; items = items }) })
    (keeps_then C S drained then (keeps_pubd C (pubd.Drain s k) S (λ t j J. refl)) (keeps_same C drained then refl refl refl)) refl declared
    (λ j at. rw shut (nothing_when (incarnation (stand S s).past == j) (entered at items) (entered_by at j (stand S s).past) (opening_entered at (drain_verdict C S.seen.pubd s k) (frame.Request asked.head asked.content)))) all

entered_begun : (C : Config) (seed : List ℕ) (n s k : ℕ) (asked : Asked) (S : Stage) (text : List ℕ) (now : Stage) → IsGood C seed S → AreEntered C S → MayBegin s k S → Begun C n s k asked S text now → AreEntered C now
entered_begun C seed n s k asked S text now g all may (inl begun) = rw begun.1 (entered_missed C s k S all may.declared may.shut)
entered_begun C seed n s k asked S text now g all may (inr (inl begun)) = rw begun.2 (entered_at_once C n s S all may.declared may.shut)
entered_begun C seed n s k asked S text now g all may (inr (inr begun)) =
    entered_goes_on C seed s begun.2 (dialog_opened C n s k asked S) begun.3 now (good_opened C seed n s k asked S g may.declared may.shut may.above begun.0)
    (entered_opened C n s k asked S all may.declared may.shut) begun.4

-- bytes come, or end
entered_link : (C : Config) (s : ℕ) (there : Stand) (S : Stage) → AreEntered C S → s < length S.stands → there.past ≡ (stand S s).past → there.open_dialog ≡ (stand S s).open_dialog → AreEntered C (with_stand S s there)
entered_link C s there S all declared past opened = entered_cell C S (with_stand S s there) s there (keeps_same C S (with_stand S s there) refl refl refl) refl declared (λ k at. rw (past, opened) refl) all

-- each line
entered_line : (C : Config) (seed : List ℕ) (line : Line) (S : Stage) (text : List ℕ) (now : Stage) → IsGood C seed S → AreEntered C S → LineFits C line → refusal line S ≡ None → Does C seed line S text now → AreEntered C now
entered_line C seed (line.Begin s) S text now g all fits unrefused does = rw does.0 (entered_columns C S (begins s S) (keeps_same C S (begins s S) refl refl refl) refl all)
entered_line C seed (line.Install s at) S text now g all fits unrefused does = rw does.0 (entered_columns C S (installed seed s at S) (keeps_installed C seed s at S) refl all)
entered_line C seed (line.Revoke s at) S text now g all fits unrefused does = rw does.0 (entered_columns C S (revoked s at S) (keeps_revoked C s at S) refl all)
entered_line C seed (line.Boot s) S text now g all fits unrefused does =
    rw does.0 (entered_booted C seed s S (record { good = g; declared = rw g.stands_are fits; fresh = good_install C seed s S (last_booted (stand S s).past) unrefused }) all)
entered_line C seed (line.Up s) S text now g all fits unrefused does = rw does.0 (entered_columns C S (upped s S) (keeps_same C S (upped s S) refl refl refl) refl all)
entered_line C seed (line.Down s) S text now g all fits unrefused does = rw does.0 (entered_columns C S (downed s S) (keeps_down C s (up_at_okd S.seen.okd s) S) refl all)
entered_line C seed (line.Launch s) S text now g all fits unrefused does = rw does.0 (entered_launched C seed s S g fits all)
entered_line C seed (line.Relaunch s) S text now g all fits unrefused does = rw does.0 (entered_relaunched C seed s S g fits all)
entered_line C seed (line.Accept method target content) S text now g all fits unrefused does =
    entered_columns C S now (keeps_same C S now (ap (λ (T : Stage). T.seen.proxies) does.0) (ap (λ (T : Stage). T.seen.pubd) does.0) (ap (λ (T : Stage). T.seen.oklogd) does.0))
    (ap (λ (T : Stage). T.stands) does.0) all
entered_line C seed (line.Dialog n) S text now g all fits unrefused does =
    let may : MayBegin does.1 does.2 S = dialog_may_begin C seed n S text now g unrefused does in
    entered_begun C seed n does.1 does.2 does.0 (marked n S) text now (good_marked C seed n S g) (entered_columns C S (marked n S) (keeps_same C S (marked n S) refl refl refl) refl all)
    (record { declared = may.declared; shut = may.shut; above = may.above }) does.5
entered_line C seed (line.Bytes s bytes) S text now g all fits unrefused does =
    entered_goes_on C seed s does.0 (given s bytes S) text now (good_given C seed s bytes S g fits)
    (entered_link C s (record (stand S s) { left = (stand S s).left ++ bytes }) S all (rw g.stands_are fits) refl refl) does.1
entered_line C seed (line.End s) S text now g all fits unrefused does =
    entered_goes_on C seed s does.0 (has_ended s S) text now (good_has_ended C seed s S g fits) (entered_link C s (record (stand S s) { has_ended = true }) S all (rw g.stands_are fits) refl refl) does.1
entered_line C seed (line.Publish t content) S text now g all fits unrefused does =
    rw does.0 (entered_columns C S (with_seen S (at_pubd (pubd.Publish t content) S.seen)) (keeps_pubd C (pubd.Publish t content) S (λ s k J. refl)) refl all)

-- the lines one after another
entered_first : (C : Config) → AreEntered C (first_stage C)
entered_first C s k (Proxy p) fits = rw (replicate_at (length C.services) s empty_stand, replicate_at {A = List (Entry ProxyEvent)} (length C.proxies) p []) refl
entered_first C s k Pubd fits = rw (replicate_at (length C.services) s empty_stand) refl
entered_first C s k Oklogd fits = rw (replicate_at (length C.services) s empty_stand) refl

entered_run : (C : Config) (seed : List ℕ) (lines : List Line) (printed : List ℕ) (now : Stage) → Each (LineFits C) lines → PlaysAll C seed lines printed now → AreEntered C now
entered_run C seed [] printed now fits run = rw run.1 (entered_first C)
entered_run C seed (line ∷ lines) printed now fits run =
    entered_line C seed line run.0 run.2 now (good_run C seed lines run.1 run.0 fits.1 run.3) (entered_run C seed lines run.1 run.0 fits.1 run.3) fits.0 run.4.0 run.4.1

pub script_runs_enter_all : (C : Config) (seed : List ℕ) (lines : List Line) (printed : List ℕ) (stage : Stage)
    → Each (LineFits C) lines → PlaysAll C seed (reverse lines) printed stage
    → (s k : ℕ) (at : Place) → PlaceFits C at → exchanges_at C at s k (record_of stage) ≡ entered_by at k (cell_past (record_of stage) s)
script_runs_enter_all C seed lines printed stage fits run s k at declared =
    rw (cell_is stage s) (entered_run C seed (reverse lines) printed stage (each_reverse (LineFits C) lines fits) run s k at declared)
