-- All that came from an incarnation is what it said, and what is left on its link or was unread.
use Rattle.std.proofs.Common.{◌≡◌, ◌≢◌, inl, inr, ℕ, zero, suc, ◌+◌, ◌<◌, max, Bool, true, false, cond, List, [], ◌∷◌, ◌++◌, Option, Some, None, map, reverse, refl, ap, ◌∙◌, arith, length, ◌==◌, eq-eqb, ne_eqb, get_or-set_same, get_or-set_other, set-set, append_assoc, append-nil, ◌||◌, nat_lt, sym}
use Rattle.std.specs.Prelude.{slice_set, slice_index_or}
use Rattle.std.proofs.lemmas.Bool.{eqb-false}
use Rattle.okws_base.specs.declared.limit.TheConstants.{MOST_FRAMES}
use Rattle.okws_base.specs.Runs.{Each}
use Rattle.okws_plan.specs.Configuration.{cols, all_places}
use Rattle.okws_plan.specs.declared.configuration.Config.{Config}
use Rattle.okws_plan.specs.declared.script.Line.{Line}
use Rattle.okws_plan.specs.declared.script.Line.TheVariants as line
use Rattle.frame_codec.specs.Spelling.{service_spelling}
use Rattle.frame_codec.specs.Stream.{Begins, BeginsNone, IsBad}
use Rattle.frame_codec.specs.declared.frame.ServiceFrame.{ServiceFrame}
use Rattle.frame_codec.specs.declared.frame.ServiceFrame.TheVariants as frames
use Rattle.frame_codec.specs.declared.frame.ServerFrame.{ServerFrame}
use Rattle.frame_codec.specs.declared.frame.ServerFrame.TheVariants as frame
use Rattle.monitor_model.specs.declared.record.CellEvent.{CellEvent}
use Rattle.monitor_model.specs.declared.record.CellEvent.TheVariants as cell
use Rattle.monitor_model.specs.declared.record.End.{End}
use Rattle.monitor_model.specs.declared.record.End.TheVariants as end
use Rattle.monitor_model.specs.declared.record.Item.{Item}
use Rattle.monitor_model.specs.declared.record.Item.TheVariants.{Heard, Said}
use Rattle.monitor_model.specs.declared.record.Own.TheVariants as own
use Rattle.monitor_model.specs.declared.verdict.Push.{Push}
use Rattle.monitor_model.specs.Cell.{said, incarnation, last_booted, CellLaw}
use Rattle.monitor_model.specs.Course.{said_text, opening, push_frame, said_count}
use Rattle.monitor_model.specs.Given.{IsUnread, TakesAll, given_after, given_since}
use Rattle.okws_plan.specs.Lines.{LineFits}
use Rattle.monitor_model.specs.Merged.{cell_past}
use Rattle.monitor_model.specs.Played.{with_open, record_of}
use Rattle.monitor_model.specs.Pubd.{drain_verdict}
use Rattle.monitor_model.specs.Stage.{Stage, Stand, Opened, Asked, empty_stand, first_stage, stand, with_item}
use Rattle.monitor_model.specs.Script.{greatest, begins, closed, superseded, superseded_if, retired, freshly_booted, booted, downed, installed_all, revoked_all, launched, launched_rest, taken_down, relaunched, reply_end, said_end, missed, dialog_opened, given, has_ended, marked, Takes, Advances, GoesOn, Begun, Does, PlaysAll, refusal, settled, broken, no_cell}
use Rattle.monitor_model.proofs.Lawful.Plain.{each_reverse, replicate_at}
use Rattle.monitor_model.proofs.Lawful.Kept.{IsGood}
use Rattle.monitor_model.proofs.Lawful.Settled.{closed_there, retired_there, settled_here}
use Rattle.monitor_model.proofs.Lawful.Stages.{open_is_declared, IsBootable, IsEmpty, superseded_is_shut, retired_is_empty, retired_stage}
use Rattle.monitor_model.proofs.Lawful.Launches.{begins_is_launchable, installed_is_bootable, taken_down_is_launchable}
use Rattle.monitor_model.proofs.Lawful.Dialogs.{good_advances, good_opened}
use Rattle.monitor_model.proofs.Lawful.Lines.{MayBegin, dialog_may_begin, good_install, good_marked, good_given, good_has_ended, unbroken}
use Rattle.monitor_model.proofs.Lawful.Records.{journal, cell_is, good_run}
use Rattle.monitor_model.proofs.Lawful.Hearing.{stand_when}
use Rattle.monitor_model.proofs.Lawful.Telling.{stands_installed_all, stands_revoked_all}
use Rattle.monitor_model.proofs.Lawful.Cells.{was_booted, is_last}
use Rattle.monitor_model.proofs.Lawful.Answered.{IsHeard, all_heard}

-- All that came at a cell is what was said, and a rest.
abbrev pub IsTaken : Stand → List ℕ → Type 0
IsTaken there came = TakesAll (journal there) there.left came

-- The same at each cell.
abbrev pub AreTaken : List Stand → (ℕ → List ℕ) → Type 0
AreTaken stands came = (s : ℕ) → IsTaken (slice_index_or stands s empty_stand) (came s)

-- The same at each cell but one.
abbrev pub AreTakenBut : ℕ → List Stand → (ℕ → List ℕ) → Type 0
AreTakenBut s stands came = (t : ℕ) → s ≢ t → IsTaken (slice_index_or stands t empty_stand) (came t)

-- one cell changes, and what came there
taken_at : (s : ℕ) (stands : List Stand) (there : Stand) (came now : ℕ → List ℕ) → s < length stands → IsTaken there (now s) → ((t : ℕ) → s ≢ t → now t ≡ came t) → AreTakenBut s stands came
    → AreTaken (slice_set stands s there) now
taken_at s stands there came now declared here others all t =
    stand_when (λ (r : ℕ) (x : Stand). IsTaken x (now r)) s t stands there declared here (λ apart. rw (others t apart) (all t apart)) (s == t) refl

taken_there : (s : ℕ) (stands : List Stand) (there : Stand) (came : ℕ → List ℕ) → s < length stands → IsTaken there (came s) → AreTaken stands came → AreTaken (slice_set stands s there) came
taken_there s stands there came declared here all = taken_at s stands there came came declared here (λ t apart. refl) (λ t apart. all t)

taken_but : (s : ℕ) (stands : List Stand) (there : Stand) (came : ℕ → List ℕ) → AreTakenBut s stands came → AreTakenBut s (slice_set stands s there) came
taken_but s stands there came all t apart = rw (get_or-set_other stands s t there empty_stand (λ same. apart (sym same))) (all t apart)

-- where the incarnation is there, the rest is what is left
takes_here : (J : List CellEvent) (left came : List ℕ) → incarnation J ≢ 0 → came ≡ said (last_booted J) J ++ left → TakesAll J left came
takes_here J left came there is = record { rest = left; came_is = is; here = λ some. refl; gone = λ none. absurd (there none) }

taken_here : (J : List CellEvent) (left came : List ℕ) → incarnation J ≢ 0 → TakesAll J left came → came ≡ said (last_booted J) J ++ left
taken_here J left came there takes = takes.came_is ∙ ap (λ (rest : List ℕ). said (last_booted J) J ++ rest) (takes.here there)

-- an open dialog's cell has the last one that was booted
open_is_there : (C : Config) (seed : List ℕ) (s : ℕ) (opened : Opened) (S : Stage) → IsGood C seed S → (stand S s).open_dialog ≡ Some opened → incarnation (stand S s).past ≢ 0
open_is_there C seed s opened S g is =
    let law : CellLaw (cell.Speaking 0 opened.items ∷ (stand S s).past) = rw is at (g.cells s).law in
    law.2

open_is_last : (C : Config) (seed : List ℕ) (s : ℕ) (opened : Opened) (S : Stage) → IsGood C seed S → (stand S s).open_dialog ≡ Some opened → incarnation (stand S s).past ≡ last_booted (stand S s).past
open_is_last C seed s opened S g is =
    let law : CellLaw (cell.Speaking 0 opened.items ∷ (stand S s).past) = rw is at (g.cells s).law in
    is_last (stand S s).past law.0 law.2

-- an incarnation that wasn't booted said nothing
unsaid_when : (bytes more : List ℕ) (b : Bool) → b ≡ false → bytes ≡ [] → bytes ++ cond b more [] ≡ []
unsaid_when bytes more b other none = rw (other, none) refl

unsaid : (k : ℕ) (J : List CellEvent) → last_booted J < k → said k J ≡ []
unsaid k [] above = refl
unsaid k (cell.Boot j ∷ J) above = rw (unsaid k J (omega arith)) refl
unsaid k (cell.Retired ∷ J) above = rw (unsaid k J above) refl
unsaid k (cell.Missed worker wanted is ∷ J) above = rw (unsaid k J above) refl
unsaid k (cell.Dialog d ∷ J) above =
    unsaid_when (said k J) (said_text d.items) (incarnation J == k) (ne_eqb (incarnation J) k (λ same. omega (arith, was_booted J))) (unsaid k J above)
unsaid k (cell.Speaking worker items ∷ J) above =
    unsaid_when (said k J) (said_text items) (incarnation J == k) (ne_eqb (incarnation J) k (λ same. omega (arith, was_booted J))) (unsaid k J above)

-- what came of an open dialog
open_taken : (C : Config) (seed : List ℕ) (s : ℕ) (opened : Opened) (S : Stage) (came : ℕ → List ℕ) → IsGood C seed S → (stand S s).open_dialog ≡ Some opened → AreTaken S.stands came
    → came s ≡ said (last_booted (stand S s).past) (cell.Speaking 0 opened.items ∷ (stand S s).past) ++ (stand S s).left
open_taken C seed s opened S came g is all =
    let takes : TakesAll (cell.Speaking 0 opened.items ∷ (stand S s).past) (stand S s).left (came s) = rw is at (all s) in
    taken_here (cell.Speaking 0 opened.items ∷ (stand S s).past) (stand S s).left (came s) (open_is_there C seed s opened S g is) takes

-- How a dialog of a run ends, by what is left then.
abbrev pub EndTakes : End → List ℕ → Type 0
EndTakes end.BadFrame left = (left ≢ []) × BeginsNone left
EndTakes end.Ended left = left ≡ []
EndTakes end.FrameLimit left = Unit {0}
EndTakes end.Reply left = Unit {0}
EndTakes (end.Superseded shown) left = Unit {0}
EndTakes end.LinkFault left = ⊥
EndTakes end.Starved left = ⊥

-- a dialog ends, and the incarnation with it
takes_gone : (J : List CellEvent) (left came : List ℕ) → came ≡ said (last_booted J) J ++ left → incarnation J ≡ 0 → IsUnread J left → TakesAll J [] came
takes_gone J left came is none unread = record { rest = left; came_is = is; here = λ some. absurd (some none); gone = λ same. (refl, unread) }

closed_takes : (x : Stand) (items : List Item) (how : End) (came : List ℕ) → incarnation x.past ≢ 0 → EndTakes how x.left → came ≡ said (last_booted x.past) (cell.Speaking 0 items ∷ x.past) ++ x.left
    → IsTaken (settled (closed_there items how x)) came
closed_takes x items end.Reply came there fits is =
    settled_here (λ (y : Stand). IsTaken y came) (closed_there items end.Reply x) there
    (takes_here (cell.Dialog (record { worker = 0; items = items; end = end.Reply; due = [] }) ∷ x.past) x.left came there is)
closed_takes x items (end.Superseded shown) came there fits is =
    settled_here (λ (y : Stand). IsTaken y came) (closed_there items (end.Superseded shown) x) there
    (takes_here (cell.Dialog (record { worker = 0; items = items; end = end.Superseded shown; due = [] }) ∷ x.past) x.left came there is)
closed_takes x items end.BadFrame came there fits is =
    takes_gone (cell.Dialog (record { worker = 0; items = items; end = end.BadFrame; due = [] }) ∷ x.past) x.left came is refl fits
closed_takes x items end.Ended came there fits is =
    takes_gone (cell.Dialog (record { worker = 0; items = items; end = end.Ended; due = [] }) ∷ x.past) x.left came is refl fits
closed_takes x items end.FrameLimit came there fits is =
    takes_gone (cell.Dialog (record { worker = 0; items = items; end = end.FrameLimit; due = [] }) ∷ x.past) x.left came is refl fits
closed_takes x items end.LinkFault came there fits is = absurd fits
closed_takes x items end.Starved came there fits is = absurd fits

taken_closed : (C : Config) (seed : List ℕ) (s : ℕ) (opened : Opened) (how : End) (S : Stage) (came : ℕ → List ℕ) → IsGood C seed S → (stand S s).open_dialog ≡ Some opened → EndTakes how (stand S s).left
    → AreTaken S.stands came → AreTaken (closed s opened how S).stands came
taken_closed C seed s opened how S came g is fits all =
    taken_there s S.stands (settled (closed_there opened.items how (stand S s))) came (open_is_declared s S.stands opened is)
    (closed_takes (stand S s) opened.items how (came s) (open_is_there C seed s opened S g is) fits (open_taken C seed s opened S came g is all)) all

taken_superseded_if : (C : Config) (seed : List ℕ) (s : ℕ) (o : Option Opened) (S : Stage) (came : ℕ → List ℕ) → IsGood C seed S → (stand S s).open_dialog ≡ o → AreTaken S.stands came
    → AreTaken (superseded_if s o S).stands came
taken_superseded_if C seed s None S came g is all = all
taken_superseded_if C seed s (Some opened) S came g is all = taken_closed C seed s opened (end.Superseded (greatest S s)) S came g is tt all

-- a cell that is emptied, to be booted
but_superseded_if : (s : ℕ) (o : Option Opened) (S : Stage) (came : ℕ → List ℕ) → AreTakenBut s S.stands came → AreTakenBut s (superseded_if s o S).stands came
but_superseded_if s None S came all = all
but_superseded_if s (Some opened) S came all = taken_but s S.stands (settled (closed_there opened.items (end.Superseded (greatest S s)) (stand S s))) came all

but_retired_when : (s : ℕ) (S : Stage) (b : Bool) (came : ℕ → List ℕ) → AreTakenBut s S.stands came → AreTakenBut s (cond b S (retired_stage s S)).stands came
but_retired_when s S true came all = all
but_retired_when s S false came all = taken_but s S.stands (retired_there (stand S s)) came all

but_emptied : (s : ℕ) (S : Stage) (came : ℕ → List ℕ) → AreTakenBut s S.stands came → AreTakenBut s (retired s (superseded s S)).stands came
but_emptied s S came all =
    but_retired_when s (superseded s S) (incarnation (stand (superseded s S) s).past == 0) came (but_superseded_if s (stand S s).open_dialog S came all)

-- What came since the last boot, once s is booted.
abbrev pub came_booted : ℕ → (ℕ → List ℕ) → ℕ → List ℕ
came_booted s came t = cond (s == t) [] (came t)

newest : (n k : ℕ) → n < k → max k n ≡ k
newest n k above = omega arith

fresh_said : (k newest_booted : ℕ) (J : List CellEvent) → newest_booted ≡ k → last_booted J < k → [] ≡ said newest_booted (cell.Boot k ∷ J) ++ []
fresh_said k newest_booted J is above = let none : said newest_booted J ≡ [] = unsaid newest_booted J (omega arith) in rw none refl

taken_fresh : (C : Config) (seed : List ℕ) (s : ℕ) (S : Stage) (came : ℕ → List ℕ) → IsEmpty C seed s S → AreTakenBut s S.stands came → AreTaken (freshly_booted s S).stands (came_booted s came)
taken_fresh C seed s S came b all =
    let some : greatest S s ≢ 0 = (λ none. absurd (omega (arith, b.bootable.fresh))) in
    taken_at s S.stands (record { past = cell.Boot (greatest S s) ∷ (stand S s).past; left = []; has_ended = false; open_dialog = None }) came (came_booted s came) b.bootable.declared
    (rw (eq-eqb s s refl)
    (takes_here (cell.Boot (greatest S s) ∷ (stand S s).past) [] [] some
    (fresh_said (greatest S s) (max (greatest S s) (last_booted (stand S s).past)) (stand S s).past (newest (last_booted (stand S s).past) (greatest S s) b.bootable.fresh) b.bootable.fresh)))
    (λ t apart. rw (ne_eqb s t apart) refl) all

taken_booted : (C : Config) (seed : List ℕ) (s : ℕ) (S : Stage) (came : ℕ → List ℕ) → IsBootable C seed s S → AreTakenBut s S.stands came → AreTaken (booted s S).stands (came_booted s came)
taken_booted C seed s S came b all =
    taken_fresh C seed s (retired s (superseded s S)) came (retired_is_empty C seed s (superseded s S) (superseded_is_shut C seed s S b)) (but_emptied s S came all)

taken_launched_rest : (C : Config) (seed : List ℕ) (s : ℕ) (S : Stage) (came : ℕ → List ℕ) → IsBootable C seed s (installed_all seed s (cols C s) S) → AreTakenBut s S.stands came
    → AreTaken (launched_rest C seed s S).stands (came_booted s came)
taken_launched_rest C seed s S came b all = taken_booted C seed s (installed_all seed s (cols C s) S) came b (rw (stands_installed_all seed s (cols C s) S) all)

taken_launched : (C : Config) (seed : List ℕ) (s : ℕ) (S : Stage) (came : ℕ → List ℕ) → IsGood C seed S → s < length C.services → AreTakenBut s S.stands came → AreTaken (launched C seed s S).stands (came_booted s came)
taken_launched C seed s S came g declared all =
    taken_launched_rest C seed s (begins s S) came (installed_is_bootable C seed s (begins s S) (begins_is_launchable C seed s S g declared)) all

taken_relaunched : (C : Config) (seed : List ℕ) (s : ℕ) (S : Stage) (came : ℕ → List ℕ) → IsGood C seed S → s < length C.services → AreTakenBut s S.stands came → AreTaken (relaunched C seed s S).stands (came_booted s came)
taken_relaunched C seed s S came g declared all =
    let R : Stage = revoked_all s (all_places C) (downed s (begins s S)) in
    let before : AreTakenBut s R.stands came = rw (stands_revoked_all s (all_places C) (downed s (begins s S))) all in
    taken_launched_rest C seed s (taken_down C s S) came (installed_is_bootable C seed s (taken_down C s S) (taken_down_is_launchable C seed s S g declared))
    (but_emptied s R came before)

-- a frame was said, and so it left the link
frame_taken : (before items bytes left : List ℕ) (b : Bool) → b ≡ true → (before ++ cond b items []) ++ (bytes ++ left) ≡ (before ++ cond b (items ++ bytes) []) ++ left
frame_taken before items bytes left b is = rw is (simp append_assoc)

said_more : (k : ℕ) (was : Opened) (frame : ServiceFrame) (left link came : List ℕ) (J : List CellEvent) → incarnation J ≡ k → Begins link frame left
    → came ≡ said k (cell.Speaking 0 was.items ∷ J) ++ link → came ≡ said k (cell.Speaking 0 (Said frame ∷ was.items) ∷ J) ++ left
said_more k was frame left link came J is begins before =
    let spelled : link ≡ service_spelling frame ++ left = begins.2 ∙ ap (λ (front : List ℕ). front ++ left) begins.1.spelled in
    before ∙ ap (λ (bytes : List ℕ). said k (cell.Speaking 0 was.items ∷ J) ++ bytes) spelled
    ∙ frame_taken (said k J) (said_text was.items) (service_spelling frame) left (incarnation J == k) (eq-eqb (incarnation J) k is)

-- how a frame that was said may end the dialog
abbrev pub MayEnd : Option End → List ℕ → Type 0
MayEnd None left = Unit {0}
MayEnd (Some how) left = EndTakes how left

reply_may_end : (frame : ServiceFrame) (left : List ℕ) → MayEnd (reply_end frame) left
reply_may_end (frames.Reply status content_type location content) left = tt
reply_may_end (frames.Open p shown) left = tt
reply_may_end (frames.Call p n q args) left = tt
reply_may_end (frames.Get name) left = tt
reply_may_end (frames.Log text) left = tt

said_may_end : (b : Bool) (frame : ServiceFrame) (left : List ℕ) → MayEnd (cond b (Some end.FrameLimit) (reply_end frame)) left
said_may_end true frame left = tt
said_may_end false frame left = reply_may_end frame left

taken_takes : (C : Config) (seed : List ℕ) (s : ℕ) (opened : Opened) (frame : ServiceFrame) (left : List ℕ) (o : Option End) (S : Stage) (text : List ℕ) (now : Stage) (came : ℕ → List ℕ)
    → IsGood C seed S → (stand S s).open_dialog ≡ Some opened → Begins (stand S s).left frame left → MayEnd o left → Takes C s opened frame left o S text now → AreTaken S.stands came → AreTaken now.stands came
taken_takes C seed s opened frame left (Some how) S text now came g is begins fits takes all =
    let declared : s < length S.stands = open_is_declared s S.stands opened is in
    let mid : Stand = record (stand S s) { left = left; open_dialog = Some opened } in
    let there : Stand = settled (closed_there (Said frame ∷ opened.items) how mid) in
    let after : came s ≡ said (last_booted (stand S s).past) (cell.Speaking 0 (Said frame ∷ opened.items) ∷ (stand S s).past) ++ left
    = said_more (last_booted (stand S s).past) opened frame left (stand S s).left (came s) (stand S s).past (open_is_last C seed s opened S g is) begins (open_taken C seed s opened S came g is all) in
    rw (takes.0, get_or-set_same S.stands s mid empty_stand declared, set-set S.stands s mid there)
    (taken_there s S.stands there came declared (closed_takes mid (Said frame ∷ opened.items) how (came s) (open_is_there C seed s opened S g is) fits after) all)
taken_takes C seed s opened frame left None S text now came g is begins fits takes all =
    let declared : s < length S.stands = open_is_declared s S.stands opened is in
    let items : List Item = Heard takes.0 ∷ Said frame ∷ opened.items in
    let there : Stand = record (stand S s) { left = left; open_dialog = Some (record opened { items = items }) } in
    let after : came s ≡ said (last_booted (stand S s).past) (cell.Speaking 0 (Said frame ∷ opened.items) ∷ (stand S s).past) ++ left
    = said_more (last_booted (stand S s).past) opened frame left (stand S s).left (came s) (stand S s).past (open_is_last C seed s opened S g is) begins (open_taken C seed s opened S came g is all) in
    rw takes.4 (taken_there s S.stands there came declared (takes_here (cell.Speaking 0 items ∷ (stand S s).past) left (came s) (open_is_there C seed s opened S g is) after) all)

pub bad_is_some : (left : List ℕ) → IsBad left → left ≢ []
bad_is_some left bad none = bad.1 (inl (omega (arith, ap length none)))

taken_advances : (C : Config) (seed : List ℕ) (s : ℕ) (opened : Opened) (S : Stage) (text : List ℕ) (now : Stage) (came : ℕ → List ℕ)
    → IsGood C seed S → (stand S s).open_dialog ≡ Some opened → Advances C s opened S text now → AreTaken S.stands came → AreTaken now.stands came
taken_advances C seed s opened S text now came g is (inl ends) all = rw ends.1 (taken_superseded_if C seed s (stand S s).open_dialog S came g refl all)
taken_advances C seed s opened S text now came g is (inr (inl takes)) all =
    taken_takes C seed s opened takes.1 takes.2 (said_end (said_count opened.items + 1) takes.1) S text now came g is takes.3 (said_may_end (nat_lt MOST_FRAMES (said_count opened.items + 1)) takes.1 takes.2) takes.4 all
taken_advances C seed s opened S text now came g is (inr (inr (inl bad))) all =
    rw bad.2 (taken_closed C seed s opened end.BadFrame S came g is (bad_is_some (stand S s).left bad.1, bad.1.0) all)
taken_advances C seed s opened S text now came g is (inr (inr (inr (inl ended)))) all = rw ended.3 (taken_closed C seed s opened end.Ended S came g is ended.2 all)
taken_advances C seed s opened S text now came g is (inr (inr (inr (inr cut)))) all = rw cut.4 (taken_closed C seed s opened end.BadFrame S came g is (cut.2, cut.3) all)

taken_goes_on : (C : Config) (seed : List ℕ) (s steps : ℕ) (S : Stage) (text : List ℕ) (now : Stage) (came : ℕ → List ℕ) → IsGood C seed S → GoesOn C s steps S text now → AreTaken S.stands came → AreTaken now.stands came
taken_goes_on C seed s zero S text now came g on all = rw on.1 all
taken_goes_on C seed s (suc steps) S text now came g on all =
    taken_goes_on C seed s steps on.1 on.3 now came (good_advances C seed s on.0 S on.2 on.1 g on.4 on.6) on.7 (taken_advances C seed s on.0 S on.2 on.1 came g on.4 on.6 all)

-- what came of a cell with no open dialog
shut_taken : (s : ℕ) (S : Stage) (came : ℕ → List ℕ) → (stand S s).open_dialog ≡ None → AreTaken S.stands came → TakesAll (stand S s).past (stand S s).left (came s)
shut_taken s S came shut all = rw shut at (all s)

-- a dialog begins
silent_event : (bytes rest came : List ℕ) → came ≡ bytes ++ rest → came ≡ (bytes ++ []) ++ rest
silent_event bytes rest came is = rw (append-nil bytes) is

taken_missed : (s k : ℕ) (S : Stage) (came : ℕ → List ℕ) → s < length S.stands → (stand S s).open_dialog ≡ None → AreTaken S.stands came → AreTaken (missed s k S).stands came
taken_missed s k S came declared shut all =
    let before : TakesAll (stand S s).past (stand S s).left (came s) = shut_taken s S came shut all in
    let after : TakesAll (cell.Missed 0 k (incarnation (stand S s).past) ∷ (stand S s).past) (stand S s).left (came s)
    = record { rest = before.rest; came_is = silent_event (said (last_booted (stand S s).past) (stand S s).past) before.rest (came s) before.came_is; here = before.here; gone = before.gone } in
    taken_there s S.stands (record (stand S s) { past = cell.Missed 0 k (incarnation (stand S s).past) ∷ (stand S s).past }) came declared (rw shut after) all

silent_dialog : (bytes items left came : List ℕ) (b : Bool) → items ≡ [] → came ≡ bytes ++ left → came ≡ (bytes ++ cond b items []) ++ left
silent_dialog bytes items left came true none is = rw (none, append-nil bytes) is
silent_dialog bytes items left came false none is = rw (append-nil bytes) is

begun_taken : (s : ℕ) (items : List Item) (S : Stage) (came : ℕ → List ℕ) → incarnation (stand S s).past ≢ 0 → said_text items ≡ [] → (stand S s).open_dialog ≡ None → AreTaken S.stands came
    → came s ≡ said (last_booted (stand S s).past) (cell.Speaking 0 items ∷ (stand S s).past) ++ (stand S s).left
begun_taken s items S came there none shut all =
    silent_dialog (said (last_booted (stand S s).past) (stand S s).past) (said_text items) (stand S s).left (came s) (incarnation (stand S s).past == last_booted (stand S s).past) none
    (taken_here (stand S s).past (stand S s).left (came s) there (shut_taken s S came shut all))

taken_at_once : (n s : ℕ) (S : Stage) (came : ℕ → List ℕ) → s < length S.stands → (stand S s).open_dialog ≡ None → incarnation (stand S s).past ≢ 0 → AreTaken S.stands came
    → AreTaken (closed s (record { request = n; items = [] }) (end.Superseded (greatest S s)) (with_item S (own.Dialog s))).stands came
taken_at_once n s S came declared shut there all =
    taken_there s S.stands (settled (closed_there [] (end.Superseded (greatest S s)) (stand S s))) came declared
    (closed_takes (stand S s) [] (end.Superseded (greatest S s)) (came s) there tt (begun_taken s [] S came there refl shut all)) all

nothing_said : (items : List Item) → Each IsHeard items → said_text items ≡ []
nothing_said [] all = refl
nothing_said (Heard frame ∷ items) all = nothing_said items all.1
nothing_said (Said frame ∷ items) all = absurd all.0

opening_said : (pushes : List Push) (request : ServerFrame) → said_text (opening pushes request) ≡ []
opening_said pushes request =
    nothing_said (reverse (map (λ (push : Push). Heard (push_frame push)) pushes)) (each_reverse IsHeard (map (λ (push : Push). Heard (push_frame push)) pushes) (all_heard pushes))

taken_opened : (C : Config) (n s k : ℕ) (asked : Asked) (S : Stage) (came : ℕ → List ℕ) → s < length S.stands → (stand S s).open_dialog ≡ None → incarnation (stand S s).past ≢ 0 → AreTaken S.stands came
    → AreTaken (dialog_opened C n s k asked S).stands came
taken_opened C n s k asked S came declared shut there all =
    let items : List Item = opening (drain_verdict C S.seen.pubd s k) (frame.Request asked.head asked.content) in
    taken_there s S.stands (record (stand S s) { open_dialog = Some (record { request = n; items = items }) }) came declared
    (takes_here (cell.Speaking 0 items ∷ (stand S s).past) (stand S s).left (came s) there
    (begun_taken s items S came there (opening_said (drain_verdict C S.seen.pubd s k) (frame.Request asked.head asked.content)) shut all)) all

there_is : (k n : ℕ) → 0 < k → n ≡ k → n ≢ 0
there_is k n above is none = absurd (omega arith)

taken_begun : (C : Config) (seed : List ℕ) (n s k : ℕ) (asked : Asked) (S : Stage) (text : List ℕ) (now : Stage) (came : ℕ → List ℕ) → IsGood C seed S → MayBegin s k S → Begun C n s k asked S text now
    → AreTaken S.stands came → AreTaken now.stands came
taken_begun C seed n s k asked S text now came g may (inl begun) all = rw begun.1 (taken_missed s k S came may.declared may.shut all)
taken_begun C seed n s k asked S text now came g may (inr (inl begun)) all =
    rw begun.2 (taken_at_once n s S came may.declared may.shut (there_is k (incarnation (stand S s).past) may.above begun.0) all)
taken_begun C seed n s k asked S text now came g may (inr (inr begun)) all =
    taken_goes_on C seed s begun.2 (dialog_opened C n s k asked S) begun.3 now came (good_opened C seed n s k asked S g may.declared may.shut may.above begun.0) begun.4
    (taken_opened C n s k asked S came may.declared may.shut (there_is k (incarnation (stand S s).past) may.above begun.0) all)

-- bytes come
open_incarnation : (o : Option Opened) (J : List CellEvent) → incarnation (with_open o J) ≡ incarnation J
open_incarnation None J = refl
open_incarnation (Some opened) J = refl

has_incarnation : (s : ℕ) (S : Stage) (ended : Bool) → broken (no_cell S s || ended) 7 None ≡ None → incarnation (journal (stand S s)) ≢ 0
has_incarnation s S ended unrefused =
    let none : (no_cell S s || ended) ≡ false = (unbroken (no_cell S s || ended) 7 None unrefused).0 in
    rw (open_incarnation (stand S s).open_dialog (stand S s).past) (eqb-false (incarnation (stand S s).past) 0 (or_left (no_cell S s) ended none))
  where
    or_left : (a b : Bool) → (a || b) ≡ false → a ≡ false
    or_left true b is = let never : ⊥ = cc in absurd never
    or_left false b is = refl

taken_given : (s : ℕ) (bytes : List ℕ) (S : Stage) (came : ℕ → List ℕ) → s < length S.stands → incarnation (journal (stand S s)) ≢ 0 → AreTaken S.stands came
    → AreTaken (given s bytes S).stands (λ t. cond (s == t) (came t ++ bytes) (came t))
taken_given s bytes S came declared there all =
    let before : came s ≡ said (last_booted (journal (stand S s))) (journal (stand S s)) ++ (stand S s).left = taken_here (journal (stand S s)) (stand S s).left (came s) there (all s) in
    taken_at s S.stands (record (stand S s) { left = (stand S s).left ++ bytes }) came (λ t. cond (s == t) (came t ++ bytes) (came t)) declared
    (rw (eq-eqb s s refl)
    (takes_here (journal (stand S s)) ((stand S s).left ++ bytes) (came s ++ bytes) there
    (ap (λ (front : List ℕ). front ++ bytes) before ∙ append_assoc (said (last_booted (journal (stand S s))) (journal (stand S s))) (stand S s).left bytes)))
    (λ t apart. rw (ne_eqb s t apart) refl) (λ t apart. all t)

-- each line
taken_line : (C : Config) (seed : List ℕ) (line : Line) (S : Stage) (text : List ℕ) (now : Stage) (came : ℕ → List ℕ) → IsGood C seed S → LineFits C line → refusal line S ≡ None → Does C seed line S text now
    → AreTaken S.stands came → AreTaken now.stands (λ t. given_after line t (came t))
taken_line C seed (line.Begin s) S text now came g fits unrefused does all = rw does.0 all
taken_line C seed (line.Install s at) S text now came g fits unrefused does all = rw does.0 all
taken_line C seed (line.Revoke s at) S text now came g fits unrefused does all = rw does.0 all
taken_line C seed (line.Boot s) S text now came g fits unrefused does all =
    rw does.0
    (taken_booted C seed s S came (record { good = g; declared = rw g.stands_are fits; fresh = good_install C seed s S (last_booted (stand S s).past) unrefused }) (λ t apart. all t))
taken_line C seed (line.Up s) S text now came g fits unrefused does all = rw does.0 all
taken_line C seed (line.Down s) S text now came g fits unrefused does all = rw does.0 all
taken_line C seed (line.Launch s) S text now came g fits unrefused does all = rw does.0 (taken_launched C seed s S came g fits (λ t apart. all t))
taken_line C seed (line.Relaunch s) S text now came g fits unrefused does all = rw does.0 (taken_relaunched C seed s S came g fits (λ t apart. all t))
taken_line C seed (line.Accept method target content) S text now came g fits unrefused does all = rw does.0 all
taken_line C seed (line.Dialog n) S text now came g fits unrefused does all =
    let may : MayBegin does.1 does.2 S = dialog_may_begin C seed n S text now g unrefused does in
    taken_begun C seed n does.1 does.2 does.0 (marked n S) text now came (good_marked C seed n S g) (record { declared = may.declared; shut = may.shut; above = may.above }) does.5 all
taken_line C seed (line.Bytes s bytes) S text now came g fits unrefused does all =
    taken_goes_on C seed s does.0 (given s bytes S) text now (λ t. cond (s == t) (came t ++ bytes) (came t)) (good_given C seed s bytes S g fits) does.1
    (taken_given s bytes S came (rw g.stands_are fits) (has_incarnation s S (stand S s).has_ended unrefused) all)
taken_line C seed (line.End s) S text now came g fits unrefused does all =
    taken_goes_on C seed s does.0 (has_ended s S) text now came (good_has_ended C seed s S g fits) does.1
    (taken_there s S.stands (record (stand S s) { has_ended = true }) came (rw g.stands_are fits) (all s) all)
taken_line C seed (line.Publish t content) S text now came g fits unrefused does all = rw does.0 all

-- the lines one after another
taken_first : (C : Config) → AreTaken (first_stage C).stands (λ s. [])
taken_first C s =
    let nothing : TakesAll [] [] [] = record { rest = []; came_is = refl; here = λ some. refl; gone = λ none. (refl, refl) } in
    rw (replicate_at (length C.services) s empty_stand) nothing

taken_run : (C : Config) (seed : List ℕ) (lines : List Line) (printed : List ℕ) (now : Stage) → Each (LineFits C) lines → PlaysAll C seed lines printed now → AreTaken now.stands (given_since lines)
taken_run C seed [] printed now fits run = rw run.1 (taken_first C)
taken_run C seed (line ∷ lines) printed now fits run =
    taken_line C seed line run.0 run.2 now (given_since lines) (good_run C seed lines run.1 run.0 fits.1 run.3) fits.0 run.4.0 run.4.1 (taken_run C seed lines run.1 run.0 fits.1 run.3)

pub script_runs_take_all : (C : Config) (seed : List ℕ) (lines : List Line) (printed : List ℕ) (stage : Stage)
    → Each (LineFits C) lines → PlaysAll C seed (reverse lines) printed stage
    → (s : ℕ) → TakesAll (cell_past (record_of stage) s) (stand stage s).left (given_since (reverse lines) s)
script_runs_take_all C seed lines printed stage fits run s =
    rw (cell_is stage s) (taken_run C seed (reverse lines) printed stage (each_reverse (LineFits C) lines fits) run s)
