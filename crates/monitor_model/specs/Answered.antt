-- Each frame that was heard in a dialog, against the entries of the journals that a run leaves.
use Rattle.std.specs.Prelude.{◌≡◌, ℕ, ◌<◌, ◌≤◌, List, [], ◌∷◌, ◌++◌, ◌⊎◌, IsTrue, IsFalse}
use Rattle.okws_base.specs.declared.limit.TheConstants.{MOST_FRAMES}
use Rattle.okws_base.specs.Denial.{rule_number}
use Rattle.okws_base.specs.declared.denial.Rule.TheVariants as rule
use Rattle.okws_base.specs.declared.journal.Entry.{Entry}
use Rattle.okws_plan.specs.declared.configuration.Config.{Config}
use Rattle.okws_plan.specs.declared.event.Mark.{Mark}
use Rattle.okws_plan.specs.declared.event.ProxyEvent.{ProxyEvent}
use Rattle.okws_plan.specs.declared.event.ProxyEvent.TheVariants as proxy
use Rattle.okws_plan.specs.declared.event.PubdEvent.{PubdEvent}
use Rattle.okws_plan.specs.declared.event.PubdEvent.TheVariants as pubd
use Rattle.okws_plan.specs.declared.event.LogEvent.{LogEvent}
use Rattle.okws_plan.specs.declared.event.LogEvent.TheVariants as oklogd
use Rattle.frame_codec.specs.Spelling.{server_spelling}
use Rattle.frame_codec.specs.declared.frame.ServiceFrame.{ServiceFrame}
use Rattle.frame_codec.specs.declared.frame.ServiceFrame.TheVariants.{Open, Call, Get, Log, Reply}
use Rattle.frame_codec.specs.declared.frame.ServerFrame.{ServerFrame}
use Rattle.frame_codec.specs.declared.frame.ServerFrame.TheVariants as frame
use Rattle.monitor_model.specs.declared.record.CellEvent.{CellEvent}
use Rattle.monitor_model.specs.declared.record.CellEvent.TheVariants as cell
use Rattle.monitor_model.specs.declared.record.End.{End}
use Rattle.monitor_model.specs.declared.record.End.TheVariants as end
use Rattle.monitor_model.specs.declared.record.Item.{Item}
use Rattle.monitor_model.specs.declared.record.Item.TheVariants.{Heard, Said}
use Rattle.monitor_model.specs.declared.record.Record.{Record}
use Rattle.monitor_model.specs.Cell.{incarnation}
use Rattle.monitor_model.specs.Course.{Speaker, EndsInReply, IsNextOf, called, got_frame, is_declared, noted_frame, opening, said_count, verdict_frame}
use Rattle.monitor_model.specs.Logd.{log_verdict}
use Rattle.monitor_model.specs.Proxy.{call_verdict, open_verdict}
use Rattle.monitor_model.specs.Pubd.{drain_verdict, get_verdict}
use Rattle.monitor_model.specs.Seen.{proxy_past}

-- Worker w's entry of this event stands in a journal, on this past.
abbrev pub StandsIn : {E : Type 0} → List (Entry E) → ℕ → E → List (Entry E) → Type 0
StandsIn {E} J w event before = (since : List (Entry E)) × (J ≡ since ++ record { worker = w; event = event } ∷ before)

-- The frame that answers what was said: Denied 10 where the named proxy isn't declared; or NoMemory; or the frame of the verdict of an entry that stands in the record's journals, which is what was said.
abbrev pub AnswersIn : Config → Record → Speaker → ServiceFrame → ServerFrame → Type 0
AnswersIn C R w (Open p shown) heard =
    (IsFalse (is_declared C p) × (heard ≡ frame.Denied (rule_number rule.NoSuchProxy)))
    ⊎ (IsTrue (is_declared C p) × (heard ≡ frame.NoMemory))
    ⊎ (IsTrue (is_declared C p) × (before : List (Entry ProxyEvent)) × (heard ≡ verdict_frame (open_verdict before w.service w.incarnation shown))
    × StandsIn (proxy_past R.proxies p) w.worker (proxy.Open w.service w.incarnation shown) before)
AnswersIn C R w (Call p n q args) heard =
    (IsFalse (is_declared C p) × (heard ≡ frame.Denied (rule_number rule.NoSuchProxy)))
    ⊎ (IsTrue (is_declared C p) × (heard ≡ frame.NoMemory))
    ⊎ (IsTrue (is_declared C p) × (before : List (Entry ProxyEvent)) × (mark : Mark) × (heard ≡ verdict_frame (call_verdict C p before (called w n q args) mark))
    × StandsIn (proxy_past R.proxies p) w.worker (proxy.Call (called w n q args) mark) before)
AnswersIn C R w (Get name) heard =
    (heard ≡ frame.NoMemory)
    ⊎ ((before : List (Entry PubdEvent)) × (heard ≡ got_frame (get_verdict C before w.service w.incarnation name)) × StandsIn R.pubd w.worker (pubd.Get w.service w.incarnation name) before)
AnswersIn C R w (Log text) heard =
    (heard ≡ frame.NoMemory)
    ⊎ ((before : List (Entry LogEvent)) × (heard ≡ noted_frame (log_verdict C before w.service w.incarnation text)) × StandsIn R.oklogd w.worker (oklogd.Log w.service w.incarnation text) before)
AnswersIn C R w (Reply status content_type location content) heard = ⊥

-- The items, the newest first, are the opening and then frames that were said, each with its answer.
abbrev pub AreAnsweredIn : Config → Record → Speaker → List Item → List Item → Type 0
AreAnsweredIn C R w opened [] = ⊥
AreAnsweredIn C R w opened (Heard heard ∷ []) = Heard heard ∷ [] ≡ opened
AreAnsweredIn C R w opened (Heard heard ∷ Heard other ∷ items) = Heard heard ∷ Heard other ∷ items ≡ opened
AreAnsweredIn C R w opened (Heard heard ∷ Said said ∷ items) = AreAnsweredIn C R w opened items × AnswersIn C R w said heard
AreAnsweredIn C R w opened (Said said ∷ items) = ⊥

-- A front of the opening was heard.
abbrev pub IsFront : List Item → List Item → Type 0
IsFront opened items = (rest : List Item) × (opened ≡ rest ++ items)

-- How the items, the newest first, fit the end of a dialog with this opening, and what was due as its link failed.
abbrev pub EndsIn : Config → Record → Speaker → List ℕ → List Item → List Item → End → Type 0
EndsIn C R w due opened items end.Reply = (before : List Item) × EndsInReply items before × AreAnsweredIn C R w opened before × (said_count items ≤ MOST_FRAMES)
EndsIn C R w due opened items (end.Superseded shown) = (w.incarnation < shown) × AreAnsweredIn C R w opened items × (said_count items ≤ MOST_FRAMES)
EndsIn C R w due opened items end.BadFrame = AreAnsweredIn C R w opened items × (said_count items ≤ MOST_FRAMES)
EndsIn C R w due opened items end.Ended = AreAnsweredIn C R w opened items × (said_count items ≤ MOST_FRAMES)
EndsIn C R w due opened items end.FrameLimit = (said : ServiceFrame) × (before : List Item) × (items ≡ Said said ∷ before) × AreAnsweredIn C R w opened before × (said_count before ≡ MOST_FRAMES)
EndsIn C R w due opened items end.LinkFault =
    (said_count items ≤ MOST_FRAMES) × ((IsFront opened items × IsNextOf opened items due) ⊎ (AreAnsweredIn C R w opened items × (due ≡ []))
    ⊎ ((said : ServiceFrame) × (heard : ServerFrame) × (before : List Item) × (items ≡ Said said ∷ before) × AreAnsweredIn C R w opened before × AnswersIn C R w said heard × (due ≡ server_spelling heard)))
EndsIn C R w due opened items end.Starved =
    (said_count items ≤ MOST_FRAMES) × (IsFront opened items ⊎ AreAnsweredIn C R w opened items
    ⊎ ((said : ServiceFrame) × (before : List Item) × (items ≡ Said said ∷ before) × AreAnsweredIn C R w opened before))

-- The dialog's Drain stands in pubd's journal, on this past, and these are its pushes and its Request.
abbrev pub OpensIn : Config → Record → Speaker → List Item → Type 0
OpensIn C R w opened =
    (before : List (Entry PubdEvent)) × (head content : List ℕ) × StandsIn R.pubd w.worker (pubd.Drain w.service w.incarnation) before
    × (opened ≡ opening (drain_verdict C before w.service w.incarnation) (frame.Request head content))

-- A dialog of an incarnation was superseded before its Drain; or its Drain was entered, and what it heard and said fits its end.
abbrev pub IsDialogIn : Config → Record → Speaker → List ℕ → List Item → End → Type 0
IsDialogIn C R w due items how =
    ((shown : ℕ) × (how ≡ end.Superseded shown) × (w.incarnation < shown) × (items ≡ []))
    ⊎ ((opened : List Item) × OpensIn C R w opened × EndsIn C R w due opened items how)

-- A dialog that is open has its Drain, and each frame that was said in it has its answer.
abbrev pub IsOpenIn : Config → Record → Speaker → List Item → Type 0
IsOpenIn C R w items = (opened : List Item) × OpensIn C R w opened × AreAnsweredIn C R w opened items × (said_count items ≤ MOST_FRAMES)

-- Who speaks in a dialog of worker w at cell s, on the events J before it.
abbrev pub speaker_of : ℕ → ℕ → List CellEvent → Speaker
speaker_of w s J = record { worker = w; service = s; incarnation = incarnation J }

-- A dialog of cell s, on the events J before it, fits the record's journals.
abbrev pub IsEventIn : Config → Record → ℕ → List CellEvent → CellEvent → Type 0
IsEventIn C R s J (cell.Dialog d) = IsDialogIn C R (speaker_of d.worker s J) d.due d.items d.end
IsEventIn C R s J (cell.Speaking worker items) = IsOpenIn C R (speaker_of worker s J) items
IsEventIn C R s J (cell.Boot k) = Unit {0}
IsEventIn C R s J cell.Retired = Unit {0}
IsEventIn C R s J (cell.Missed worker wanted is) = Unit {0}

-- Each dialog of cell s fits the record's journals.
abbrev pub AreEventsIn : Config → Record → ℕ → List CellEvent → Type 0
AreEventsIn C R s [] = Unit {0}
AreEventsIn C R s (e ∷ J) = AreEventsIn C R s J × IsEventIn C R s J e
