-- What a dialog hears and says, against the verdicts of the entries that it made.
use Rattle.std.specs.Prelude.{◌≡◌, ℕ, ◌+◌, ◌<◌, ◌≤◌, Bool, true, false, List, [], ◌∷◌, ◌++◌, Option, Some, None, length, map, reverse, ◌⊎◌, nat_lt, IsTrue, IsFalse}
use Rattle.okws_base.specs.declared.limit.TheConstants.{MOST_FRAMES}
use Rattle.okws_base.specs.Denial.{rule_number}
use Rattle.okws_base.specs.declared.denial.Rule.TheVariants as rule
use Rattle.okws_base.specs.declared.journal.Entry.{Entry}
use Rattle.okws_base.specs.declared.value.Value.{Value}
use Rattle.okws_plan.specs.declared.event.Mark.{Mark}
use Rattle.okws_plan.specs.declared.configuration.Config.{Config}
use Rattle.okws_plan.specs.declared.configuration.Query.{Query}
use Rattle.okws_plan.specs.declared.statement.Action.{Action}
use Rattle.okws_plan.specs.declared.statement.Action.TheVariants as action
use Rattle.okws_plan.specs.declared.event.Call.{Call as Called}
use Rattle.okws_plan.specs.declared.event.ProxyEvent.{ProxyEvent}
use Rattle.okws_plan.specs.declared.event.ProxyEvent.TheVariants as proxy
use Rattle.okws_plan.specs.declared.event.PubdEvent.{PubdEvent}
use Rattle.okws_plan.specs.declared.event.PubdEvent.TheVariants as pubd
use Rattle.okws_plan.specs.declared.event.LogEvent.{LogEvent}
use Rattle.okws_plan.specs.declared.event.LogEvent.TheVariants as oklogd
use Rattle.frame_codec.specs.Spelling.{server_spelling, service_spelling}
use Rattle.frame_codec.specs.Stream.{IsBadStop, IsEndStop}
use Rattle.frame_codec.specs.declared.frame.ServiceFrame.{ServiceFrame}
use Rattle.frame_codec.specs.declared.frame.ServiceFrame.TheVariants.{Open, Call, Get, Log, Reply}
use Rattle.frame_codec.specs.declared.frame.ServerFrame.{ServerFrame}
use Rattle.frame_codec.specs.declared.frame.ServerFrame.TheVariants as frame
use Rattle.monitor_model.specs.declared.verdict.Verdict.{Verdict}
use Rattle.monitor_model.specs.declared.verdict.Verdict.TheVariants as verdict
use Rattle.monitor_model.specs.declared.verdict.Push.{Push}
use Rattle.monitor_model.specs.declared.verdict.Got.{Got}
use Rattle.monitor_model.specs.declared.verdict.Got.TheVariants as got
use Rattle.monitor_model.specs.declared.verdict.Noted.{Noted}
use Rattle.monitor_model.specs.declared.verdict.Noted.TheVariants as noted
use Rattle.monitor_model.specs.declared.record.Item.{Item}
use Rattle.monitor_model.specs.declared.record.Item.TheVariants.{Heard, Said}
use Rattle.monitor_model.specs.declared.record.End.{End}
use Rattle.monitor_model.specs.declared.record.End.TheVariants as end
use Rattle.monitor_model.specs.Proxy.{open_verdict, call_verdict, allowed, granted}
use Rattle.monitor_model.specs.Pubd.{drain_verdict, get_verdict}
use Rattle.monitor_model.specs.Logd.{log_verdict}
use Rattle.monitor_model.specs.Seen.{Seen, AtProxy, AtPubd, AtLog}

-- The frame that tells a proxy's verdict.
abbrev pub verdict_frame : Verdict → ServerFrame
verdict_frame (verdict.Opened n) = frame.Opened n
verdict_frame (verdict.Rows columns T) = frame.Rows columns T
verdict_frame (verdict.Changed n) = frame.Changed n
verdict_frame verdict.Duplicate = frame.Duplicate
verdict_frame (verdict.Denied broken) = frame.Denied (rule_number broken)
verdict_frame verdict.Failed = frame.Failed

-- The frame that tells what a Get is answered.
abbrev pub got_frame : Got → ServerFrame
got_frame (got.Template edition content) = frame.Template edition content
got_frame (got.Denied broken) = frame.Denied (rule_number broken)

-- The frame that tells what a Log is answered.
abbrev pub noted_frame : Noted → ServerFrame
noted_frame noted.Logged = frame.Logged
noted_frame (noted.Denied broken) = frame.Denied (rule_number broken)

-- The frame of a push.
abbrev pub push_frame : Push → ServerFrame
push_frame push = frame.Push push.template push.edition push.content

-- Who speaks: the worker, the service and the incarnation.
pub record Speaker : Type 0 where
  pub worker : ℕ
  pub service : ℕ
  pub incarnation : ℕ

-- The call that a frame of the speaker asks for.
abbrev pub called : Speaker → ℕ → ℕ → List Value → Called
called w n q args = record { service = w.service; incarnation = w.incarnation; session = n; query = q; args = args }

-- The proxy is declared.
abbrev pub is_declared : Config → ℕ → Bool
is_declared C p = nat_lt p (length C.proxies)

-- The frame that answers what was said, on what the worker had seen, and what it has seen then: Denied 10 where the named proxy isn't declared; NoMemory, without an entry; else the frame of the verdict of the one entry that it made.
abbrev pub Answers : Config → Speaker → ServiceFrame → Seen → ServerFrame → Seen → Type 0
Answers C w (Open p shown) J heard now =
    (IsFalse (is_declared C p) × (heard ≡ frame.Denied (rule_number rule.NoSuchProxy)) × (now ≡ J))
    ⊎ (IsTrue (is_declared C p) × (heard ≡ frame.NoMemory) × (now ≡ J))
    ⊎ (IsTrue (is_declared C p) × (before : List (Entry ProxyEvent)) × (heard ≡ verdict_frame (open_verdict before w.service w.incarnation shown))
    × AtProxy w.worker p (proxy.Open w.service w.incarnation shown) J before now)
Answers C w (Call p n q args) J heard now =
    (IsFalse (is_declared C p) × (heard ≡ frame.Denied (rule_number rule.NoSuchProxy)) × (now ≡ J))
    ⊎ (IsTrue (is_declared C p) × (heard ≡ frame.NoMemory) × (now ≡ J))
    ⊎ (IsTrue (is_declared C p) × (before : List (Entry ProxyEvent)) × (mark : Mark) × (heard ≡ verdict_frame (call_verdict C p before (called w n q args) mark))
    × AtProxy w.worker p (proxy.Call (called w n q args) mark) J before now)
Answers C w (Get name) J heard now =
    ((heard ≡ frame.NoMemory) × (now ≡ J))
    ⊎ ((before : List (Entry PubdEvent)) × (heard ≡ got_frame (get_verdict C before w.service w.incarnation name))
    × AtPubd w.worker (pubd.Get w.service w.incarnation name) J before now)
Answers C w (Log text) J heard now =
    ((heard ≡ frame.NoMemory) × (now ≡ J))
    ⊎ ((before : List (Entry LogEvent)) × (heard ≡ noted_frame (log_verdict C before w.service w.incarnation text))
    × AtLog w.worker (oklogd.Log w.service w.incarnation text) J before now)
Answers C w (Reply status content_type location content) J heard now = ⊥

-- How a dialog opens, the newest first: its pushes, then its Request.
abbrev pub opening : List Push → ServerFrame → List Item
opening pushes request = Heard request ∷ reverse (map (λ (push : Push). Heard (push_frame push)) pushes)

-- The items, the newest first, are the opening and then frames that were said, each with its answer; they lead from what the worker had seen to what it has seen now.
abbrev pub IsAnswered : Config → Speaker → List Item → Seen → List Item → Seen → Type 0
IsAnswered C w opened J [] now = ⊥
IsAnswered C w opened J (Heard heard ∷ []) now = (Heard heard ∷ [] ≡ opened) × (now ≡ J)
IsAnswered C w opened J (Heard heard ∷ Heard other ∷ items) now = (Heard heard ∷ Heard other ∷ items ≡ opened) × (now ≡ J)
IsAnswered C w opened J (Heard heard ∷ Said said ∷ items) now = (mid : Seen) × IsAnswered C w opened J items mid × Answers C w said mid heard now
IsAnswered C w opened J (Said said ∷ items) now = ⊥

-- How many frames were said.
abbrev pub said_count : List Item → ℕ
said_count [] = 0
said_count (Heard frame ∷ items) = said_count items
said_count (Said frame ∷ items) = said_count items + 1

-- A front of the opening was put.
abbrev pub IsOpening : List Item → Seen → List Item → Seen → Type 0
IsOpening opened J items now = (rest : List Item) × (opened ≡ rest ++ items) × (now ≡ J)

-- These bytes are the next frame of the opening.
abbrev pub IsNextOf : List Item → List Item → List ℕ → Type 0
IsNextOf opened items due = (rest : List Item) × (next : ServerFrame) × (opened ≡ rest ++ Heard next ∷ items) × (due ≡ server_spelling next)

-- The action is a SELECT.
abbrev pub is_select_action : Action → Bool
is_select_action (action.Select selection) = true
is_select_action (action.Insert values) = false
is_select_action (action.Update assignments conditions) = false
is_select_action (action.Delete conditions) = false

-- The query is there, and is a SELECT.
abbrev pub is_select : Option Query → Bool
is_select None = false
is_select (Some query) = is_select_action query.statement.action

-- What was said had no entry, or is an allowed Call of a SELECT and had one.
abbrev pub Unanswered : Config → Speaker → ServiceFrame → Seen → Seen → Type 0
Unanswered C w (Call p n q args) J now =
    (now ≡ J)
    ⊎ ((before : List (Entry ProxyEvent)) × (mark : Mark) × IsTrue (allowed C p before (called w n q args)) × IsTrue (is_select (granted C p w.service q))
    × AtProxy w.worker p (proxy.Call (called w n q args) mark) J before now)
Unanswered C w (Open p shown) J now = now ≡ J
Unanswered C w (Get name) J now = now ≡ J
Unanswered C w (Log text) J now = now ≡ J
Unanswered C w (Reply status content_type location content) J now = now ≡ J

-- The last item is a Reply.
abbrev pub EndsInReply : List Item → List Item → Type 0
EndsInReply items before = (status : ℕ) × (content_type location content : List ℕ) × (items ≡ Said (Reply status content_type location content) ∷ before)

-- How a dialog ends whose opening is due: its items, the newest first, are a front of the full course, and its end fits. `since` are the bytes taken since the last frame, `left` those that are left on the link, `due` those that were due on it as it failed.
abbrev pub Ends : Config → Speaker → List ℕ → List ℕ → List ℕ → List Item → Seen → List Item → End → Seen → Type 0
Ends C w since left due opened J items end.Reply now =
    (before : List Item) × EndsInReply items before × IsAnswered C w opened J before now × (said_count items ≤ MOST_FRAMES)
Ends C w since left due opened J items (end.Superseded shown) now =
    (w.incarnation < shown) × IsAnswered C w opened J items now × (said_count items ≤ MOST_FRAMES)
Ends C w since left due opened J items end.BadFrame now =
    IsAnswered C w opened J items now × (said_count items ≤ MOST_FRAMES) × IsBadStop since left
Ends C w since left due opened J items end.Ended now =
    IsAnswered C w opened J items now × (said_count items ≤ MOST_FRAMES) × IsEndStop since left
Ends C w since left due opened J items end.FrameLimit now =
    (said : ServiceFrame) × (before : List Item) × (items ≡ Said said ∷ before) × IsAnswered C w opened J before now × (said_count before ≡ MOST_FRAMES)
Ends C w since left due opened J items end.LinkFault now =
    (said_count items ≤ MOST_FRAMES) × ((IsOpening opened J items now × IsNextOf opened items due) ⊎ (IsAnswered C w opened J items now × (due ≡ []))
    ⊎ ((said : ServiceFrame) × (heard : ServerFrame) × (before : List Item) × (mid : Seen) × (items ≡ Said said ∷ before)
    × IsAnswered C w opened J before mid × Answers C w said mid heard now × (due ≡ server_spelling heard)))
Ends C w since left due opened J items end.Starved now =
    (said_count items ≤ MOST_FRAMES) × (IsOpening opened J items now ⊎ IsAnswered C w opened J items now
    ⊎ ((said : ServiceFrame) × (before : List Item) × (mid : Seen) × (items ≡ Said said ∷ before)
    × IsAnswered C w opened J before mid × Unanswered C w said mid now))

-- The dialog was superseded before its Drain, which has no entry.
abbrev pub IsSupersededAtOnce : Speaker → Seen → List Item → End → Seen → Type 0
IsSupersededAtOnce w J items how now = (shown : ℕ) × (how ≡ end.Superseded shown) × (w.incarnation < shown) × (items ≡ []) × (now ≡ J)

-- Its Drain was entered, and what it heard and said follows.
abbrev pub IsCourse : Config → Speaker → List ℕ → List ℕ → List ℕ → ServerFrame → Seen → List Item → End → Seen → Type 0
IsCourse C w since left due request J items end now =
    (before : List (Entry PubdEvent)) × (mid : Seen) × AtPubd w.worker (pubd.Drain w.service w.incarnation) J before mid
    × Ends C w since left due (opening (drain_verdict C before w.service w.incarnation) request) mid items end now

-- A whole dialog, from what its worker had seen to what it has seen then.
abbrev pub IsDialog : Config → Speaker → List ℕ → List ℕ → List ℕ → List ℕ → List ℕ → Seen → List Item → End → Seen → Type 0
IsDialog C w since left due head content J items end now =
    IsSupersededAtOnce w J items end now ⊎ IsCourse C w since left due (frame.Request head content) J items end now

-- What was put on the link, and what was taken, by the items, the newest first.
abbrev pub heard_text : List Item → List ℕ
heard_text [] = []
heard_text (Heard frame ∷ items) = heard_text items ++ server_spelling frame
heard_text (Said frame ∷ items) = heard_text items

-- What was taken from the link in whole frames, by the items, the newest first.
abbrev pub said_text : List Item → List ℕ
said_text [] = []
said_text (Heard frame ∷ items) = said_text items
said_text (Said frame ∷ items) = said_text items ++ service_spelling frame
