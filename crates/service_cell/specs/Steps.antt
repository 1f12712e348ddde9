-- What each call makes of a cell and of what its worker has seen.
use Rattle.std.specs.Prelude.{◌≡◌, ◌≢◌, ◌≤◌, ◌<◌, ℕ, List, [], ◌∷◌, ◌++◌, Option, Some, None, ◌⊎◌, ◌==◌, if◌then◌else◌, IsTrue}
use Rattle.std.specs.Io.KnownBytes.{IsAtEnd}
use Rattle.okws_base.specs.declared.limit.TheConstants.{MOST_FRAMES}
use Rattle.okws_base.specs.declared.crash.Cause.{Cause}
use Rattle.okws_base.specs.declared.crash.Cause.TheVariants as cause
use Rattle.okws_base.specs.declared.journal.Entry.{Entry}
use Rattle.okws_plan.specs.declared.configuration.Config.{Config}
use Rattle.okws_plan.specs.declared.event.Mark.{Mark}
use Rattle.okws_plan.specs.declared.event.ProxyEvent.{ProxyEvent}
use Rattle.okws_plan.specs.declared.event.ProxyEvent.TheVariants as proxy
use Rattle.frame_codec.specs.Spelling.{Spells, server_spelling}
use Rattle.frame_codec.specs.Stream.{IsBadStop}
use Rattle.frame_codec.specs.declared.frame.ServiceFrame.{ServiceFrame}
use Rattle.frame_codec.specs.declared.frame.ServiceFrame.TheVariants as said
use Rattle.frame_codec.specs.declared.frame.ServerFrame.{ServerFrame}
use Rattle.okws_outer.specs.Wire.{Wire}
use Rattle.frame_link.specs.Next.{AreLeft, IsBadFront}
use Rattle.monitor_model.specs.declared.verdict.Push.{Push}
use Rattle.monitor_model.specs.declared.record.Item.{Item}
use Rattle.monitor_model.specs.declared.record.Item.TheVariants.{Heard, Said}
use Rattle.monitor_model.specs.declared.record.End.{End}
use Rattle.monitor_model.specs.declared.record.End.TheVariants as end
use Rattle.monitor_model.specs.declared.record.CellEvent.TheVariants as cell
use Rattle.monitor_model.specs.declared.record.Own.TheVariants as own
use Rattle.monitor_model.specs.Cell.{incarnation, last_booted}
use Rattle.monitor_model.specs.Course.{Speaker, Answers, called, is_select, opening, heard_text, said_count}
use Rattle.monitor_model.specs.Proxy.{allowed, granted}
use Rattle.monitor_model.specs.Seen.{Seen, AtProxy, noted}
use Rattle.service_cell.specs.Asking.{Asker, Drains}
use Rattle.service_cell.specs.Standing.{Open, Standing, all_sent, speaker, going, finished, Passes, Fails, left_of}
use Rattle.service_cell.specs.declared.answer.Booting.{Booting}
use Rattle.service_cell.specs.declared.answer.Booting.TheVariants as booting
use Rattle.service_cell.specs.declared.answer.Begun.{Begun}
use Rattle.service_cell.specs.declared.answer.Begun.TheVariants as begun
use Rattle.service_cell.specs.declared.exchange.Exchanged.{Exchanged}
use Rattle.service_cell.specs.declared.exchange.Exchanged.TheVariants as exchanged
use Rattle.service_cell.specs.declared.answer.Advanced.{Advanced}
use Rattle.service_cell.specs.declared.answer.Advanced.TheVariants as advanced

-- The end of a dialog that crashed by this cause.
abbrev pub crash_end : Cause → End
crash_end cause.BadFrame = end.BadFrame
crash_end cause.Ended = end.Ended
crash_end cause.LinkFault = end.LinkFault
crash_end cause.FrameLimit = end.FrameLimit
crash_end cause.Starved = end.Starved

-- The board showed no incarnation above k. `shows` says which ones it may show.
abbrev pub IsCurrent : (ℕ → Type 0) → ℕ → Type 0
IsCurrent shows k = (shown : ℕ) × shows shown × (shown ≤ k)

-- What `boot` answers to a link and a Boot frame of incarnation k. Booted: the frame was put, and the cell has the incarnation and the link. Else the cell is as before, and the link comes back.
abbrev pub Boots : {L : Type 0} → (L → Wire) → L → ServerFrame → ℕ → Standing → Booting L → Standing → Type 0
Boots wire link boot k c booting.Booted d =
    (d ≡ record c { past = cell.Boot k ∷ c.past; link = d.link }) × Passes (Some (wire link)) d.link [] (server_spelling boot)
Boots wire link boot k c (booting.LinkFault back) d = (d ≡ c) × Fails (Some (wire link)) (Some (wire back)) [] [] (server_spelling boot)
Boots wire link boot k c (booting.NoMemory back) d = (d ≡ c) × Passes (Some (wire link)) (Some (wire back)) [] []

-- The cell is there and retired, where it has an incarnation; its link is taken out, and what it was given is known.
abbrev pub retired : Standing → Standing
retired c = record c {
  past = if incarnation c.past == 0 then c.past else cell.Retired ∷ c.past;
  link = None;
  sent = all_sent (last_booted c.past) c.link c.sent;
}

-- How an opening broke off: on a fault of the link a prefix of the next frame that was due was put; where memory was refused all that was heard was put.
abbrev pub OpeningBreaks : Cause → List Item → List Item → List ℕ → Option Wire → Option Wire → Type 0
OpeningBreaks cause.LinkFault opened items due old new =
    (rest : List Item) × (next : ServerFrame) × (opened ≡ rest ++ Heard next ∷ items) × Fails old new [] (heard_text items) (server_spelling next) × (due ≡ server_spelling next)
OpeningBreaks cause.Starved opened items due old new = (rest : List Item) × (opened ≡ rest ++ items) × Passes old new [] (heard_text items) × (due ≡ [])
OpeningBreaks cause.BadFrame opened items due old new = ⊥
OpeningBreaks cause.Ended opened items due old new = ⊥
OpeningBreaks cause.FrameLimit opened items due old new = ⊥

-- What opening the dialog of request n at a cell that has an incarnation makes of it.
abbrev pub OpensCell : Asker → ℕ → ServerFrame → Standing → Seen → Begun → Standing → Seen → Type 0
OpensCell who n request c J begun.Started d now =
    (pushes : List Push) × Drains who c.service (incarnation c.past) J pushes now
    × (d ≡ going c n who.worker (opening pushes request) (opening pushes request) d.link) × Passes c.link d.link [] (heard_text (opening pushes request))
OpensCell who n request c J (begun.Crashed why) d now =
    (pushes : List Push) × Drains who c.service (incarnation c.past) J pushes now
    × (items : List Item) × (due : List ℕ) × OpeningBreaks why (opening pushes request) items due c.link d.link × (d ≡ finished c who.worker items (crash_end why) due d.link)
OpensCell who n request c J begun.NoMemory d now = (d ≡ c) × (now ≡ J)
OpensCell who n request c J (begun.Missed asked is) d now = ⊥
OpensCell who n request c J (begun.Superseded k shown) d now = ⊥

-- What `begin` answers to request n that wants an incarnation, from the cell c and what its worker had seen, J, to the cell and what it has seen then.
-- Started: the incarnation is wanted and current, the Drain was entered, and the pushes and the Request were put, which are the items of its last step.
-- Missed: another incarnation is there. Superseded: the board showed a greater one, and no Drain was entered.
-- Crashed: the Drain was entered, and the opening broke off. NoMemory: all is as before.
abbrev pub Begins : Asker → (ℕ → Type 0) → ℕ → ServerFrame → ℕ → Standing → Seen → Begun → Standing → Seen → Type 0
Begins who shows n request wanted c J begun.Started d now =
    (wanted ≡ incarnation c.past) × IsCurrent shows wanted × OpensCell who n request c J begun.Started d now
Begins who shows n request wanted c J (begun.Missed asked is) d now =
    (asked ≡ wanted) × (is ≡ incarnation c.past) × (wanted ≢ is)
    × (d ≡ record c { past = cell.Missed who.worker wanted is ∷ c.past }) × (now ≡ noted J (own.Missed c.service wanted is))
Begins who shows n request wanted c J (begun.Superseded k shown) d now =
    (wanted ≡ incarnation c.past) × (k ≡ wanted) × (k < shown) × shows shown
    × (d ≡ finished c who.worker [] (end.Superseded shown) [] c.link) × (now ≡ noted J (own.Dialog c.service))
Begins who shows n request wanted c J (begun.Crashed why) d now =
    (wanted ≡ incarnation c.past) × IsCurrent shows wanted × OpensCell who n request c J (begun.Crashed why) d now
Begins who shows n request wanted c J begun.NoMemory d now = (d ≡ c) × (now ≡ J)

-- A frame was taken whole, and the dialog had said fewer than 4,096 before it.
abbrev pub TakesOne : ServiceFrame → List Item → List ℕ → Type 0
TakesOne said items taken = Spells taken said × (said_count items < MOST_FRAMES)

-- What was said is a Call of a SELECT that was allowed and entered: rows answer it.
abbrev pub EntersUnanswered : Config → Speaker → ServiceFrame → Seen → Seen → Type 0
EntersUnanswered C w (said.Call p n q args) J now =
    (before : List (Entry ProxyEvent)) × (mark : Mark) × IsTrue (allowed C p before (called w n q args)) × IsTrue (is_select (granted C p w.service q))
    × AtProxy w.worker p (proxy.Call (called w n q args) mark) J before now
EntersUnanswered C w (said.Open p shown) J now = ⊥
EntersUnanswered C w (said.Get name) J now = ⊥
EntersUnanswered C w (said.Log text) J now = ⊥
EntersUnanswered C w (said.Reply status content_type location content) J now = ⊥

-- How a step of an open dialog crashes it: which items it has then, what was due where the link failed, and what the worker has seen.
-- BadFrame, Ended: as `next` tells. LinkFault: before a frame was taken whole, or while its answer was put. FrameLimit: the 4,097th frame was taken.
-- Starved: memory was refused before a frame was taken whole; or behind the entry of a Call, for the rows that answer it.
abbrev pub Crashes : Config → Speaker → Option Wire → Option Wire → List Item → Seen → Cause → List Item → List ℕ → Seen → Type 0
Crashes C w old new items J cause.BadFrame items' due now =
    (since left : List ℕ) × Passes old new since [] × AreLeft (left_of new) left × IsBadStop since left × IsBadFront (left_of old) (left_of new)
    × (items' ≡ items) × (now ≡ J) × (due ≡ [])
Crashes C w old new items J cause.Ended items' due now = Passes old new [] [] × IsAtEnd (left_of new) × (items' ≡ items) × (now ≡ J) × (due ≡ [])
Crashes C w old new items J cause.LinkFault items' due now =
    ((taken : List ℕ) × Fails old new taken [] [] × (items' ≡ items) × (now ≡ J) × (due ≡ []))
    ⊎ ((said : ServiceFrame) × (heard : ServerFrame) × (taken : List ℕ) × TakesOne said items taken × Fails old new taken [] (server_spelling heard)
    × Answers C w said J heard now × (items' ≡ Said said ∷ items) × (due ≡ server_spelling heard))
Crashes C w old new items J cause.FrameLimit items' due now =
    (said : ServiceFrame) × (taken : List ℕ) × Spells taken said × (said_count items ≡ MOST_FRAMES) × Passes old new taken []
    × (items' ≡ Said said ∷ items) × (now ≡ J) × (due ≡ [])
Crashes C w old new items J cause.Starved items' due now =
    ((taken : List ℕ) × Passes old new taken [] × (items' ≡ items) × (now ≡ J) × (due ≡ []))
    ⊎ ((said : ServiceFrame) × (taken : List ℕ) × TakesOne said items taken × Passes old new taken []
    × EntersUnanswered C w said J now × (items' ≡ Said said ∷ items) × (due ≡ []))

-- What one exchange of the open dialog o makes of the cell c and of what its worker had seen, J.
abbrev pub Steps : Asker → Standing → Open → Seen → Exchanged → Standing → Seen → Type 0
Steps who c o J exchanged.Goes d now =
    (said : ServiceFrame) × (heard : ServerFrame) × (taken : List ℕ) × TakesOne said o.items taken
    × Answers who.config (speaker c o.worker) said J heard now
    × (d ≡ going c o.request o.worker (Heard heard ∷ Said said ∷ o.items) (Heard heard ∷ Said said ∷ []) d.link) × Passes c.link d.link taken (server_spelling heard)
Steps who c o J exchanged.Reply d now =
    (status : ℕ) × (content_type location content taken : List ℕ)
    × TakesOne (said.Reply status content_type location content) o.items taken × (now ≡ J)
    × (d ≡ finished c o.worker (Said (said.Reply status content_type location content) ∷ o.items) end.Reply [] d.link) × Passes c.link d.link taken []
Steps who c o J (exchanged.Crashed why) d now =
    (items : List Item) × (due : List ℕ) × Crashes who.config (speaker c o.worker) c.link d.link o.items J why items due now
    × (d ≡ finished c o.worker items (crash_end why) due d.link)

-- The same where a dialog is open.
abbrev pub StepsOpen : Asker → Standing → Option Open → Seen → Exchanged → Standing → Seen → Type 0
StepsOpen who c None J answer d now = ⊥
StepsOpen who c (Some o) J answer d now = Steps who c o J answer d now

-- What `advance` answers, from the cell c with the open dialog o and what its worker had seen, J, to the cell and what it has seen then.
-- Goes: a frame was taken and answered by one frame, and these two are the items of the last step. Reply: a Reply was taken. Superseded: the board showed a greater incarnation, and nothing was taken.
abbrev pub Advances : Asker → (ℕ → Type 0) → Standing → Open → Seen → Advanced → Standing → Seen → Type 0
Advances who shows c o J advanced.Goes d now = IsCurrent shows (incarnation c.past) × Steps who c o J exchanged.Goes d now
Advances who shows c o J advanced.Reply d now = IsCurrent shows (incarnation c.past) × Steps who c o J exchanged.Reply d now
Advances who shows c o J (advanced.Superseded k shown) d now =
    (k ≡ incarnation c.past) × (k < shown) × shows shown × (now ≡ J) × (d ≡ finished c o.worker o.items (end.Superseded shown) [] c.link)
Advances who shows c o J (advanced.Crashed why) d now = IsCurrent shows (incarnation c.past) × Steps who c o J (exchanged.Crashed why) d now

-- A dialog is open, of this worker.
abbrev pub IsSpeaking : ℕ → Option Open → Type 0
IsSpeaking w None = ⊥
IsSpeaking w (Some o) = o.worker ≡ w

-- An open dialog ends as superseded.
abbrev pub superseded : Standing → Option Open → ℕ → Standing
superseded c None shown = c
superseded c (Some o) shown = finished c o.worker o.items (end.Superseded shown) [] c.link

-- The same where a dialog is open.
abbrev pub AdvancesOpen : Asker → (ℕ → Type 0) → Standing → Option Open → Seen → Advanced → Standing → Seen → Type 0
AdvancesOpen who shows c None J answer d now = ⊥
AdvancesOpen who shows c (Some o) J answer d now = Advances who shows c o J answer d now
