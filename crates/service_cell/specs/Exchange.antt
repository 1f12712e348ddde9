-- One exchange of a dialog, between a link and the columns.
use Rattle.std.specs.Prelude.{◌≡◌, ◌≤◌, ◌<◌, ℕ, List, [], ◌∷◌, ◌++◌, Option, Some, None, ◌==◌, length, IsTrue}
use Rattle.std.specs.List.{list_all}
use Rattle.std.specs.declared.alloc.AllocError.{AllocError}
use Rattle.std.specs.declared.result.Result.{Result}
use Rattle.std.specs.declared.result.Result.TheVariants.{Ok, Err}
use Rattle.okws_base.specs.Runs.{Each}
use Rattle.okws_base.specs.declared.limit.TheConstants.{LONGEST_FRAME, MOST_FRAMES}
use Rattle.okws_base.specs.declared.crash.Cause.{Cause}
use Rattle.okws_base.specs.declared.crash.Cause.TheVariants as cause
use Rattle.okws_base.specs.declared.value.Value.{Value}
use Rattle.okws_plan.specs.declared.configuration.Config.{Config}
use Rattle.frame_codec.specs.Spelling.{HasSpelling, size, server_parts, server_spelling}
use Rattle.frame_codec.specs.declared.frame.ServiceFrame.{ServiceFrame}
use Rattle.frame_codec.specs.declared.frame.ServerFrame.{ServerFrame}
use Rattle.frame_codec.specs.declared.frame.ServerFrame.TheVariants as frame
use Rattle.okws_outer.specs.Wire.{Wire}
use Rattle.frame_link.specs.declared.sending.LinkFault.{LinkFault}
use Rattle.monitor_model.specs.declared.verdict.Verdict.{Verdict}
use Rattle.monitor_model.specs.declared.verdict.Verdict.TheVariants.{Opened, Rows, Changed, Duplicate, Denied, Failed}
use Rattle.monitor_model.specs.declared.record.Item.{Item}
use Rattle.monitor_model.specs.declared.record.Item.TheVariants.{Heard, Said}
use Rattle.monitor_model.specs.Course.{Speaker, Answers, heard_text, said_count}
use Rattle.monitor_model.specs.Seen.{Seen}
use Rattle.service_cell.specs.Ending.{IsReply}
use Rattle.service_cell.specs.Standing.{Open, Moves, Breaks}
use Rattle.service_cell.specs.Steps.{TakesOne, EntersUnanswered, Crashes}
use Rattle.service_cell.specs.declared.exchange.Exchanged.{Exchanged}
use Rattle.service_cell.specs.declared.exchange.Exchanged.TheVariants.{Goes, Reply, Crashed}

-- A verdict's rows are as wide as it says, with 1 to 255 columns, and fit a frame.
abbrev pub FitsFrame : Verdict → Type 0
FitsFrame (Rows columns T) =
    (0 < columns) × (columns < 256) × IsTrue (list_all (λ (row : List Value). length row == columns) T) × (size (server_parts (frame.Rows columns T)) ≤ LONGEST_FRAME)
FitsFrame (Opened n) = Unit {0}
FitsFrame (Changed n) = Unit {0}
FitsFrame Duplicate = Unit {0}
FitsFrame (Denied broken) = Unit {0}
FitsFrame Failed = Unit {0}

-- The verdict tells rows.
abbrev pub HasRows : Verdict → Type 0
HasRows (Rows columns T) = Unit {0}
HasRows (Opened n) = ⊥
HasRows (Changed n) = ⊥
HasRows Duplicate = ⊥
HasRows (Denied broken) = ⊥
HasRows Failed = ⊥

-- A frame that was heard has a spelling.
abbrev pub IsSpelled : Item → Type 0
IsSpelled (Heard frame) = HasSpelling frame
IsSpelled (Said frame) = Unit {0}

-- So have all that were heard in the open dialog.
abbrev pub AreSpelled : Option Open → Type 0
AreSpelled None = ⊥
AreSpelled (Some o) = Each IsSpelled o.items

-- The last item is a frame that was heard, and has a spelling.
abbrev pub IsHeardLast : List Item → Type 0
IsHeardLast [] = ⊥
IsHeardLast (Heard frame ∷ items) = HasSpelling frame
IsHeardLast (Said frame ∷ items) = ⊥

-- The same of the open dialog.
abbrev pub IsHeardOpen : Option Open → Type 0
IsHeardOpen None = ⊥
IsHeardOpen (Some o) = IsHeardLast o.items

-- A frame was put whole, or the link failed in it.
abbrev pub PutsFrame : Wire → List ℕ → Result (Unit {0}) LinkFault → Wire → Type 0
PutsFrame old text (Ok done) new = Moves old new [] text
PutsFrame old text (Err fault) new = Breaks old new [] [] text

-- A frame was heard; or the link failed in it, and it was due; or memory was refused before it.
abbrev pub Hears : Wire → List Item → ServerFrame → Result (Unit {0}) Cause → Wire → List Item → List ℕ → Type 0
Hears old items frame (Ok done) new items' due = Moves old new [] (server_spelling frame) × (items' ≡ Heard frame ∷ items) × (due ≡ [])
Hears old items frame (Err cause.LinkFault) new items' due = Breaks old new [] [] (server_spelling frame) × (items' ≡ items) × (due ≡ server_spelling frame)
Hears old items frame (Err cause.Starved) new items' due = Moves old new [] [] × (items' ≡ items) × (due ≡ [])
Hears old items frame (Err cause.BadFrame) new items' due = ⊥
Hears old items frame (Err cause.Ended) new items' due = ⊥
Hears old items frame (Err cause.FrameLimit) new items' due = ⊥

-- The opening was heard, or a front of it; where the link failed its next frame was due.
abbrev pub Opens : Wire → List Item → Result (Unit {0}) Cause → Wire → List Item → List ℕ → Type 0
Opens old opened (Ok done) new items due = Moves old new [] (heard_text opened) × (items ≡ opened)
Opens old opened (Err cause.LinkFault) new items due =
    (rest : List Item) × (next : ServerFrame) × (opened ≡ rest ++ Heard next ∷ items) × Breaks old new [] (heard_text items) (server_spelling next) × (due ≡ server_spelling next)
Opens old opened (Err cause.Starved) new items due = (rest : List Item) × (opened ≡ rest ++ items) × Moves old new [] (heard_text items) × (due ≡ [])
Opens old opened (Err cause.BadFrame) new items due = ⊥
Opens old opened (Err cause.Ended) new items due = ⊥
Opens old opened (Err cause.FrameLimit) new items due = ⊥

-- One frame was taken and answered; or it is a Reply; or the dialog crashed, and this was due where the link failed.
abbrev pub Exchanges : Config → Speaker → Wire → List Item → Seen → Exchanged → Wire → List Item → List ℕ → Seen → Type 0
Exchanges C w old items J Goes new items' due now =
    (said : ServiceFrame) × (heard : ServerFrame) × (taken : List ℕ) × TakesOne said items taken × Answers C w said J heard now
    × (items' ≡ Heard heard ∷ Said said ∷ items) × Moves old new taken (server_spelling heard)
Exchanges C w old items J Reply new items' due now =
    (said : ServiceFrame) × (taken : List ℕ) × TakesOne said items taken × IsReply said × (now ≡ J) × (items' ≡ Said said ∷ items) × Moves old new taken []
Exchanges C w old items J (Crashed why) new items' due now = Crashes C w (Some old) (Some new) items J why items' due now

-- A frame answers what was said; or memory was refused for the rows that answer it.
abbrev pub GivesAnswer : Config → Speaker → ServiceFrame → Seen → Result ServerFrame AllocError → Seen → Type 0
GivesAnswer C w said J (Ok heard) now = HasSpelling heard × Answers C w said J heard now
GivesAnswer C w said J (Err refused) now = EntersUnanswered C w said J now

-- The same; a Reply has no answer.
abbrev pub AnswersSaid : Config → Speaker → ServiceFrame → Seen → Result (Option ServerFrame) AllocError → Seen → Type 0
AnswersSaid C w said J (Ok (Some heard)) now = HasSpelling heard × Answers C w said J heard now
AnswersSaid C w said J (Ok None) now = IsReply said × (now ≡ J)
AnswersSaid C w said J (Err refused) now = EntersUnanswered C w said J now

-- The same of a frame that was just taken from the link, of which `old` is what is left.
abbrev pub AnswersFrame : Config → Speaker → Wire → List Item → ServiceFrame → Seen → Exchanged → Wire → List Item → List ℕ → Seen → Type 0
AnswersFrame C w old items said J Goes new items' due now =
    (said_count items < MOST_FRAMES) × (heard : ServerFrame) × Answers C w said J heard now
    × (items' ≡ Heard heard ∷ Said said ∷ items) × Moves old new [] (server_spelling heard)
AnswersFrame C w old items said J Reply new items' due now =
    (said_count items < MOST_FRAMES) × IsReply said × (now ≡ J) × (items' ≡ Said said ∷ items) × Moves old new [] []
AnswersFrame C w old items said J (Crashed cause.LinkFault) new items' due now =
    (said_count items < MOST_FRAMES) × (heard : ServerFrame) × Answers C w said J heard now
    × (items' ≡ Said said ∷ items) × Breaks old new [] [] (server_spelling heard) × (due ≡ server_spelling heard)
AnswersFrame C w old items said J (Crashed cause.FrameLimit) new items' due now =
    (said_count items ≡ MOST_FRAMES) × (now ≡ J) × (items' ≡ Said said ∷ items) × Moves old new [] [] × (due ≡ [])
AnswersFrame C w old items said J (Crashed cause.BadFrame) new items' due now = ⊥
AnswersFrame C w old items said J (Crashed cause.Ended) new items' due now = ⊥
AnswersFrame C w old items said J (Crashed cause.Starved) new items' due now =
    (said_count items < MOST_FRAMES) × EntersUnanswered C w said J now × (items' ≡ Said said ∷ items) × Moves old new [] [] × (due ≡ [])
