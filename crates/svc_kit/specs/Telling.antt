-- What typed answers tell of the frames that were heard.
use Rattle.std.specs.Prelude.{◌≡◌, ℕ}
use Rattle.std.specs.declared.result.Result.{Result}
use Rattle.std.specs.declared.result.Result.TheVariants.{Ok, Err}
use Rattle.frame_codec.specs.declared.frame.ServerFrame.{ServerFrame}
use Rattle.frame_codec.specs.declared.frame.ServerFrame.TheVariants as server
use Rattle.svc_kit.specs.declared.answer.Answer.{Answer}
use Rattle.svc_kit.specs.declared.answer.Answer.TheVariants as answer
use Rattle.svc_kit.specs.declared.answer.Session.{Session}
use Rattle.svc_kit.specs.declared.answer.Outcome.{Outcome}
use Rattle.svc_kit.specs.declared.answer.Outcome.TheVariants as outcome
use Rattle.svc_kit.specs.declared.answer.Edition.{Edition}
use Rattle.svc_kit.specs.declared.calling.Event.{Event}
use Rattle.svc_kit.specs.declared.calling.Event.TheVariants as event
use Rattle.svc_kit.specs.declared.stop.Stop.{Stop}
use Rattle.svc_kit.specs.declared.stop.Stop.TheVariants.{Ended, BadFrame, LinkFault, Unlooked, Unsayable, NoMemory}

-- The frame that an event is.
abbrev pub event_frame : Event → ServerFrame
event_frame (event.Request head content) = server.Request head content
event_frame (event.Push template edition content) = server.Push template edition content

-- The frame that gives a session.
abbrev pub opened_frame : Session → ServerFrame
opened_frame session = server.Opened session.number

-- The frame that gives what a Call asks for.
abbrev pub outcome_frame : Outcome → ServerFrame
outcome_frame (outcome.Rows columns rows) = server.Rows columns rows
outcome_frame (outcome.Changed n) = server.Changed n
outcome_frame outcome.Duplicate = server.Duplicate

-- The frame that gives an edition.
abbrev pub edition_frame : Edition → ServerFrame
edition_frame edition = server.Template edition.number edition.content

-- The frame that tells that a text was logged.
abbrev pub logged_frame : Unit {0} → ServerFrame
logged_frame x = server.Logged

-- The frame that an answer is, where the given is the frame of what was asked for.
abbrev pub answer_frame : {T : Type 0} → (T → ServerFrame) → Answer T → ServerFrame
answer_frame given (answer.Given x) = given x
answer_frame given (answer.Denied rule) = server.Denied rule
answer_frame given answer.Failed = server.Failed
answer_frame given answer.NoMemory = server.NoMemory

-- What is told is what was heard: the frame that it is, or why there is none. Unlooked is a frame that none of what might be told is.
abbrev pub IsSeen : {T : Type 0} → (T → ServerFrame) → Result ServerFrame Stop → Result T Stop → Type 0
IsSeen frame_of heard (Ok told) = heard ≡ Ok (frame_of told)
IsSeen {T} frame_of heard (Err (Unlooked frame)) = (heard ≡ Ok frame) × ((told : T) → frame ≡ frame_of told → ⊥)
IsSeen frame_of heard (Err Ended) = heard ≡ Err Ended
IsSeen frame_of heard (Err BadFrame) = heard ≡ Err BadFrame
IsSeen frame_of heard (Err LinkFault) = heard ≡ Err LinkFault
IsSeen frame_of heard (Err Unsayable) = heard ≡ Err Unsayable
IsSeen frame_of heard (Err NoMemory) = heard ≡ Err NoMemory

-- The event is the frame that was heard.
abbrev pub IsEvent : Result ServerFrame Stop → Result Event Stop → Type 0
IsEvent heard result = IsSeen event_frame heard result

-- The answer is the frame that was heard.
abbrev pub IsTold : {T : Type 0} → (T → ServerFrame) → Result ServerFrame Stop → Result (Answer T) Stop → Type 0
IsTold given heard result = IsSeen (answer_frame given) heard result

-- A session that was given is at this proxy.
abbrev pub IsAt : ℕ → Result (Answer Session) Stop → Type 0
IsAt proxy (Ok (answer.Given session)) = session.proxy ≡ proxy
IsAt proxy (Ok (answer.Denied rule)) = Unit {0}
IsAt proxy (Ok answer.Failed) = Unit {0}
IsAt proxy (Ok answer.NoMemory) = Unit {0}
IsAt proxy (Err stop) = Unit {0}
