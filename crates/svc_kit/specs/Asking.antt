-- How a frame is put on a link, and how its answer is taken.
use Rattle.std.specs.Prelude.{◌≡◌, ℕ, List}
use Rattle.std.specs.declared.option.Option.{Option}
use Rattle.std.specs.declared.result.Result.{Result}
use Rattle.std.specs.declared.result.Result.TheVariants.{Ok, Err}
use Rattle.std.specs.Io.KnownBytes.{Appends, Consumes, Keeps, IsAtEnd}
use Rattle.okws_outer.specs.Streams.{Counts, AppendsPrefix}
use Rattle.okws_outer.specs.Wire.{Wire}
use Rattle.frame_codec.specs.declared.frame.ServerFrame.{ServerFrame}
use Rattle.frame_codec.specs.declared.frame.ServiceFrame.{ServiceFrame}
use Rattle.frame_codec.specs.Spelling.{ServerSpells, ServiceHasSpelling, service_spelling}
use Rattle.frame_codec.specs.Stream.{IsServerBadStop}
use Rattle.frame_link.specs.Next.{AreLeft}
use Rattle.svc_kit.specs.declared.stop.Stop.{Stop}
use Rattle.svc_kit.specs.declared.stop.Stop.TheVariants.{Ended, BadFrame, LinkFault, Unlooked, Unsayable, NoMemory}

-- What was heard isn't judged yet: no frame was refused as one that isn't due.
abbrev pub IsUnjudged : Result ServerFrame Stop → Type 0
IsUnjudged (Ok frame) = Unit {0}
IsUnjudged (Err (Unlooked frame)) = ⊥
IsUnjudged (Err Ended) = Unit {0}
IsUnjudged (Err BadFrame) = Unit {0}
IsUnjudged (Err LinkFault) = Unit {0}
IsUnjudged (Err Unsayable) = Unit {0}
IsUnjudged (Err NoMemory) = Unit {0}

-- What was taken of what was left. A frame: exactly its spelling. The end: nothing, and nothing was left.
-- A bad frame: whatever frame begins with the bytes that were taken, they end inside it, and none are left.
-- After a fault, and where memory was refused, some bytes.
abbrev pub Takes : Option (List ℕ) → Result ServerFrame Stop → Option (List ℕ) → Type 0
Takes old (Ok frame) new = (taken : List ℕ) × ServerSpells taken frame × Consumes old new taken
Takes old (Err Ended) new = Keeps old new × IsAtEnd new
Takes old (Err BadFrame) new = (since left : List ℕ) × Consumes old new since × AreLeft new left × IsServerBadStop since left
Takes old (Err LinkFault) new = (since : List ℕ) × Consumes old new since
Takes old (Err NoMemory) new = (since : List ℕ) × Consumes old new since
Takes old (Err (Unlooked frame)) new = ⊥
Takes old (Err Unsayable) new = ⊥

-- The next frame was taken, and nothing was put; a call of the link failed just where that is told.
pub record IsHeard (old : Wire) (result : Result ServerFrame Stop) (new : Wire) : Type 0 where
  pub takes : Takes old.left result new.left
  pub given : new.given ≡ old.given
  pub faults : Counts old.faults new.faults (result ≡ Err LinkFault)
  pub still : (result ≡ Err LinkFault → ⊥) → new.faults ≡ old.faults

-- What was put. All of the frame's one spelling, or after a fault a prefix of it, or nothing, where it has none.
abbrev pub Puts : Option (List ℕ) → ServiceFrame → Result (Unit {0}) Stop → Option (List ℕ) → Type 0
Puts old frame (Ok done) new = ServiceHasSpelling frame × Appends old new (service_spelling frame)
Puts old frame (Err LinkFault) new = ServiceHasSpelling frame × AppendsPrefix old new (service_spelling frame)
Puts old frame (Err Unsayable) new = (ServiceHasSpelling frame → ⊥) × (new ≡ old)
Puts old frame (Err Ended) new = ⊥
Puts old frame (Err BadFrame) new = ⊥
Puts old frame (Err (Unlooked other)) new = ⊥
Puts old frame (Err NoMemory) new = ⊥

-- The frame was put, and nothing was taken; a call of the link failed just where that is told.
pub record Says (old : Wire) (frame : ServiceFrame) (result : Result (Unit {0}) Stop) (new : Wire) : Type 0 where
  pub puts : Puts old.given frame result new.given
  pub left : new.left ≡ old.left
  pub faults : Counts old.faults new.faults (result ≡ Err LinkFault)
  pub still : (result ≡ Err LinkFault → ⊥) → new.faults ≡ old.faults

-- Where the frame was put the next one was taken, and else nothing.
abbrev pub Answers : Wire → Result (Unit {0}) Stop → Result ServerFrame Stop → Wire → Type 0
Answers mid (Ok done) result new = IsHeard mid result new
Answers mid (Err stop) result new = (result ≡ Err stop) × (new ≡ mid)

-- The frame was put, and then the next frame was taken, which is its one answer; or it was not put whole, and nothing was taken.
pub record Asks (old : Wire) (frame : ServiceFrame) (result : Result ServerFrame Stop) (new : Wire) : Type 0 where
  pub mid : Wire
  pub put : Result (Unit {0}) Stop
  pub says : Says old frame put mid
  pub answers : Answers mid put result new
