-- The guestbook over a link.
use Rattle.std.specs.Prelude.{◌≡◌, ℕ, List, [], ◌∷◌, ◌++◌, flat_map, ◌⊎◌}
use Rattle.std.specs.declared.option.Option.{Option}
use Rattle.std.specs.declared.option.Option.TheVariants.{Some, None}
use Rattle.std.specs.declared.result.Result.{Result}
use Rattle.std.specs.declared.result.Result.TheVariants.{Ok, Err}
use Rattle.std.specs.Io.KnownBytes.{Consumes, Appends, IsAtEnd}
use Rattle.okws_base.specs.Runs.{Each}
use Rattle.okws_outer.specs.Streams.{Counts, AppendsPrefix}
use Rattle.okws_outer.specs.Wire.{Wire}
use Rattle.frame_codec.specs.declared.frame.ServiceFrame.{ServiceFrame}
use Rattle.frame_codec.specs.declared.frame.ServerFrame.{ServerFrame}
use Rattle.frame_codec.specs.Spelling.{HasSpelling, ServerSpells, server_spelling, service_spelling}
use Rattle.frame_codec.specs.Stream.{IsServerBadStop}
use Rattle.frame_link.specs.Next.{AreLeft}
use Rattle.svc_kit.specs.Asking.{IsHeard, Says}
use Rattle.svc_kit.specs.declared.stop.Stop.{Stop}
use Rattle.svc_kit.specs.declared.stop.Stop.TheVariants.{Ended, BadFrame, LinkFault, Unlooked, Unsayable, NoMemory}
use Rattle.guestbook.specs.declared.book.Guestbook.{Guestbook}
use Rattle.guestbook.specs.declared.book.NoTurn.{NoTurn}
use Rattle.guestbook.specs.declared.book.NoTurn.TheVariants as no_turn
use Rattle.guestbook.specs.Book.{Turn, Step, Told, told, turn, hears, book_of}

-- The frames' spellings, one behind the other; the frames stand the newest first.
abbrev pub stream : List ServerFrame → List ℕ
stream [] = []
stream (frame ∷ before) = stream before ++ server_spelling frame

-- The frames' spellings, one behind the other; the frames stand the oldest first.
abbrev pub spoken : List ServiceFrame → List ℕ
spoken frames = flat_map service_spelling frames

-- What a turn of the program is: what is due then, or the frame that isn't due. Where memory was refused this says nothing.
abbrev pub IsHearing : Result (Option ServiceFrame) NoTurn → Turn → ServerFrame → Guestbook → Type 0
IsHearing (Ok said) due frame now = due ≡ Some (record { book = book_of now; awaits = now.awaits; says = said })
IsHearing (Err (no_turn.Unlooked other)) due frame now = (other ≡ frame) × (due ≡ None)
IsHearing (Err no_turn.NoMemory) due frame now = Unit {0}

-- A frame was put whole, if there was one.
abbrev pub SaysAny : Wire → Option ServiceFrame → Wire → Type 0
SaysAny old None new = new ≡ old
SaysAny old (Some frame) new = Says old frame (Ok tt) new

-- A frame was heard, and what is due then was said.
pub record Round (book : Guestbook) (old : Wire) (now : Guestbook) (new : Wire) : Type 0 where
  pub frame : ServerFrame
  pub mid : Wire
  pub says : Option ServiceFrame
  pub hears : IsHeard old (Ok frame) mid
  pub due : turn book.awaits (book_of book) frame ≡ Some (record { book = book_of now; awaits = now.awaits; says = says })
  pub said : SaysAny mid says new

-- A frame was heard, and what is due then couldn't be said.
pub record Fails (book : Guestbook) (old : Wire) (new : Wire) : Type 0 where
  pub frame : ServerFrame
  pub mid : Wire
  pub step : Step
  pub says : ServiceFrame
  pub hears : IsHeard old (Ok frame) mid
  pub due : turn book.awaits (book_of book) frame ≡ Some step
  pub is : step.says ≡ Some says
  pub said : Says mid says (Err LinkFault) new

-- What one round did to the link.
abbrev pub Rounds : Guestbook → Wire → Result (Unit {0}) Stop → Guestbook → Wire → Type 0
Rounds book old (Ok done) now new = Round book old now new
Rounds book old (Err Ended) now new = IsHeard old (Err Ended) new
Rounds book old (Err BadFrame) now new = IsHeard old (Err BadFrame) new
Rounds book old (Err (Unlooked frame)) now new = IsHeard old (Ok frame) new × (turn book.awaits (book_of book) frame ≡ None)
Rounds book old (Err LinkFault) now new = IsHeard old (Err LinkFault) new ⊎ Fails book old new
Rounds book old (Err NoMemory) now new = IsHeard old (Err NoMemory) new ⊎ ((frame : ServerFrame) × IsHeard old (Ok frame) new)
Rounds book old (Err Unsayable) now new = ⊥

-- So far these frames were heard, the newest first, and what is due where they are heard was said, frame by frame; no call of the link failed.
pub record HasRun (old : Wire) (frames : List ServerFrame) (now : Told) (new : Wire) : Type 0 where
  pub is : told frames ≡ Some now
  pub spelled : Each HasSpelling frames
  pub took : Consumes old.left new.left (stream frames)
  pub gave : Appends old.given new.given (spoken now.said)
  pub faults : new.faults ≡ old.faults

-- Why it stopped, by the bytes that were taken behind the frames that were heard. Ended: none were taken, and none are left.
-- BadFrame: whatever frame begins with them, they end inside it, and none are left. Unlooked: they are that frame, which isn't due.
abbrev pub IsStop : Stop → List ℕ → Option (List ℕ) → Told → Type 0
IsStop Ended since left now = (since ≡ []) × IsAtEnd left
IsStop BadFrame since left now = (rest : List ℕ) × AreLeft left rest × IsServerBadStop since rest
IsStop (Unlooked frame) since left now = ServerSpells since frame × (hears frame now ≡ None)
IsStop LinkFault since left now = Unit {0}
IsStop NoMemory since left now = Unit {0}
IsStop Unsayable since left now = ⊥

-- All that is due was given, or a prefix of it after a fault, and where memory was refused.
abbrev pub IsGiven : Stop → Option (List ℕ) → Option (List ℕ) → List ℕ → Type 0
IsGiven Ended old new due = Appends old new due
IsGiven BadFrame old new due = Appends old new due
IsGiven (Unlooked frame) old new due = Appends old new due
IsGiven LinkFault old new due = AppendsPrefix old new due
IsGiven NoMemory old new due = AppendsPrefix old new due
IsGiven Unsayable old new due = ⊥

-- What the guestbook did to the link. It heard these frames, the newest first, all of them due, and it said what is due where they are heard. A call of the link failed just where it stopped for that.
pub record Guests (old : Wire) (stop : Stop) (new : Wire) : Type 0 where
  pub frames : List ServerFrame
  pub now : Told
  pub since : List ℕ
  pub is : told frames ≡ Some now
  pub spelled : Each HasSpelling frames
  pub took : Consumes old.left new.left (stream frames ++ since)
  pub stopped : IsStop stop since new.left now
  pub gave : IsGiven stop old.given new.given (spoken now.said)
  pub faults : Counts old.faults new.faults (stop ≡ LinkFault)
  pub still : (stop ≡ LinkFault → ⊥) → new.faults ≡ old.faults
