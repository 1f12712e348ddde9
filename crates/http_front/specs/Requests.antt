-- What a client asks for, and what is kept of it.
use Rattle.std.specs.Prelude.{◌≡◌, ◌≤◌, ◌⊎◌, ℕ, Bool, true, false, List, [], length, take, if◌then◌else◌}
use Rattle.std.specs.declared.option.Option.{Option}
use Rattle.std.specs.Io.KnownBytes.{Appends, IsAtEnd}
use Rattle.okws_outer.specs.Streams.{Rose}
use Rattle.okws_outer.specs.Conns.{ConnWire}
use Rattle.httparse.specs.Grammar.{RequestHead}
use Rattle.httparse.specs.Spans.{span_bytes, IsWithin}
use Rattle.http_text.specs.Target.{is_target, path}
use Rattle.http_text.specs.Reading.{IsWholeHead, IsReading, IsInterim, IsMethod, continue_text}
use Rattle.http_text.specs.Reading.{Asks, Refuses, Unsettled}
use Rattle.http_front.specs.Kept.{method_text}
use Rattle.http_front.specs.Looking.{Tells}
use Rattle.http_front.specs.Pulling.{HasRead}
use Rattle.http_front.specs.declared.kept.Kept.{Kept}
use Rattle.http_front.specs.declared.looking.WholeHead.{WholeHead}
use Rattle.http_front.specs.declared.reading.Request.{Request as Asking}
use Rattle.http_front.specs.declared.reading.Incoming.{Incoming}
use Rattle.http_front.specs.declared.reading.Incoming.TheVariants.{Request, Refused, ConnFault, NoMemory}

-- The target of a request, as it stands in the head.
abbrev pub target_text : Asking → List ℕ
target_text r = span_bytes r.head r.target

-- The path of a request's target.
abbrev pub path_text : Asking → List ℕ
path_text r = path (target_text r)

-- The target stands in the head, and is taken.
pub record HasTarget (r : Asking) : Type 0 where
  pub within : IsWithin (length r.head) r.target
  pub taken : is_target (target_text r) ≡ true

-- What a client asks for is the reading of the bytes; what they don't settle is refused by 400 where no more come.
abbrev pub IsAsked : ConnWire → List ℕ → Incoming → Type 0
IsAsked now bytes (Request request) = IsReading bytes (Asks request.method.now (path_text request) request.head request.content) × HasTarget request
IsAsked now bytes (Refused status) = IsReading bytes (Refuses status) ⊎ (IsReading bytes Unsettled × IsAtEnd now.left × (status ≡ 400))
IsAsked now bytes ConnFault = Unit {0}
IsAsked now bytes NoMemory = Unit {0}

-- So many bytes of the interim response were given, and all of them unless the connection failed.
pub record GivesInterim (old new : Option (List ℕ)) (bytes : List ℕ) (written : ℕ) (incoming : Incoming) : Type 0 where
  pub text : List ℕ
  pub is : IsInterim bytes text
  pub within : written ≤ length text
  pub given : Appends old new (take written text)
  pub whole : (incoming ≡ ConnFault → ⊥) → written ≡ length text

-- What was read and given on a connection for this answer, and what is kept of it. A fault was counted exactly where the connection failed.
pub record Receives (old new : ConnWire) (kept : Kept) (incoming : Incoming) : Type 0 where
  pub reads : HasRead old new kept.bytes.items kept.interim
  pub asked : IsAsked new kept.bytes.items incoming
  pub interim : GivesInterim old.given new.given kept.bytes.items kept.interim incoming
  pub method : IsMethod kept.bytes.items (method_text kept.to_head)
  pub response : kept.response ≡ 0
  pub rose : incoming ≡ ConnFault → Rose old.faults new.faults
  pub still : (incoming ≡ ConnFault → ⊥) → new.faults ≡ old.faults

-- The whole head at the front of the bytes, of which this is told.
pub record Stands (bytes : List ℕ) (whole : WholeHead) : Type 0 where
  pub head : RequestHead
  pub rest : List ℕ
  pub is : IsWholeHead bytes head rest
  pub told : Tells head whole

-- The interim response that is due.
abbrev pub due : Bool → List ℕ
due waits = if waits then continue_text else []

-- What is kept once a head is whole: its bytes, and whether its method is HEAD.
pub record HasBegun (kept : Kept) (whole : WholeHead) : Type 0 where
  pub interim : kept.interim ≡ 0
  pub response : kept.response ≡ 0
  pub to_head : kept.to_head ≡ whole.to_head

-- What follows a whole head ends what was begun at the start.
abbrev pub ReceivesRest : ConnWire → ConnWire → Kept → Kept → WholeHead → Incoming → Type 0
ReceivesRest old new before kept whole incoming =
    (start : ConnWire) → ((written : ℕ) → HasRead start old before.bytes.items written) → old.given ≡ start.given → old.faults ≡ start.faults → HasBegun before whole → Receives start new kept incoming

-- The interim response was given whole where it is due.
pub record HasAnswered (start old : ConnWire) (kept : Kept) (whole : WholeHead) : Type 0 where
  pub reads : HasRead start old kept.bytes.items kept.interim
  pub given : Appends start.given old.given (due whole.waits)
  pub still : old.faults ≡ start.faults
  pub interim : kept.interim ≡ length (due whole.waits)
  pub response : kept.response ≡ 0
  pub to_head : kept.to_head ≡ whole.to_head

-- The content ends what was begun at the start.
abbrev pub ReceivesContent : ConnWire → ConnWire → Kept → Kept → WholeHead → Incoming → Type 0
ReceivesContent old new before kept whole incoming =
    (start : ConnWire) → HasAnswered start old before whole → Receives start new kept incoming

-- The interim response was given where it is due; or the first bytes of it, and the connection failed.
pub record PutsInterim (old new : ConnWire) (waits : Bool) (written : ℕ) (sent : Bool) : Type 0 where
  pub left : new.left ≡ old.left
  pub last : new.last ≡ old.last
  pub later : old.faults ≤ new.faults
  pub within : written ≤ length (due waits)
  pub given : Appends old.given new.given (take written (due waits))
  pub whole : sent ≡ true → written ≡ length (due waits)
  pub rose : sent ≡ false → Rose old.faults new.faults
  pub still : sent ≡ true → new.faults ≡ old.faults
