-- How the bytes of a request come.
use Rattle.std.specs.Prelude.{◌≡◌, ◌≢◌, ◌≤◌, ◌<◌, ℕ, ◌+◌, List, [], ◌++◌, length, Ok, IfSome}
use Rattle.std.specs.Io.KnownBytes.{Consumes, Keeps, IsAtEnd}
use Rattle.okws_outer.specs.Streams.{Counts, Tells}
use Rattle.okws_outer.specs.Conns.{ConnWire}
use Rattle.httparse.specs.Grammar.{RequestHead, print_request}
use Rattle.http_text.specs.Reading.{IsWholeHead, HasNoWholeHead, Front, HasFront, IsReading, reading_of, checked_head, interim_head}
use Rattle.http_text.specs.Reading.{Unfinished}
use Rattle.http_text.specs.Reading.{Refuses, Unsettled}
use Rattle.http_front.specs.Looking.{Tells as TellsHead}
use Rattle.http_front.specs.declared.kept.TheConstants.{PIECE}
use Rattle.http_front.specs.declared.pulling.Piece.{Piece}
use Rattle.http_front.specs.declared.pulling.Piece.TheVariants as piece
use Rattle.http_front.specs.declared.pulling.HeadRead.{HeadRead}
use Rattle.http_front.specs.declared.pulling.HeadRead.TheVariants as head
use Rattle.http_front.specs.declared.pulling.Filled.{Filled}
use Rattle.http_front.specs.declared.pulling.Filled.TheVariants as filled

-- The bytes but for a last piece settled nothing; and where a whole head stood there, that piece brought none behind its content.
pub record IsPrompt (last bytes : List ℕ) : Type 0 where
  pub before : List ℕ
  pub together : bytes ≡ before ++ last
  pub unsettled : IsReading before Unsettled
  pub within : (h : RequestHead) (rest : List ℕ) (size : ℕ) → IsWholeHead before h rest → checked_head h ≡ Ok size → length bytes ≤ length (print_request h) + size
  pub short : length last ≤ PIECE

-- None of the bytes was read once they were settled: but for a last piece they settled nothing.
abbrev pub IsReadPromptly : List ℕ → Type 0
IsReadPromptly bytes = bytes ≢ [] → (last : List ℕ) × IsPrompt last bytes

-- Where a whole head stood there, its interim response was written.
abbrev pub IsAnswered : List ℕ → ℕ → Type 0
IsAnswered before written = (h : RequestHead) (rest : List ℕ) → IsWholeHead before h rest → written ≡ length (interim_head h)

-- Since the start these bytes were taken, and none once they were settled: the piece that was taken last settled them, and what is due before it was written.
pub record HasRead (start now : ConnWire) (bytes : List ℕ) (written : ℕ) : Type 0 where
  pub taken : Consumes start.left now.left bytes
  pub prompt : bytes ≢ [] → (last : List ℕ) × Tells now.last last × (prompt : IsPrompt last bytes) × IsAnswered prompt.before written
  pub later : start.faults ≤ now.faults

-- Bytes came behind those that were there, or none were taken.
abbrev pub PieceBytes : ConnWire → ConnWire → List ℕ → List ℕ → Piece → Type 0
PieceBytes old new before now piece.Came = (more : List ℕ) × (0 < length more) × Consumes old.left new.left more × (now ≡ before ++ more) × IfSome new.last (λ last. last ≡ more)
PieceBytes old new before now piece.Ended = (now ≡ before) × Keeps old.left new.left × (new.last ≡ old.last) × IsAtEnd new.left
PieceBytes old new before now piece.Failed = (now ≡ before) × Keeps old.left new.left × (new.last ≡ old.last)
PieceBytes old new before now piece.NoMemory = (now ≡ before) × Keeps old.left new.left × (new.last ≡ old.last)

-- What a piece does. It counts its own fault alone.
pub record TakesPiece (old new : ConnWire) (before now : List ℕ) (came : Piece) : Type 0 where
  pub bytes : PieceBytes old new before now came
  pub given : new.given ≡ old.given
  pub faults : Counts old.faults new.faults (came ≡ piece.Failed)
  pub still : (came ≡ piece.Failed → ⊥) → new.faults ≡ old.faults

-- Without a whole head the bytes are refused by this status.
pub record IsRefusedFront (bytes : List ℕ) (status : ℕ) : Type 0 where
  pub front : Front
  pub has : HasFront bytes front
  pub none : HasNoWholeHead bytes
  pub refuses : reading_of front ≡ Refuses status

-- What stands at the front of the bytes where the reading of a head ends.
abbrev pub HeadEnds : ConnWire → List ℕ → HeadRead → Type 0
HeadEnds now bytes (head.Whole whole) = (h : RequestHead) × (rest : List ℕ) × IsWholeHead bytes h rest × TellsHead h whole
HeadEnds now bytes (head.Refused status) = IsRefusedFront bytes status
HeadEnds now bytes head.Ended = HasFront bytes Unfinished × IsAtEnd now.left
HeadEnds now bytes head.Failed = HasFront bytes Unfinished
HeadEnds now bytes head.NoMemory = HasFront bytes Unfinished

-- The reading of a head: the bytes that were taken, and what it ends with. No interim response is due before.
pub record ReadsHead (start now : ConnWire) (bytes : List ℕ) (read : HeadRead) : Type 0 where
  pub reads : (written : ℕ) → HasRead start now bytes written
  pub given : now.given ≡ start.given
  pub ends : HeadEnds now bytes read
  pub faults : Counts start.faults now.faults (read ≡ head.Failed)
  pub still : (read ≡ head.Failed → ⊥) → now.faults ≡ start.faults

-- So many bytes are a head that passed its checks, and its content.
pub record IsContentOf (h : RequestHead) (total : ℕ) : Type 0 where
  pub size : ℕ
  pub passed : checked_head h ≡ Ok size
  pub total_is : total ≡ length (print_request h) + size

-- Whether all bytes are there, or their end came before.
abbrev pub FillEnds : ConnWire → List ℕ → ℕ → Filled → Type 0
FillEnds now bytes total filled.Whole = total ≤ length bytes
FillEnds now bytes total filled.Ended = (length bytes < total) × IsAtEnd now.left
FillEnds now bytes total filled.Failed = Unit {0}
FillEnds now bytes total filled.NoMemory = Unit {0}

-- The reading of content behind a whole head, and what it ends with.
pub record FillsContent (start old now : ConnWire) (h : RequestHead) (bytes : List ℕ) (written total : ℕ) (ended : Filled) : Type 0 where
  pub rest : List ℕ
  pub whole : IsWholeHead bytes h rest
  pub reads : HasRead start now bytes written
  pub given : now.given ≡ old.given
  pub ends : FillEnds now bytes total ended
  pub faults : Counts old.faults now.faults (ended ≡ filled.Failed)
  pub still : (ended ≡ filled.Failed → ⊥) → now.faults ≡ old.faults
