-- What holds of all spellings.
use Rattle.std.specs.Prelude.{◌≡◌, ℕ, ◌++◌, List, [], length, ◌⊎◌}
use Rattle.frame_codec.specs.declared.frame.ServiceFrame.{ServiceFrame}
use Rattle.frame_codec.specs.declared.frame.ServerFrame.{ServerFrame}
use Rattle.frame_codec.specs.declared.reading.Read.{Read}
use Rattle.frame_codec.specs.declared.reading.Read.TheVariants.{Frame, NoMemory}
use Rattle.frame_codec.specs.Spelling.{Spells, HasSpelling, ServiceHasSpelling, server_spelling, service_spelling}
use Rattle.frame_codec.specs.Stream.{Begins, BeginsNone, IsShort, FramesOf, ServerBegins, ServerBeginsNone, ServerFramesOf}
use Rattle.frame_codec.specs.Answer.{Tells, ServerTells}

-- No frame has two spellings.
abbrev pub OneSpelling : Type 0
OneSpelling = (one other : List ℕ) (frame : ServiceFrame) → Spells one frame → Spells other frame → one ≡ other

-- No two frames have one spelling.
abbrev pub OneFrame : Type 0
OneFrame = (bytes : List ℕ) (frame other : ServiceFrame) → Spells bytes frame → Spells bytes other → frame ≡ other

-- No two frames that a service hears have one spelling.
abbrev pub OneServerFrame : Type 0
OneServerFrame = (frame other : ServerFrame) → HasSpelling frame → HasSpelling other → server_spelling frame ≡ server_spelling other → frame ≡ other

-- No spelling of what a service says is a proper prefix of another.
abbrev pub NoneIsPrefix : Type 0
NoneIsPrefix = (front more : List ℕ) (frame other : ServiceFrame) → Spells front frame → Spells (front ++ more) other → more ≡ []

-- No spelling of what a service hears is a proper prefix of another.
abbrev pub NoneIsServerPrefix : Type 0
NoneIsServerPrefix = (more : List ℕ) (frame other : ServerFrame) → HasSpelling frame → HasSpelling other → server_spelling frame ++ more ≡ server_spelling other → more ≡ []

-- At most one frame stands at the front of bytes.
abbrev pub OneBegins : Type 0
OneBegins = (bytes : List ℕ) (frame other : ServiceFrame) (rest behind : List ℕ) → Begins bytes frame rest → Begins bytes other behind → (frame ≡ other) × (rest ≡ behind)

-- At most one frame that a service hears stands at the front of bytes.
abbrev pub OneServerBegins : Type 0
OneServerBegins = (bytes : List ℕ) (frame other : ServerFrame) (rest behind : List ℕ) → ServerBegins bytes frame rest → ServerBegins bytes other behind → (frame ≡ other) × (rest ≡ behind)

-- A part of a frame is none.
abbrev pub ShortBeginsNone : Type 0
ShortBeginsNone = (bytes : List ℕ) → IsShort bytes → BeginsNone bytes

-- A part of a frame is none that a service hears.
abbrev pub ShortServerBeginsNone : Type 0
ShortServerBeginsNone = (bytes : List ℕ) → IsShort bytes → ServerBeginsNone bytes

-- A stream has one list of frames, and one rest.
abbrev pub OneStream : Type 0
OneStream = (bytes : List ℕ) (frames others : List ServiceFrame) (rest behind : List ℕ) → FramesOf bytes frames rest → FramesOf bytes others behind → (frames ≡ others) × (rest ≡ behind)

-- A stream has one list of frames that a service hears, and one rest.
abbrev pub OneServerStream : Type 0
OneServerStream = (bytes : List ℕ) (frames others : List ServerFrame) (rest behind : List ℕ) → ServerFramesOf bytes frames rest → ServerFramesOf bytes others behind → (frames ≡ others) × (rest ≡ behind)

-- What the service's reader answers of what the server's writer wrote of a frame, and of whatever stands behind it: that frame, taken whole, or that memory was refused.
abbrev pub IsReadAgain : Type 0
IsReadAgain = (frame : ServerFrame) (rest : List ℕ) (answer : Read ServerFrame) → HasSpelling frame → ServerTells (server_spelling frame ++ rest) answer
    → (answer ≡ Frame frame (length (server_spelling frame))) ⊎ (answer ≡ NoMemory)

-- What the server's reader answers of what the service's writer wrote of a frame, and of whatever stands behind it: that frame, taken whole, or that memory was refused.
abbrev pub IsServiceReadAgain : Type 0
IsServiceReadAgain = (frame : ServiceFrame) (rest : List ℕ) (answer : Read ServiceFrame) → ServiceHasSpelling frame → Tells (service_spelling frame ++ rest) answer
    → (answer ≡ Frame frame (length (service_spelling frame))) ⊎ (answer ≡ NoMemory)
