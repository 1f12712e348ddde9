-- What the reader of frames answers.
use Rattle.std.specs.Prelude.{◌≡◌, ℕ, ◌+◌, ◌≤◌, List, length, take, Option, Some, None, ◌==◌, nat_lt, if◌then◌else◌}
use Rattle.std.specs.Int.{w32}
use Rattle.okws_base.specs.declared.limit.TheConstants.{LONGEST_FRAME}
use Rattle.frame_codec.specs.declared.frame.ServiceFrame.{ServiceFrame}
use Rattle.frame_codec.specs.declared.frame.ServerFrame.{ServerFrame}
use Rattle.frame_codec.specs.declared.reading.Read.{Read}
use Rattle.frame_codec.specs.declared.reading.Read.TheVariants.{Frame, Short, BadFrame, NoMemory}
use Rattle.frame_codec.specs.Reading.{number_at, payload_at}
use Rattle.frame_codec.specs.Spelling.{SpellsBy, service_parts, server_parts, Fits, FitsServer}
use Rattle.frame_codec.specs.Stream.{BeginsBy, IsShort, IsBadBy}

-- The answer tells of the bytes: a frame stands at their front with so many bytes, or they are Short, or neither is so. Where memory was refused a frame stands there.
abbrev pub TellsBy : {F : Type 0} → (F → List (List ℕ)) → (F → Type 0) → List ℕ → Read F → Type 0
TellsBy parts fit bytes (Frame frame taken) = (taken ≤ length bytes) × SpellsBy parts fit (take taken bytes) frame
TellsBy parts fit bytes Short = IsShort bytes
TellsBy parts fit bytes BadFrame = IsBadBy parts fit bytes
TellsBy {F} parts fit bytes NoMemory = (frame : F) × (rest : List ℕ) × BeginsBy parts fit bytes frame rest

-- The answer tells of what a service says.
abbrev pub Tells : List ℕ → Read ServiceFrame → Type 0
Tells bytes answer = TellsBy service_parts Fits bytes answer

-- The answer tells of what a service hears.
abbrev pub ServerTells : List ℕ → Read ServerFrame → Type 0
ServerTells bytes answer = TellsBy server_parts FitsServer bytes answer

-- The answer of a whole payload, behind which so many bytes end.
abbrev pub given : {F : Type 0} → Option F → ℕ → Read F
given None taken = BadFrame
given (Some frame) taken = Frame frame taken

-- The answer by the bytes behind a length, where fields are read so.
abbrev pub sized : {F : Type 0} → (ℕ → List ℕ → Option F) → ℕ → List ℕ → Read F
sized fields n rest =
    if n == 0 then BadFrame
    else if nat_lt LONGEST_FRAME n then BadFrame
    else if nat_lt (length rest) n then Short
    else given (payload_at fields (take n rest)) (4 + n)

-- The answer by a length, if there is one, and the bytes behind it.
abbrev pub headed : {F : Type 0} → (ℕ → List ℕ → Option F) → Option (ℕ × List ℕ) → Read F
headed fields None = Short
headed fields (Some a) = sized fields a.0 a.1

-- The answer by all bytes.
unfoldable pub frame_at : {F : Type 0} → (ℕ → List ℕ → Option F) → List ℕ → Read F
frame_at fields bytes = headed fields (number_at w32 bytes)

-- The answer is a frame.
abbrev pub IsFrame : {F : Type 0} → Read F → Type 0
IsFrame (Frame frame taken) = Unit {0}
IsFrame Short = ⊥
IsFrame BadFrame = ⊥
IsFrame NoMemory = ⊥

-- The answer is this one; where memory was refused, this one is a frame.
abbrev pub IsAnswer : {F : Type 0} → Read F → Read F → Type 0
IsAnswer (Frame frame taken) expected = expected ≡ Frame frame taken
IsAnswer Short expected = expected ≡ Short
IsAnswer BadFrame expected = expected ≡ BadFrame
IsAnswer NoMemory expected = IsFrame expected
