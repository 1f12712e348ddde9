-- How the bytes of a frame come in.
use Rattle.std.specs.Prelude.{◌≡◌, ◌<◌, ℕ, ◌+◌, List, ◌++◌, length, take, IsTrue}
use Rattle.std.specs.declared.option.Option.{Option}
use Rattle.std.specs.Io.KnownBytes.{Consumes, IsAtEnd}
use Rattle.frame_codec.specs.Spelling.{SpellsBy, four, is_lawful_length}
use Rattle.frame_codec.specs.Stream.{IsBadBy}
use Rattle.frame_link.specs.declared.receiving.Came.{Came}
use Rattle.frame_link.specs.declared.receiving.Came.TheVariants as came
use Rattle.frame_link.specs.declared.receiving.Filled.{Filled}
use Rattle.frame_link.specs.declared.receiving.Filled.TheVariants.{Whole, Ended, Failed, NoMemory}
use Rattle.frame_link.specs.declared.receiving.NextFrame.{NextFrame}
use Rattle.frame_link.specs.declared.receiving.NextFrame.TheVariants as next

-- Bytes were taken behind those that were there. Whole: so many are there as were wanted; Ended: fewer came, and none are left.
abbrev pub Fills : Option (List ℕ) → Option (List ℕ) → List ℕ → List ℕ → ℕ → Filled → Type 0
Fills old new before now total Whole = (more : List ℕ) × Consumes old new more × (now ≡ before ++ more) × (length now ≡ total)
Fills old new before now total Ended = (more : List ℕ) × Consumes old new more × (length (before ++ more) < total) × IsAtEnd new
Fills old new before now total Failed = (more : List ℕ) × Consumes old new more
Fills old new before now total NoMemory = (more : List ℕ) × Consumes old new more

-- Bytes were taken behind those that were there before. All: the room is full of them; Ended: so many are there, which are fewer than it has place for, and none are left.
abbrev pub Comes : Option (List ℕ) → Option (List ℕ) → List ℕ → List ℕ → Came → Type 0
Comes old new before room came.All = (more : List ℕ) × Consumes old new more × (room ≡ before ++ more)
Comes old new before room (came.Ended n) = (more : List ℕ) × Consumes old new more × (length (before ++ more) ≡ n) × (n < length room) × IsAtEnd new
Comes old new before room came.Failed = (more : List ℕ) × Consumes old new more

-- The first four bytes of a room tell a lawful length, and it has place for so many behind them.
abbrev pub IsRoom : List ℕ → Type 0
IsRoom room = (n : ℕ) × IsTrue (is_lawful_length n) × (take 4 room ≡ four n) × (length room ≡ 4 + n)

-- The bytes are a lawful length and so many bytes.
abbrev pub IsWhole : List ℕ → Type 0
IsWhole bytes = (n : ℕ) × (body : List ℕ) × IsTrue (is_lawful_length n) × (bytes ≡ four n ++ body) × (length body ≡ n)

-- The bytes spell this frame, or they are bad.
abbrev pub Reads : {F : Type 0} → (F → List (List ℕ)) → (F → Type 0) → List ℕ → NextFrame F → Type 0
Reads parts fit bytes (next.Frame frame) = SpellsBy parts fit bytes frame
Reads parts fit bytes next.BadFrame = IsBadBy parts fit bytes
Reads parts fit bytes next.NoMemory = Unit {0}
Reads parts fit bytes next.Ended = ⊥
Reads parts fit bytes next.LinkFault = ⊥
