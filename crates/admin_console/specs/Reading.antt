-- What is taken from a console.
use Rattle.std.specs.Prelude.{◌≡◌, ◌≤◌, ◌<◌, ◌==◌, ℕ, ◌+◌, Bool, not, nat_lt, List, [], ◌∷◌, ◌++◌, length, take, if◌then◌else◌, IsTrue}
use Rattle.std.specs.List.{list_all}
use Rattle.std.specs.Io.KnownBytes.{Consumes, IsAtEnd}
use Rattle.std.specs.Str.Lines.{strip_carriage_return}
use Rattle.okws_base.specs.Runs.{Each}
use Rattle.okws_outer.specs.Streams.{Rose, counted}
use Rattle.okws_outer.specs.Conns.{ConnWire}
use Rattle.admin_console.specs.declared.reader.TheConstants.{HELD}
use Rattle.admin_console.specs.declared.reader.Taken.{Taken}
use Rattle.admin_console.specs.declared.reader.Taken.TheVariants as taken
use Rattle.admin_console.specs.declared.reader.Passed.{Passed}
use Rattle.admin_console.specs.declared.reader.Passed.TheVariants as passed
use Rattle.admin_console.specs.declared.reader.Content.{Content}
use Rattle.admin_console.specs.declared.reader.Content.TheVariants as content

-- A byte that isn't LF.
abbrev pub is_plain : ℕ → Bool
is_plain b = not (b == 10)

-- A text without LF.
abbrev pub IsPlain : List ℕ → Type 0
IsPlain text = IsTrue (list_all is_plain text)

-- A line is empty without the CR at its end.
abbrev pub IsBlank : List ℕ → Type 0
IsBlank text = IsPlain text × (strip_carriage_return text ≡ [])

-- Lines, each with the LF that ends it.
abbrev pub ended : List (List ℕ) → List ℕ
ended [] = []
ended (line ∷ lines) = line ++ 10 ∷ ended lines

-- The bytes that are held of a line, and one more where fewer are than may be.
abbrev pub with_byte : List ℕ → ℕ → List ℕ
with_byte held byte = if nat_lt (length held) HELD then held ++ byte ∷ [] else held

-- How the bytes of a line go: with the LF that ends it, or up to the end of the input, or the connection failed behind them.
abbrev pub LineEnds : ConnWire → ConnWire → List ℕ → Taken → Type 0
LineEnds old new text taken.Line = Consumes old.left new.left (text ++ 10 ∷ [])
LineEnds old new text taken.Ended = Consumes old.left new.left text × IsAtEnd new.left
LineEnds old new text taken.Failed = Consumes old.left new.left text × Rose old.faults new.faults

-- A line was taken; its first bytes are held. A fault was counted only where the connection failed.
pub record TakesLine (old new : ConnWire) (held : List ℕ) (read : Taken) : Type 0 where
  pub text : List ℕ
  pub plain : IsPlain text
  pub held_is : held ≡ take HELD text
  pub given : new.given ≡ old.given
  pub later : old.faults ≤ new.faults
  pub still : (read ≡ taken.Failed → ⊥) → new.faults ≡ old.faults
  pub ends : LineEnds old new text read

-- How the bytes of empty lines and of the line behind them go.
abbrev pub CommandEnds : ConnWire → ConnWire → List (List ℕ) → List ℕ → Taken → Type 0
CommandEnds old new blanks text taken.Line = Consumes old.left new.left (ended blanks ++ (text ++ 10 ∷ [])) × (IsBlank text → ⊥)
CommandEnds old new blanks text taken.Ended = Consumes old.left new.left (ended blanks ++ text) × IsAtEnd new.left
CommandEnds old new blanks text taken.Failed = Consumes old.left new.left (ended blanks ++ text) × Rose old.faults new.faults

-- How many lines are counted: those that were ended.
abbrev pub lines_read : List (List ℕ) → Taken → ℕ
lines_read blanks taken.Line = length blanks + 1
lines_read blanks taken.Ended = length blanks
lines_read blanks taken.Failed = length blanks

-- Empty lines were taken, and the line behind them, whose first bytes are held. The count of lines stays at its last value once it is there.
pub record TakesCommand (old new : ConnWire) (before after : ℕ) (held : List ℕ) (read : Taken) : Type 0 where
  pub blanks : List (List ℕ)
  pub text : List ℕ
  pub are_blank : Each IsBlank blanks
  pub plain : IsPlain text
  pub held_is : held ≡ take HELD text
  pub count : after ≡ counted before (lines_read blanks read)
  pub given : new.given ≡ old.given
  pub later : old.faults ≤ new.faults
  pub still : (read ≡ taken.Failed → ⊥) → new.faults ≡ old.faults
  pub ends : CommandEnds old new blanks text read

-- So many bytes were taken, or fewer as the input ended or the connection failed.
abbrev pub BytesEnd : ConnWire → ConnWire → List ℕ → ℕ → Passed → Type 0
BytesEnd old new bytes size passed.Whole = length bytes ≡ size
BytesEnd old new bytes size passed.Short = (length bytes < size) × IsAtEnd new.left
BytesEnd old new bytes size passed.Failed = (length bytes < size) × Rose old.faults new.faults

-- Bytes were taken.
pub record PassesBytes (old new : ConnWire) (size : ℕ) (passing : Passed) : Type 0 where
  pub bytes : List ℕ
  pub taken_are : Consumes old.left new.left bytes
  pub given : new.given ≡ old.given
  pub later : old.faults ≤ new.faults
  pub still : (passing ≡ passed.Failed → ⊥) → new.faults ≡ old.faults
  pub ends : BytesEnd old new bytes size passing

-- The same of a publication's bytes, which are at hand where all came and memory was given.
abbrev pub ContentEnds : ConnWire → ConnWire → List ℕ → ℕ → Content → Type 0
ContentEnds old new bytes size (content.Whole all) = (all ≡ bytes) × (length bytes ≡ size)
ContentEnds old new bytes size content.Short = (length bytes < size) × IsAtEnd new.left
ContentEnds old new bytes size content.Failed = (length bytes < size) × Rose old.faults new.faults
ContentEnds old new bytes size content.NoMemory = length bytes ≡ size

-- The bytes of a publication were taken.
pub record TakesContent (old new : ConnWire) (size : ℕ) (taking : Content) : Type 0 where
  pub bytes : List ℕ
  pub taken_are : Consumes old.left new.left bytes
  pub given : new.given ≡ old.given
  pub later : old.faults ≤ new.faults
  pub still : (taking ≡ content.Failed → ⊥) → new.faults ≡ old.faults
  pub ends : ContentEnds old new bytes size taking
