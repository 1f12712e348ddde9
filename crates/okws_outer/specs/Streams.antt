-- What the calls of a source and a sink do to the bytes that are told, and when their faults count.
use Rattle.std.specs.Prelude.{◌≡◌, ◌≤◌, ◌<◌, ℕ, ◌+◌, ◌-◌, ◌^◌, min, List, length, take}
use Rattle.std.specs.Io.KnownBytes.{Appends, Consumes, Keeps, IsAtEnd}
use Rattle.std.specs.declared.option.Option.{Option}
use Rattle.std.specs.declared.option.Option.TheVariants.{Some, None}
use Rattle.okws_outer.specs.declared.stream.Pull.{Pull}
use Rattle.okws_outer.specs.declared.stream.Pull.TheVariants.{Took, End, Failed}
use Rattle.okws_outer.specs.declared.stream.Put.{Put}
use Rattle.okws_outer.specs.declared.stream.Put.TheVariants.{Done, Stopped}

-- The count rose, or stands at its last value.
abbrev pub Rose : ℕ → ℕ → Type 0
Rose before now = min (before + 1) (2 ^ 64 - 1) ≤ now

-- The count did not fall, and rose where this fault came.
pub record Counts (before now : ℕ) (fault : Type 0) : Type 0 where
  pub later : before ≤ now
  pub cause : fault → Rose before now

-- A count after n more, which stays at its last value.
abbrev pub counted : ℕ → ℕ → ℕ
counted before n = min (before + n) (2 ^ 64 - 1)

-- These are the bytes that are told, where any are.
abbrev pub Tells : Option (List ℕ) → List ℕ → Type 0
Tells None bytes = Unit {0}
Tells (Some told) bytes = told ≡ bytes

-- These bytes are the first n of some text, of the told one where any is.
abbrev pub IsFrontOf : Option (List ℕ) → ℕ → List ℕ → Type 0
IsFrontOf told n bytes = (text : List ℕ) × Tells told text × (bytes ≡ take n text)

-- A pull took the first n bytes of those left, one at the least; or there were none left; or it failed, and they all are still there.
abbrev pub Pulls : Option (List ℕ) → Option (List ℕ) → List ℕ → Pull → Type 0
Pulls old new into (Took n) = (0 < n) × (n ≤ length into) × Consumes old new (take n into)
Pulls old new into End = Keeps old new × IsAtEnd new
Pulls old new into Failed = Keeps old new

-- A put appended the bytes, or the first n of them, fewer than all where there are any.
abbrev pub Puts : Option (List ℕ) → Option (List ℕ) → List ℕ → Put → Type 0
Puts old new bytes Done = Appends old new bytes
Puts old new bytes (Stopped n) = (n ≤ length bytes) × Appends old new (take n bytes) × (0 < length bytes → n < length bytes)

-- A prefix of what is due was appended.
pub record AppendsPrefix (old new : Option (List ℕ)) (due : List ℕ) : Type 0 where
  pub taken : ℕ
  pub within : taken ≤ length due
  pub given : Appends old new (take taken due)
