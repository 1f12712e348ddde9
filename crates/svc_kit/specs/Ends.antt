-- A source and a sink as one link, and a link that keeps bytes.
use Rattle.std.specs.Prelude.{ℕ, ◌+◌, ◌<◌, List, ◌++◌, None, false, option_map}
use Rattle.std.specs.Io.KnownBytes.{Keeps, IsAtEnd}
use Rattle.okws_outer.specs.declared.stream.Pull.{Pull}
use Rattle.okws_outer.specs.declared.stream.Pull.TheVariants.{Took, End, Failed}
use Rattle.std.specs.declared.option.Option.{Option}
use Rattle.okws_outer.specs.Wire.{Wire}

-- What is left at a source and was given to a sink, as a link of which nothing more is known; its faults are those of both.
abbrev pub wire_of : Option (List ℕ) → Option (List ℕ) → ℕ → ℕ → Wire
wire_of left given came went = record { whose = None; came = None; left = left; given = given; faults = came + went; steady = false; ended = false; room = 0 }

-- The link with these bytes before those that are left.
abbrev pub holding : List ℕ → Wire → Wire
holding kept wire = record wire { left = option_map (λ (left : List ℕ). kept ++ left) wire.left }

-- Bytes were asked for, and those that came are kept between these places; what is left is as it was.
abbrev pub Refills : Option (List ℕ) → Option (List ℕ) → ℕ → ℕ → Pull → Type 0
Refills old new from to (Took n) = (from < to) × Keeps old new
Refills old new from to End = Keeps old new × IsAtEnd new
Refills old new from to Failed = Keeps old new
