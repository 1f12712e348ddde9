-- What was given to a sink that is given nothing more once it has failed.
use Rattle.std.specs.Prelude.{◌≡◌, ◌≤◌, ℕ, List, ◌++◌, Bool, true, false, Result, Ok, Err}
use Rattle.std.specs.Io.KnownBytes.{Appends}
use Rattle.std.specs.declared.option.Option.{Option}
use Rattle.okws_outer.specs.Streams.{AppendsPrefix, Rose}

-- Since the start, what is due was given, or a prefix of it where the sink has stopped.
pub record Printed (start now : Option (List ℕ)) (due : List ℕ) (stopped : Bool) : Type 0 where
  pub part : AppendsPrefix start now due
  pub whole : stopped ≡ false → Appends start now due

-- These bytes are printed after whatever was due before.
abbrev pub Prints : Option (List ℕ) → Bool → Option (List ℕ) → Bool → List ℕ → Type 0
Prints old stopped_before new stopped_now bytes =
    (start : Option (List ℕ)) (due : List ℕ) → Printed start old due stopped_before → Printed start new (due ++ bytes) stopped_now

-- Since it stood at the start, the count has risen where the sink has stopped, and is the same where it has not.
pub record Counted (start now : ℕ) (stopped : Bool) : Type 0 where
  pub later : start ≤ now
  pub rose : stopped ≡ true → Rose start now
  pub still : stopped ≡ false → now ≡ start

-- A count that was right before is right after.
abbrev pub CountsOn : ℕ → Bool → ℕ → Bool → Type 0
CountsOn old stopped_before new stopped_now = (start : ℕ) → Counted start old stopped_before → Counted start new stopped_now

-- Where printing stands: what the sink was given, where it tells, how many of its puts failed, and whether printing has stopped.
pub record Printer : Type 0 where
  pub given : Option (List ℕ)
  pub faults : ℕ
  pub stopped : Bool

-- Printing to this sink stands so.
abbrev pub printer : {O : Type 0} → (O → Option (List ℕ)) → (O → ℕ) → O → Bool → Printer
printer given faults out stopped = record { given = given out; faults = faults out; stopped = stopped }

-- These bytes are printed.
pub record PrintsOn (before after : Printer) (bytes : List ℕ) : Type 0 where
  pub prints : Prints before.given before.stopped after.given after.stopped bytes
  pub counts : CountsOn before.faults before.stopped after.faults after.stopped

-- A front of these bytes is printed.
pub record PrintsFront (before after : Printer) (bytes : List ℕ) : Type 0 where
  pub front : List ℕ
  pub rest : List ℕ
  pub whole : front ++ rest ≡ bytes
  pub printed : PrintsOn before after front

-- These bytes are printed; where memory was refused, a front of them.
abbrev pub PrintsAs : {V E : Type 0} → Result V E → Printer → Printer → List ℕ → Type 0
PrintsAs (Ok v) before after bytes = PrintsOn before after bytes
PrintsAs (Err e) before after bytes = PrintsFront before after bytes
