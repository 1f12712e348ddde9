-- When the faults of calls that make objects count.
use Rattle.std.specs.Prelude.{◌≡◌, ◌≤◌, ℕ, Result, Ok, Err}
use Rattle.okws_outer.specs.declared.error.MakeError.{MakeError}
use Rattle.okws_outer.specs.declared.error.MakeError.TheVariants.{Failed, NoMemory}
use Rattle.okws_outer.specs.Streams.{Rose}

-- The count rose exactly where the call failed; one that made its object, or to which memory was refused, left it.
abbrev pub CountsMade : {V : Type 0} → ℕ → ℕ → Result V MakeError → Type 0
CountsMade before now (Ok v) = now ≡ before
CountsMade before now (Err NoMemory) = now ≡ before
CountsMade before now (Err Failed) = (before ≤ now) × Rose before now
