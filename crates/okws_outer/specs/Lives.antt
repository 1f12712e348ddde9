-- A child as contracts see it.
use Rattle.std.specs.Prelude.{◌≡◌, ℕ, Bool, true, false, not, ◌||◌, Some, None}
use Rattle.std.specs.declared.option.Option.{Option}
use Rattle.okws_outer.specs.declared.child.Ended.{Ended}
use Rattle.okws_outer.specs.declared.child.Ended.TheVariants.{Yes, No, Failed}
use Rattle.okws_outer.specs.Streams.{Counts, counted}

-- A child as contracts see it: its service and incarnation; how often it was asked whether it has ended, the last answer, and whether Yes was among the answers before it was stopped; how many calls failed; and whether it was stopped.
pub record Life : Type 0 where
  pub service : ℕ
  pub incarnation : ℕ
  pub asked : ℕ
  pub last : Option Ended
  pub ended : Bool
  pub faults : ℕ
  pub stopped : Bool

-- A child of which nothing was asked yet, and which wasn't stopped.
abbrev pub new_life : ℕ → ℕ → Life
new_life service incarnation = record { service = service; incarnation = incarnation; asked = 0; last = None; ended = false; faults = 0; stopped = false }

-- Whether Yes was among the answers before the child was stopped, after this one: a child that was stopped may well have ended.
abbrev pub ended_after : Bool → Ended → Bool → Bool
ended_after stopped Yes before = not stopped || before
ended_after stopped No before = before
ended_after stopped Failed before = before

-- The same child, stopped.
abbrev pub stopped_life : Life → Life
stopped_life life = record life { stopped = true }

-- The child was asked and gave this answer.
pub record Asks (old new : Life) (answer : Ended) : Type 0 where
  pub life : new ≡ record old { asked = counted old.asked 1; last = Some answer; ended = ended_after old.stopped answer old.ended; faults = new.faults }
  pub faults : Counts old.faults new.faults (answer ≡ Failed)
