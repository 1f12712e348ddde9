-- The numbers of the causes of a crash.
use Rattle.std.specs.Prelude.{ℕ}
use Rattle.okws_base.specs.declared.crash.Cause.{Cause}
use Rattle.okws_base.specs.declared.crash.Cause.TheVariants as cause

-- A dialog crashes by one of five causes.
abbrev pub cause_number : Cause → ℕ
cause_number cause.BadFrame = 1
cause_number cause.Ended = 2
cause_number cause.LinkFault = 3
cause_number cause.FrameLimit = 4
cause_number cause.Starved = 5
