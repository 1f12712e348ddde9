-- What a cell says of requests that came to another incarnation than they wanted.
use Rattle.std.specs.Prelude.{◌≡◌, ◌≢◌, List, [], ◌∷◌}
use Rattle.okws_base.specs.Runs.{Each}
use Rattle.monitor_model.specs.declared.record.CellEvent.{CellEvent}
use Rattle.monitor_model.specs.declared.record.CellEvent.TheVariants.{Boot, Retired, Missed, Dialog, Speaking}
use Rattle.monitor_model.specs.declared.record.Record.{Record}
use Rattle.monitor_model.specs.Cell.{incarnation}
use Rattle.monitor_model.specs.Launcher.{begun}
use Rattle.monitor_model.specs.Legal.{EventShownFits}
use Rattle.monitor_model.specs.Placed.{EachFrom}

-- A Missed carries the incarnation that is, and another that was wanted.
abbrev pub IsTrulyMissed : List CellEvent → CellEvent → Type 0
IsTrulyMissed J (Missed worker wanted is) = (is ≡ incarnation J) × (wanted ≢ is)
IsTrulyMissed J (Boot k) = Unit {0}
IsTrulyMissed J Retired = Unit {0}
IsTrulyMissed J (Dialog d) = Unit {0}
IsTrulyMissed J (Speaking worker items) = Unit {0}

-- Each Missed of a cell carries the incarnation that was, and another that was wanted.
abbrev pub AreTrulyMissed : List CellEvent → Type 0
AreTrulyMissed [] = Unit {0}
AreTrulyMissed (e ∷ J) = AreTrulyMissed J × IsTrulyMissed J e

-- Each Missed of a cell is true of it, and what superseded a dialog of s was begun: its number is at most the greatest begun of s.
pub record MissesAreTrue (R : Record) : Type 0 where
  pub missed : EachFrom (λ s J. AreTrulyMissed J) 0 R.cells
  pub shown : EachFrom (λ s J. Each (EventShownFits (begun R.launcher s)) J) 0 R.cells
