-- What was taken from the link of an incarnation, against what that said.
use Rattle.std.specs.Prelude.{◌≡◌, ℕ, List, [], ◌∷◌, ◌++◌, Option, Some, None, IfSome, ◌==◌, if◌then◌else◌}
use Rattle.std.specs.Io.KnownBytes.{Consumes, IsAtEnd}
use Rattle.frame_codec.specs.Stream.{IsBadStop}
use Rattle.okws_outer.specs.Wire.{Wire}
use Rattle.monitor_model.specs.declared.record.CellEvent.{CellEvent}
use Rattle.monitor_model.specs.declared.record.CellEvent.TheVariants as cell
use Rattle.monitor_model.specs.declared.record.End.{End}
use Rattle.monitor_model.specs.declared.record.End.TheVariants as end
use Rattle.monitor_model.specs.Cell.{incarnation, last_booted, said}

-- How the last dialog of incarnation k ended, if one did.
abbrev pub last_end : ℕ → List CellEvent → Option End
last_end k [] = None
last_end k (cell.Boot j ∷ J) = last_end k J
last_end k (cell.Retired ∷ J) = last_end k J
last_end k (cell.Missed worker wanted is ∷ J) = last_end k J
last_end k (cell.Dialog d ∷ J) = if incarnation J == k then Some d.end else last_end k J
last_end k (cell.Speaking worker items ∷ J) = last_end k J

-- What was taken behind all that was said, and what is left, where the link tells, once a dialog ended so: nothing was taken.
-- BadFrame: whatever frame begins with what was taken, they end inside it, and nothing is left. Ended: nothing is left. LinkFault, Starved: some bytes may have been taken.
abbrev pub Leaves : End → List ℕ → Option (List ℕ) → Type 0
Leaves end.Reply rest left = rest ≡ []
Leaves (end.Superseded shown) rest left = rest ≡ []
Leaves end.BadFrame rest left = IfSome left (IsBadStop rest)
Leaves end.Ended rest left = (rest ≡ []) × IsAtEnd left
Leaves end.LinkFault rest left = Unit {0}
Leaves end.FrameLimit rest left = rest ≡ []
Leaves end.Starved rest left = Unit {0}

-- The same; nothing was taken where no dialog ended.
abbrev pub LeavesBy : Option End → List ℕ → Option (List ℕ) → Type 0
LeavesBy None rest left = rest ≡ []
LeavesBy (Some how) rest left = Leaves how rest left

-- Of all bytes that came from incarnation k, where its link tells, those were taken that it said, in order, and a rest, by the end of its last dialog.
pub record HasTaken (k : ℕ) (J : List CellEvent) (came left : Option (List ℕ)) : Type 0 where
  pub rest : List ℕ
  pub taken : Consumes came left (said k J ++ rest)
  pub rest_is : LeavesBy (last_end k J) rest left

-- They were from the link of a cell with these events, if it has one.
abbrev pub IsTaken : List CellEvent → Option Wire → Type 0
IsTaken J link = IfSome link (λ wire. HasTaken (last_booted J) J wire.came wire.left)
