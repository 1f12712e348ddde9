-- What the links of a cell's incarnations were given, against what those heard.
use Rattle.std.specs.Prelude.{◌≡◌, ℕ, Bool, true, false, List, [], ◌∷◌, ◌++◌, Option, Some, None, ◌==◌, map, slice_index_or, IsSome, if◌then◌else◌}
use Rattle.okws_base.specs.Runs.{Each}
use Rattle.okws_plan.specs.declared.configuration.Config.{Config}
use Rattle.monitor_model.specs.declared.record.CellEvent.{CellEvent}
use Rattle.monitor_model.specs.declared.record.CellEvent.TheVariants as cell
use Rattle.monitor_model.specs.declared.record.End.{End}
use Rattle.monitor_model.specs.declared.record.End.TheVariants as end
use Rattle.monitor_model.specs.declared.record.Record.{Record}
use Rattle.monitor_model.specs.declared.sent.Sent.{Sent}
use Rattle.monitor_model.specs.Cell.{incarnation, heard}

-- A dialog ended by a fault of its link.
abbrev pub is_link_fault : End → Bool
is_link_fault end.LinkFault = true
is_link_fault end.Reply = false
is_link_fault (end.Superseded shown) = false
is_link_fault end.BadFrame = false
is_link_fault end.Ended = false
is_link_fault end.FrameLimit = false
is_link_fault end.Starved = false

-- The first of two, or the other where it isn't there.
abbrev pub or_else : {A : Type 0} → Option A → Option A → Option A
or_else (Some x) other = Some x
or_else None other = other

-- What was due in a dialog that ended so, where a fault of its link ended it.
abbrev pub cut_due : End → List ℕ → Option (List ℕ)
cut_due how due = if is_link_fault how then Some due else None

-- What was due in the dialog in which the link of incarnation k failed, where it did.
abbrev pub broken_in : ℕ → List CellEvent → Option (List ℕ)
broken_in k [] = None
broken_in k (cell.Boot j ∷ J) = broken_in k J
broken_in k (cell.Retired ∷ J) = broken_in k J
broken_in k (cell.Missed worker wanted is ∷ J) = broken_in k J
broken_in k (cell.Dialog d ∷ J) = if incarnation J == k then or_else (cut_due d.end d.due) (broken_in k J) else broken_in k J
broken_in k (cell.Speaking worker items ∷ J) = broken_in k J

-- The incarnations that were booted, the last one first.
abbrev pub all_booted : List CellEvent → List ℕ
all_booted [] = []
all_booted (cell.Boot k ∷ J) = k ∷ all_booted J
all_booted (cell.Retired ∷ J) = all_booted J
all_booted (cell.Missed worker wanted is ∷ J) = all_booted J
all_booted (cell.Dialog d ∷ J) = all_booted J
all_booted (cell.Speaking worker items ∷ J) = all_booted J

-- What was put behind all that was heard: nothing; where the link failed, what it took of what was due.
abbrev pub IsCut : Option (List ℕ) → List ℕ → Type 0
IsCut None front = front ≡ []
IsCut (Some due) front = (rest : List ℕ) × (front ++ rest ≡ due)

-- A link, where it tells, was given this text; where it failed, and what it took of what was due.
abbrev pub IsGiven : List ℕ → Option (List ℕ) → Option (List ℕ) → Type 0
IsGiven text broken None = Unit {0}
IsGiven text broken (Some given) = (front : List ℕ) × (given ≡ text ++ front) × IsCut broken front

-- The link of an incarnation of s was given what that heard.
abbrev pub IsSent : Config → List ℕ → ℕ → List CellEvent → Sent → Type 0
IsSent C seed s J x = IsGiven (heard C seed s x.incarnation J) (broken_in x.incarnation J) x.given

-- One link for each incarnation of s that was booted, the last one first, and each was given what its incarnation heard.
pub record AreSent (C : Config) (seed : List ℕ) (s : ℕ) (J : List CellEvent) (sent : List Sent) : Type 0 where
  pub all : map (λ (x : Sent). x.incarnation) sent ≡ all_booted J
  pub each : Each (IsSent C seed s J) sent

-- What the links of a service's incarnations were given, by a record.
abbrev pub sents_of : Record → ℕ → List Sent
sents_of R s = slice_index_or R.sents s []

-- The link tells what it was given.
abbrev pub IsToldOf : Sent → Type 0
IsToldOf x = IsSome x.given

-- The link of an incarnation of s was given just what that heard.
abbrev pub IsGivenAll : Config → List ℕ → ℕ → List CellEvent → Sent → Type 0
IsGivenAll C seed s J x = x.given ≡ Some (heard C seed s x.incarnation J)

-- One link for each incarnation of s that was booted, the last one first, and each was given just what its incarnation heard.
pub record AreGivenAll (C : Config) (seed : List ℕ) (s : ℕ) (J : List CellEvent) (sent : List Sent) : Type 0 where
  pub all : map (λ (x : Sent). x.incarnation) sent ≡ all_booted J
  pub each : Each (IsGivenAll C seed s J) sent
