-- A cell behind a lock that is taken in turns.
use Rattle.std.specs.Prelude.{◌≡◌, ◌<◌, ℕ, Bool, true, false, List, [], ◌∷◌, Option, Some, None, IfSome, IsTrue, ◌==◌, if◌then◌else◌, is_some}
use Rattle.okws_outer.specs.Families.{child_named}
use Rattle.okws_outer.specs.Wire.{Wire}
use Rattle.okws_plan.specs.declared.configuration.Config.{Config}
use Rattle.monitor_model.specs.declared.record.CellEvent.{CellEvent}
use Rattle.monitor_model.specs.declared.record.CellEvent.TheVariants as cell
use Rattle.monitor_model.specs.Cell.{heard, incarnation, last_booted}
use Rattle.monitor_model.specs.Sent.{IsGiven, broken_in}
use Rattle.service_cell.specs.Standing.{Standing}
use Rattle.service_cell.specs.declared.answer.Booting.{Booting}
use Rattle.service_cell.specs.declared.answer.Booting.TheVariants as booting
use Rattle.service_cell.specs.declared.answer.Spoken.{Spoken}
use Rattle.service_cell.specs.declared.answer.Spoken.TheVariants as spoken
use Rattle.site_cells.specs.Taken.{HasTaken, IsTaken}

-- The number that an event of a cell names, where number n launches: a Boot and a Retired name the launcher's.
abbrev pub by_event : ℕ → CellEvent → ℕ
by_event n (cell.Boot k) = n
by_event n cell.Retired = n
by_event n (cell.Missed worker wanted is) = worker
by_event n (cell.Dialog d) = d.worker
by_event n (cell.Speaking worker items) = worker

-- The events of a cell, by what was entered at its lock, the newest first: a Retired is one where there was an incarnation. Where a dialog had ended that, it only tells that the link was taken out.
abbrev pub events_in : List CellEvent → List CellEvent
events_in [] = []
events_in (cell.Boot k ∷ E) = cell.Boot k ∷ events_in E
events_in (cell.Retired ∷ E) = if incarnation (events_in E) == 0 then events_in E else cell.Retired ∷ events_in E
events_in (cell.Missed worker wanted is ∷ E) = cell.Missed worker wanted is ∷ events_in E
events_in (cell.Dialog d ∷ E) = cell.Dialog d ∷ events_in E
events_in (cell.Speaking worker items ∷ E) = cell.Speaking worker items ∷ events_in E

-- The last one of the Boots and Retireds is a Boot: a link was given to the cell, and not taken out since.
abbrev pub is_booted : List CellEvent → Bool
is_booted [] = false
is_booted (cell.Boot k ∷ E) = true
is_booted (cell.Retired ∷ E) = false
is_booted (cell.Missed worker wanted is ∷ E) = is_booted E
is_booted (cell.Dialog d ∷ E) = is_booted E
is_booted (cell.Speaking worker items ∷ E) = is_booted E

-- Whether an incarnation was booted.
abbrev pub has_booted : {L : Type 0} → Booting L → Bool
has_booted booting.Booted = true
has_booted (booting.LinkFault link) = false
has_booted (booting.NoMemory link) = false

-- What was entered, once `boot` has answered for incarnation k.
abbrev pub with_boot : {L : Type 0} → Booting L → ℕ → List CellEvent → List CellEvent
with_boot booting.Booted k E = cell.Boot k ∷ E
with_boot (booting.LinkFault link) k E = E
with_boot (booting.NoMemory link) k E = E

-- The last event; a Retired stands for none.
abbrev pub newest : List CellEvent → CellEvent
newest [] = cell.Retired
newest (e ∷ J) = e

-- What was entered, once `dialog` has answered, where e is the last event of the cell: the dialog made it, but where memory was refused.
abbrev pub with_dialog : Spoken → CellEvent → List CellEvent → List CellEvent
with_dialog spoken.Reply e E = e ∷ E
with_dialog (spoken.Crashed why) e E = e ∷ E
with_dialog (spoken.Missed wanted is) e E = e ∷ E
with_dialog (spoken.Superseded k shown) e E = e ∷ E
with_dialog spoken.NoMemory e E = E

-- A cell, the number under which its next event is entered, and what was entered at its lock.
pub record Held : Type 0 where
  pub holder : ℕ
  pub standing : Standing
  pub entered : List CellEvent

-- A dialog of the last incarnation that was booted ended by a fault of its link.
abbrev pub is_broken : List CellEvent → Bool
is_broken J = is_some (broken_in (last_booted J) J)

-- So many faults were counted: some exactly where this says so.
abbrev pub CountsFaults : Bool → ℕ → Type 0
CountsFaults true faults = 0 < faults
CountsFaults false faults = faults ≡ 0

-- The link of a cell with these events counted a fault exactly where one ended a dialog of its incarnation.
abbrev pub HasCounted : List CellEvent → Option Wire → Type 0
HasCounted J link = IfSome link (λ wire. CountsFaults (is_broken J) wire.faults)

-- The link leads to the child of the last incarnation of s that was booted.
abbrev pub LeadsTo : ℕ → List CellEvent → Option Wire → Type 0
LeadsTo s J link = IfSome link (λ wire. wire.whose ≡ Some (child_named s (last_booted J)))

-- The link of the last incarnation of s that was booted leads to its child, was given what that heard, what that said was taken from it, and it counted a fault exactly where one ended a dialog of it.
pub record IsLinkOf (C : Config) (seed : List ℕ) (s : ℕ) (J : List CellEvent) (wire : Wire) : Type 0 where
  pub whose : wire.whose ≡ Some (child_named s (last_booted J))
  pub given : IsGiven (heard C seed s (last_booted J) J) (broken_in (last_booted J) J) wire.given
  pub taken : HasTaken (last_booted J) J wire.came wire.left
  pub faults : CountsFaults (is_broken J) wire.faults

-- A cell of a site and a run's seed, at which no dialog is open. Its past is what was entered, it has its link where it was booted last: that leads to the child of the incarnation, what was said was taken from it, and it has counted its fault.
pub record IsShut (C : Config) (seed : List ℕ) (entered : List CellEvent) (c : Standing) : Type 0 where
  pub closed : c.open_dialog ≡ None
  pub config_is : c.config ≡ C
  pub seed_is : c.seed ≡ seed
  pub past_is : c.past ≡ events_in entered
  pub link_is : is_some c.link ≡ is_booted entered
  pub whose : LeadsTo c.service c.past c.link
  pub counted : HasCounted c.past c.link
  pub taken : IsTaken c.past c.link
