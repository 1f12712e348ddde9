-- A run's cells and requests, and how a script's state sees them.
use Rattle.std.specs.Prelude.{◌≡◌, ◌≢◌, ◌≤◌, ◌<◌, ℕ, ◌+◌, true, false, List, [], ◌∷◌, Option, Some, None, ◌==◌, if◌then◌else◌, length, map, IfSome, IsSome, is_some, unwrap_or, slice_index_or}
use Rattle.okws_base.specs.Runs.{Each}
use Rattle.okws_base.specs.declared.limit.TheConstants.{LONGEST_FRAME}
use Rattle.okws_plan.specs.declared.configuration.Config.{Config}
use Rattle.okws_outer.specs.Wire.{Wire}
use Rattle.monitor_model.specs.declared.record.CellEvent.{CellEvent}
use Rattle.monitor_model.specs.declared.record.CellEvent.TheVariants as cell
use Rattle.monitor_model.specs.declared.sent.Sent.{Sent}
use Rattle.monitor_model.specs.Played.{with_open}
use Rattle.monitor_model.specs.declared.record.End.{End}
use Rattle.monitor_model.specs.Cell.{incarnation}
use Rattle.monitor_model.specs.Sent.{AreSent, IsToldOf}
use Rattle.monitor_model.specs.Stage.{Stand, Opened, Asked, empty_stand}
use Rattle.monitor_model.specs.Script.{settled}
use Rattle.service_cell.specs.Standing.{Open, Standing, ended_of}

-- What is left to come in on a cell's link, nothing where it has none.
abbrev pub left_on : Option Wire → List ℕ
left_on None = []
left_on (Some wire) = unwrap_or wire.left []

-- An open dialog, by the number of its request.
abbrev pub opened_by : Option Open → Option Opened
opened_by None = None
opened_by (Some o) = Some (record { request = o.request; items = o.items })

-- A cell over its link as a script's state sees it: where it has no incarnation, nothing is left on its link, and no end stands there.
abbrev pub stand_by : Standing → Stand
stand_by c = record {
  past = c.past;
  left = if incarnation c.past == 0 then [] else left_on c.link;
  has_ended = if incarnation c.past == 0 then false else ended_of c.link;
  open_dialog = opened_by c.open_dialog;
}

-- All cells, in the order of the services.
abbrev pub stands_by : List Standing → List Stand
stands_by cells = map stand_by cells

-- The cell of a service, in the order of the services.
abbrev pub stand_at : List Stand → ℕ → Stand
stand_at stands s = slice_index_or stands s empty_stand

-- The cell after an open dialog ended so.
abbrev pub closed_stand : Stand → Opened → End → Stand
closed_stand there opened how = settled (record there { past = cell.Dialog (record { worker = 0; items = opened.items; end = how; due = [] }) ∷ there.past; open_dialog = None })

-- The cell after a fresh link got Boot of k.
abbrev pub booted_stand : Stand → ℕ → Stand
booted_stand there k = record { past = cell.Boot k ∷ there.past; left = []; has_ended = false; open_dialog = None }

-- These are bytes.
abbrev pub AreBytes : List ℕ → Type 0
AreBytes bytes = (i : ℕ) → slice_index_or bytes i 0 < 256

-- A link in memory: none of its calls fails, and it tells which bytes are left on it, and what it was given.
pub record IsWired (wire : Wire) : Type 0 where
  pub steady : wire.steady ≡ true
  pub left : IsSome wire.left
  pub bytes : AreBytes (unwrap_or wire.left [])
  pub given : IsSome wire.given

-- So is a cell's link, where it has one.
abbrev pub IsLinked : Option Wire → Type 0
IsLinked None = Unit {0}
IsLinked (Some wire) = IsWired wire

-- An open dialog is worker 0's.
abbrev pub IsOwn : Option Open → Type 0
IsOwn None = Unit {0}
IsOwn (Some o) = o.worker ≡ 0

-- A cell of a run: that of service s of its site, under its seed, over a link in memory; its open dialog is worker 0's, and each link that it had tells what it was given.
pub record IsSeat (C : Config) (seed : List ℕ) (s : ℕ) (c : Standing) : Type 0 where
  pub config_is : c.config ≡ C
  pub seed_is : c.seed ≡ seed
  pub service_is : c.service ≡ s
  pub there : incarnation c.past ≢ 0 → IsSome c.link
  pub linked : IsLinked c.link
  pub own : IsOwn c.open_dialog
  pub sent : Each IsToldOf c.sent

-- The cells of a run, from that of service s on.
abbrev pub AreSeats : Config → List ℕ → ℕ → List Standing → Type 0
AreSeats C seed s [] = Unit {0}
AreSeats C seed s (c ∷ more) = IsSeat C seed s c × AreSeats C seed (s + 1) more

-- What a cell leaves.
abbrev pub past_of : Stand → List CellEvent
past_of there = with_open there.open_dialog there.past

-- What the cells from that of service s on leave: of each, that its links were given what its incarnations heard, and that they tell it.
abbrev pub AreClosed : Config → List ℕ → ℕ → List (List CellEvent) → List (List Sent) → Type 0
AreClosed C seed s [] [] = Unit {0}
AreClosed C seed s [] (sent ∷ sents) = ⊥
AreClosed C seed s (past ∷ pasts) [] = ⊥
AreClosed C seed s (past ∷ pasts) (sent ∷ sents) = AreSent C seed s past sent × Each IsToldOf sent × AreClosed C seed (s + 1) pasts sents

-- What cells that stand so leave, that of service 0 first.
pub record AreLeft (C : Config) (seed : List ℕ) (stands : List Stand) (pasts : List (List CellEvent)) (sents : List (List Sent)) : Type 0 where
  pub pasts_are : pasts ≡ map past_of stands
  pub closed : AreClosed C seed 0 pasts sents

-- A request's frame is no longer than a frame may be; where it goes to an incarnation, that is one of a declared service.
pub record FitsRequest (C : Config) (asked : Asked) : Type 0 where
  pub short : length asked.head + length asked.content + 9 ≤ LONGEST_FRAME
  pub goes : IfSome asked.goes (λ (at : ℕ × ℕ). (at.0 < length C.services) × (0 < at.1))

-- A greater measure is left before each step of a cell: the bytes on its link while a dialog is open.
abbrev pub left_to_do : Stand → ℕ
left_to_do there = if is_some there.open_dialog then length there.left + 1 else 0
