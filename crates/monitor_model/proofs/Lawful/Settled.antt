-- A cell whose dialog ended, or that was retired, and of which nothing may be left.
use Rattle.std.proofs.Common.{◌≢◌, Bool, true, false, cond, List, [], ◌∷◌, Option, None, ◌==◌, ne_eqb, subst, sym}
use Rattle.monitor_model.specs.declared.record.CellEvent.{CellEvent}
use Rattle.monitor_model.specs.declared.record.CellEvent.TheVariants as cell
use Rattle.monitor_model.specs.declared.record.End.{End}
use Rattle.monitor_model.specs.declared.record.Item.{Item}
use Rattle.monitor_model.specs.Cell.{incarnation}
use Rattle.monitor_model.specs.Stage.{Stand, Opened}
use Rattle.monitor_model.specs.Script.{settled}

-- The cell once its open dialog ended, with its link as it was.
abbrev pub closed_there : List Item → End → Stand → Stand
closed_there items how there = record there { past = cell.Dialog (record { worker = 0; items = items; end = how; due = [] }) ∷ there.past; open_dialog = None }

-- The cell once it is retired.
abbrev pub retired_there : Stand → Stand
retired_there there = record there { past = cell.Retired ∷ there.past; left = []; has_ended = false }

-- what holds of a cell with its link and without holds of the settled one
pub settled_when : (P : Stand → Type 0) (there : Stand) → P (record there { left = []; has_ended = false }) → P there → P (settled there)
settled_when P there gone here =
    elim (incarnation there.past == 0) as (λ v. P (cond v (record there { left = []; has_ended = false }) there)) [ true ↦ gone | false ↦ here ]

-- the events and the open dialog are the same
pub settled_keeps : (P : List CellEvent → Option Opened → Type 0) (there : Stand) → P there.past there.open_dialog → P (settled there).past (settled there).open_dialog
settled_keeps P there here = settled_when (λ (x : Stand). P x.past x.open_dialog) there here here

-- the incarnation is there
pub settled_here : (P : Stand → Type 0) (there : Stand) → incarnation there.past ≢ 0 → P there → P (settled there)
settled_here P there some here =
    subst (λ (v : Bool). P (cond v (record there { left = []; has_ended = false }) there)) (sym (ne_eqb (incarnation there.past) 0 some)) here
