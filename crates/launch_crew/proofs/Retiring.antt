-- What a turn at one cell leaves of what was seen of all.
use Rattle.std.proofs.Common.{◌≡◌, ◌≢◌, ◌∙◌, ℕ, ◌≤◌, List, [], ◌∷◌, refl, sym, subst, arith}
use Rattle.std.specs.Prelude.{filter, count_by}
use mathlib.Core.Logic.{dite}
use native.Mathlib.Decide.{ℕ_discrete}
use Rattle.okws_base.specs.Turns.{Behind, GrowsBy}
use Rattle.okws_plan.specs.declared.configuration.Config.{Config}
use Rattle.monitor_model.specs.declared.record.CellEvent.{CellEvent}
use Rattle.monitor_model.specs.declared.record.CellEvent.TheVariants as cell
use Rattle.monitor_model.specs.declared.record.Own.{Own}
use Rattle.monitor_model.specs.declared.record.Own.TheVariants as own
use Rattle.monitor_model.specs.Cell.{incarnation}
use Rattle.monitor_model.specs.Launches.{is_launch_event, is_launch_at, with_retired}
use Rattle.monitor_model.specs.Merged.{is_at_cell}
use Rattle.site_cells.specs.Held.{by_event}
use Rattle.site_cells.proofs.Onlys.{only_else}
use Rattle.site_cells.specs.Row.{CellsSeen, OnlyAt, seen_at}
use Rattle.site_locks.specs.Sat.{Sat}
use Rattle.launch_crew.specs.Listed.{of_cells, AreCounted, CellsGo}
use Rattle.launch_crew.specs.Recorded.{Recorded, AreOwn, IsRecorded}
use Rattle.launch_crew.proofs.Found.{behind_cons, launches_counted, found_empty, found_there}
use Rattle.launch_crew.proofs.Owns.{cell_sees}

pub cells_go : (u : ℕ) (w v : CellsSeen) → OnlyAt u w v → Behind (seen_at w u) (seen_at v u) → CellsGo w v
cells_go u w v only here s = dite (ℕ_discrete s u)
    (λ is. subst (λ m. Behind (seen_at w m) (seen_at v m)) (sym is) here)
    (λ apart. ([], only_else u s w v apart only))

pub go_same : (w : CellsSeen) → CellsGo w w
go_same w s = ([], refl)

-- the launcher's events that a number has seen of a cell are as many as its items there
pub own_counted : (n u : ℕ) (sat : Sat) (w : CellsSeen) (items : List Own) (before : List CellEvent) → AreOwn n sat w items → GrowsBy (by_event n) n (seen_at w u) before → count_by (is_launch_at u) items ≡ count_by is_launch_event before
own_counted n u sat w items before a grows = launches_counted n u before items (cell_sees n u (seen_at w u) before (filter (is_at_cell u) items) grows (a.cells u))

module _ (n u : ℕ) (sat : Sat) (w v : CellsSeen) (items more : List Own) (before : List CellEvent) (only : OnlyAt u w v) (a : AreOwn n sat w items) (grows : GrowsBy (by_event n) n (seen_at w u) before) where
  pub retired_empty : seen_at v u ≡ before → incarnation before ≡ 0 → more ≡ items → more ≡ with_retired (of_cells v.cells) u items
  retired_empty now none same = same ∙ sym (found_empty (of_cells v.cells) u items before (own_counted n u sat w items before a grows) now none)

  pub retired_full : seen_at v u ≡ cell.Retired ∷ before → incarnation before ≢ 0 → more ≡ own.Retired u ∷ items → more ≡ with_retired (of_cells v.cells) u items
  retired_full now some is = is ∙ sym (found_there (of_cells v.cells) u items before (own_counted n u sat w items before a grows) now some)

  pub go_before : seen_at v u ≡ before → CellsGo w v
  go_before now = cells_go u w v only (subst (λ (J : List CellEvent). Behind (seen_at w u) J) (sym now) (grows.0, grows.2))

  pub go_behind : (e : CellEvent) → seen_at v u ≡ e ∷ before → CellsGo w v
  go_behind e now = cells_go u w v only (subst (λ (J : List CellEvent). Behind (seen_at w u) J) (sym now) (behind_cons e (seen_at w u) before (grows.0, grows.2)))

at_most : (a b : ℕ) → a ≡ b → a ≤ b
at_most a b is = omega (arith, is)

pub counted_of : (C : Config) (n : ℕ) (r : Recorded) → IsRecorded C n r → AreCounted r.watch r.own
counted_of C n r h t = at_most (count_by (is_launch_at t) r.own) (count_by is_launch_event (seen_at r.watch t)) (launches_counted n t (seen_at r.watch t) r.own (h.own_is.cells t))
