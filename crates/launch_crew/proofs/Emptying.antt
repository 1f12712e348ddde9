-- What is known of the crew at the end of a run, where one cell after the other is emptied.
use Rattle.std.proofs.Common.{◌≡◌, ◌∙◌, ℕ, ◌+◌, ◌<◌, ◌≤◌, sym, ap, subst, arith}
use Rattle.std.specs.Prelude.{slice_index}
use mathlib.Core.Logic.{dite}
use native.Mathlib.Decide.{ℕ_discrete}
use Rattle.monitor_model.specs.Cell.{incarnation, last_booted}
use Rattle.site_cells.proofs.Onlys.{only_else}
use Rattle.site_cells.specs.Row.{seen_at}
use Rattle.site_locks.specs.Sat.{Sat}
use Rattle.launch_crew.specs.Crews.{CrewIs, Below, lasts_at}
use Rattle.launch_crew.specs.Steps.{Empties}

pub below_emptied : (u s k : ℕ) (c d : CrewIs) → Empties u c d → Below s k c.sat c.watch → Below s k d.sat d.watch
below_emptied u s k c d h b = record {
  columns = λ at. subst (λ (x : Sat). lasts_at x at s ≤ k) (sym h.sat_is) (b.columns at);
  cell = dite (ℕ_discrete s u)
      (λ is. subst (λ n. last_booted (seen_at d.watch n) ≤ k) (sym is) (subst (λ n. n ≤ k) (sym h.last) (subst (λ n. last_booted (seen_at c.watch n) ≤ k) is b.cell)))
      (λ apart. subst (λ J. last_booted J ≤ k) (sym (only_else u s c.watch d.watch apart h.only)) b.cell);
  board = subst (λ (x : Sat). slice_index x.board s ≤ k) (sym h.sat_is) b.board;
}

pub emptied_so_far : (u : ℕ) (c d : CrewIs) → Empties u c d → ((s : ℕ) → s < u → incarnation (seen_at c.watch s) ≡ 0) → (s : ℕ) → s < u + 1 → incarnation (seen_at d.watch s) ≡ 0
emptied_so_far u c d h before s within = dite (ℕ_discrete s u)
    (λ is. subst (λ n. incarnation (seen_at d.watch n) ≡ 0) (sym is) h.none)
    (λ apart. ap incarnation (only_else u s c.watch d.watch apart h.only) ∙ before s (omega (arith, within, apart)))
