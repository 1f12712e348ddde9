use Rattle.std.proofs.Common.{◌≡◌, ◌≤◌, ◌+◌, ◌++◌, map, reverse, length}
use Rattle.std.specs.Prelude.{vec_len, vec_capacity}
use Rattle.site_cells.specs.Closing.{AllCellsGrow}
use Rattle.site_cells.specs.Row.{Rise}
use Rattle.turn_lock.specs.Rows.{NoneFrom}
use Rattle.site_cells.specs.Held.{by_event}
use Rattle.site_run.specs.Journals.{AllCells}
use Rattle.site_run.proofs.closing.end_cells.Given as goal

abbrev pub invariant-loop-cell : goal.invariant-loop-cell
invariant-loop-cell g l = record {
  none : NoneFrom (by_event g.N.Numbered.launcher) l.count (l.end.events.items ++ reverse (map (λ c. c.standing.past) l.cells.items));
  grown : AllCellsGrow g.N.Numbered.launcher l.fn.seats.items (l.end.events.items ++ reverse (map (λ c. c.standing.past) l.cells.items));
  numbered : Rise (length l.end.events.items) (reverse (map (λ c. c.standing.service) l.cells.items));
  laws : AllCells g.N.Numbered.site g.N.Numbered.run_seed 0 l.end.events.items l.end.sents.items;
  many : vec_len l.cells + vec_len l.end.events ≡ length g.N.Numbered.site.services;
  alike : vec_len l.end.sents ≡ vec_len l.end.events;
  events_room : length g.N.Numbered.site.services ≤ vec_capacity l.end.events;
  sents_room : length g.N.Numbered.site.services ≤ vec_capacity l.end.sents;
}

abbrev pub decreases-loop-cell : goal.decreases-loop-cell
decreases-loop-cell g l = length l.cells.items
