use Rattle.std.proofs.Common.{◌≡◌, ◌≤◌, ◌+◌, ◌++◌, map, length}
use Rattle.monitor_model.specs.declared.record.Own.TheVariants as own
use Rattle.site_run.proofs.launching.note_entered.Given as goal

abbrev pub invariant-loop-event : goal.invariant-loop-event
invariant-loop-event g l = record {
  same : l.seats ≡ record l.fn.seats { own = l.seats.own; spare = l.seats.spare };
  noted : map own.Launcher l.entered ++ l.seats.own ≡ map own.Launcher l.fn.entered ++ l.fn.seats.own;
  spent : l.fn.seats.spare + length l.entered ≡ l.seats.spare + length l.fn.entered;
  room : length l.entered ≤ l.seats.spare;
}

abbrev pub decreases-loop-event : goal.decreases-loop-event
decreases-loop-event g l = length l.entered
