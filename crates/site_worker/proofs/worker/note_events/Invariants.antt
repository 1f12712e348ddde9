use Rattle.std.proofs.Common.{◌≡◌, ◌≤◌, ◌+◌, ◌++◌, map, length}
use Rattle.monitor_model.specs.declared.record.Own.TheVariants as own
use Rattle.site_worker.proofs.worker.note_events.Given as goal

abbrev pub invariant-loop-event : goal.invariant-loop-event
invariant-loop-event g l = record {
  same : l.hands ≡ record l.fn.hands { own = l.hands.own; spare = l.hands.spare };
  noted : map own.Launcher l.entered ++ l.hands.own ≡ map own.Launcher l.fn.entered ++ l.fn.hands.own;
  spent : l.fn.hands.spare + length l.entered ≡ l.hands.spare + length l.fn.entered;
  room : length l.entered ≤ l.hands.spare;
}

abbrev pub decreases-loop-event : goal.decreases-loop-event
decreases-loop-event g l = length l.entered
