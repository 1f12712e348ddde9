use Rattle.std.proofs.Common.{◌≡◌, ◌≤◌, ◌+◌, ◌*◌, []}
use Rattle.site_worker.specs.declared.worker.TheConstants.{TURN_ITEMS}
use Rattle.site_run.specs.Opening.{Opens}
use Rattle.site_run.specs.Tied.{OnlyLaunches}
use Rattle.site_run.proofs.Opened.{OpensTo}
use Rattle.site_run.proofs.launching.launch_row.Given as goal

abbrev pub invariant-loop-service : goal.invariant-loop-service
invariant-loop-service g l = record {
  seat : l.seat ≡ record l.fn.seat { seen = l.seat.seen };
  seats : l.seats ≡ record l.fn.seats { own = l.seats.own; spare = l.seats.spare };
  launches : OnlyLaunches l.fn.seat.number l.fn.seats.own l.fn.seat.seen → OnlyLaunches l.fn.seat.number l.seats.own l.seat.seen;
  opens : Opens l.fn.seat.number [] l.fn.seats.own l.fn.seat.seen → OpensTo l.fn.seat.number l.service l.seats.own l.seat.seen;
  enough : l.services * TURN_ITEMS ≤ l.seats.spare + l.service * TURN_ITEMS;
}
