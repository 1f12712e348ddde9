use Rattle.std.proofs.Common.{◌≡◌, ◌<◌, ℕ}
use Rattle.std.specs.Prelude.{vec_capacity}
use Rattle.okws_base.specs.Turns.{GrowsBy}
use Rattle.launch_turns.specs.Deeds.{by_deed}
use Rattle.site_run.specs.Meeting.{AllBooted, AllGo, SeesCells}
use Rattle.site_run.proofs.meeting.meet_cells.Given as goal

abbrev pub invariant-loop-service : goal.invariant-loop-service
invariant-loop-service g l = record {
  seat : l.seat ≡ record l.fn.seat { seen = l.seat.seen };
  grows : GrowsBy by_deed l.fn.seat.number l.fn.seat.seen l.seat.seen;
  met : AllGo (SeesCells g.N.Numbered.launcher) l.fn.rows.items l.rows.items;
  booted : (s : ℕ) → s < l.service → AllBooted s l.fn.seat.seen l.rows.items;
  room : vec_capacity l.rows ≡ vec_capacity l.fn.rows;
}
