use Rattle.std.proofs.Common.{◌≡◌}
use Rattle.std.specs.Prelude.{vec_capacity}
use Rattle.site_run.specs.Meeting.{MeetsCell}
use Rattle.site_run.proofs.Taken.{FirstGo}
use Rattle.site_run.proofs.meeting.meet_cell.Given as goal

abbrev pub invariant-loop-number : goal.invariant-loop-number
invariant-loop-number g l = record {
  first : FirstGo (MeetsCell g.N.Numbered.launcher l.fn.note.service l.fn.note.seen) l.number l.fn.rows.items l.rows.items;
  note : l.note ≡ l.fn.note;
  room : vec_capacity l.rows ≡ vec_capacity l.fn.rows;
}
