use Rattle.std.proofs.Common.{◌≡◌}
use Rattle.std.specs.Prelude.{vec_capacity}
use Rattle.site_run.specs.Meeting.{MeetsOkd}
use Rattle.site_run.proofs.Taken.{FirstGo}
use Rattle.site_run.proofs.meeting.meet_okd.Given as goal

abbrev pub invariant-loop-number : goal.invariant-loop-number
invariant-loop-number g l = record {
  first : FirstGo (MeetsOkd l.fn.note) l.number l.fn.rows.items l.rows.items;
  note : l.note ≡ l.fn.note;
  room : vec_capacity l.rows ≡ vec_capacity l.fn.rows;
}
