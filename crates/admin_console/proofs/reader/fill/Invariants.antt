use Rattle.std.proofs.Common.{◌≤◌, ◌-◌, length, vec_capacity}
use Rattle.admin_console.proofs.Taking.{Took}
use Rattle.admin_console.proofs.reader.fill.Given as goal

abbrev pub invariant-loop-piece : goal.invariant-loop-piece
invariant-loop-piece g l = record {
  took : Took (g.C.Conn.wire l.fn.console) (g.C.Conn.wire l.console) l.into.items;
  room : l.size ≤ vec_capacity l.into;
  within : length l.into.items ≤ l.size;
}

abbrev pub decreases-loop-piece : goal.decreases-loop-piece
decreases-loop-piece g l = l.size - length l.into.items
