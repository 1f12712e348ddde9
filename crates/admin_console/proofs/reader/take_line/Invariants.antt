use Rattle.std.proofs.Common.{◌≤◌, vec_capacity}
use Rattle.admin_console.specs.declared.reader.TheConstants.{HELD}
use Rattle.admin_console.proofs.Lines.{Holds}
use Rattle.admin_console.proofs.reader.take_line.Given as goal

abbrev pub invariant-loop : goal.invariant-loop
invariant-loop g l = record {
  holds : Holds (g.C.Conn.wire l.fn.console) (g.C.Conn.wire l.console) l.text.items;
  room : HELD ≤ vec_capacity l.text;
}
