use Rattle.std.proofs.Common.{◌≤◌, ◌+◌, length}
use Rattle.okws_outer.specs.Printing.{printer}
use Rattle.play_script.specs.Reading.{script_reads}
use Rattle.okws_server.proofs.ScriptLines.{ComesTo}
use Rattle.okws_server.proofs.script.play_lines.Given as goal

abbrev pub invariant-loop-rest : goal.invariant-loop-rest
invariant-loop-rest g l = record {
  so_far : ComesTo l.config l.fn.play l.play (script_reads l.config l.text) (script_reads l.config l.rest) l.number (printer g.O.Sink.given g.O.Sink.faults l.fn.out l.fn.stopped) (printer g.O.Sink.given g.O.Sink.faults l.out l.stopped);
  short : l.number + length l.rest ≤ length l.text;
}

abbrev pub decreases-loop-rest : goal.decreases-loop-rest
decreases-loop-rest g l = length l.rest
