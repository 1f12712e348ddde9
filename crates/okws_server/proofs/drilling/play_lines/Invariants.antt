use Rattle.okws_server.proofs.DrillLines.{Goes}
use Rattle.okws_server.proofs.drilling.play_lines.Given as goal

abbrev pub invariant-loop-line : goal.invariant-loop-line
invariant-loop-line l = Goes l.fn.play l.fn.lines.items l.yielded l.line-iterator.rest.items l.fn.tally l.tally l.stopped l.play
