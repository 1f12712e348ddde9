use Rattle.std.proofs.Common.{◌≡◌}
use Rattle.play_script.specs.Script.{drill_script}
use Rattle.okws_server.specs.Drill.{Leads}
use Rattle.okws_server.proofs.drilling.play_drill.Given as goal

abbrev pub invariant-loop-place : goal.invariant-loop-place
invariant-loop-place l = record {
  leads : Leads l.fn.play (drill_script l.number l._place) l.fn.tally l.tally l.play;
  drill : l.drill ≡ record { number = l.number; taken = l._place };
}
