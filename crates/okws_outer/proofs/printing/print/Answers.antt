use Rattle.std.proofs.Common.{rules, arith}
use Rattle.std.proofs.lemmas.Grind.{common_steps}
use Rattle.okws_outer.proofs.Printed.{prints_done, prints_cut}
use Rattle.okws_outer.proofs.printing.print.Goals as goal

pub returns-in-Done : goal.returns-in-Done
returns-in-Done g c = record {
  prints = prints_done _ _ _ c.args.stopped.now (grind (arith, common_steps)) c.in-Done.ensures.bytes;
  counts = search rules;
}

pub returns-in-Stopped : goal.returns-in-Stopped
returns-in-Stopped g c = record {
  prints = prints_cut _ _ _ c.args.stopped.now c.in-Stopped.field-0 (grind (arith, common_steps)) c.in-Stopped.ensures.bytes.0 c.in-Stopped.ensures.bytes.1;
  counts = search rules;
}
