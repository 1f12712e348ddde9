use Rattle.std.proofs.Common.{◌∙◌, sym}
use Rattle.okws_server.proofs.Ends.{ends_console, ends_log, ends_starved, ends_well}
use Rattle.okws_server.proofs.server.print_end.Goals as goal

pub returns-then-lacks_memory : goal.returns-then-lacks_memory
returns-then-lacks_memory g c = ends_starved c.args.ran.now c.args.missed c.args.lost _ _ _ (sym c.lacks_memory.ensures ∙ c.if-lacks_memory.true) c.print.ensures

pub returns-then-lacks_log : goal.returns-then-lacks_log
returns-then-lacks_log g c = ends_log c.args.ran.now c.args.missed c.args.lost _ _ _ _ (sym c.lacks_memory.ensures ∙ c.if-lacks_memory.false) (sym c.lacks_log.ensures ∙ c.if-lacks_log.true) c.print_counts.ensures c.print-then-lacks_log.ensures

pub returns-then-ran : goal.returns-then-ran
returns-then-ran g c = ends_console c.args.ran.now c.args.missed c.args.lost _ _ _ _ (sym c.lacks_memory.ensures ∙ c.if-lacks_memory.false) (sym c.lacks_log.ensures ∙ c.if-lacks_log.false) c.if-ran.true c.print_counts.ensures c.print-then-ran.ensures

pub returns : goal.returns
returns g c = rw c.out_status.ensures (ends_well c.args.ran.now c.args.missed c.args.lost _ _ _ (sym c.lacks_memory.ensures ∙ c.if-lacks_memory.false) (sym c.lacks_log.ensures ∙ c.if-lacks_log.false) c.if-ran.false c.print_counts.ensures)
