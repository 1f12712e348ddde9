-- How a server's run ends.
use Rattle.std.proofs.Common.{◌≡◌, ℕ, List, Bool, true, false, refl}
use Rattle.std.specs.Prelude.{◌||◌}
use Rattle.std.specs.declared.option.Option.{Option}
use Rattle.okws_outer.specs.Printing.{Printed, Counted, Printer, PrintsOn}
use Rattle.okws_outer.proofs.Printed.{then_on, printed_first, counted_first}
use Rattle.okws_serve.specs.declared.outfit.Ran.{Ran}
use Rattle.okws_server.specs.Counting.{counts_text}
use Rattle.okws_server.specs.Ending.{no_memory_line, RoseWhere}
use Rattle.okws_server.specs.Ran.{out_status}
use Rattle.okws_server.specs.Served.{EndsAs, console_fault_line, log_fault_line}
use Rattle.okws_server.specs.declared.status.Status.TheVariants as status
use Rattle.okws_server.proofs.Ended.{at_start, told_on}

-- memory was refused to the run, or behind a write of a store
pub ends_starved : (ran : Ran) (missed lost : Bool) (old : Option (List ℕ)) (f : ℕ) (c : Printer) → (ran.starved || lost) ≡ true → PrintsOn (at_start old f) c no_memory_line → EndsAs ran missed lost old c.given (RoseWhere f c.faults) status.NoMemory
ends_starved ran missed lost old f c e p = (e, told_on old f c no_memory_line p)

-- the log failed
pub ends_log : (ran : Ran) (missed lost : Bool) (old : Option (List ℕ)) (f : ℕ) (b c : Printer) → (ran.starved || lost) ≡ false → (missed || ran.log_failed) ≡ true →
    PrintsOn (at_start old f) b (counts_text ran.counts) → PrintsOn b c log_fault_line → EndsAs ran missed lost old c.given (RoseWhere f c.faults) status.LogFault
ends_log ran missed lost old f b c e l p q = (e, l, told_on old f c _ (then_on (at_start old f) b c (counts_text ran.counts) log_fault_line p q))

-- the console failed, and the log did not
pub ends_console : (ran : Ran) (missed lost : Bool) (old : Option (List ℕ)) (f : ℕ) (b c : Printer) → (ran.starved || lost) ≡ false → (missed || ran.log_failed) ≡ false → ran.console_failed ≡ true →
    PrintsOn (at_start old f) b (counts_text ran.counts) → PrintsOn b c console_fault_line → EndsAs ran missed lost old c.given (RoseWhere f c.faults) status.ConsoleFault
ends_console ran missed lost old f b c e l o p q = (e, l, o, told_on old f c _ (then_on (at_start old f) b c (counts_text ran.counts) console_fault_line p q))

ends_at : (ran : Ran) (missed lost : Bool) (old new : Option (List ℕ)) (f k : ℕ) (stopped : Bool) → (ran.starved || lost) ≡ false → (missed || ran.log_failed) ≡ false → ran.console_failed ≡ false →
    Printed old new (counts_text ran.counts) stopped → Counted f k stopped → EndsAs ran missed lost old new (RoseWhere f k) (out_status stopped)
ends_at ran missed lost old new f k true e l o p n = (e, l, o, n.rose refl, p.part)
ends_at ran missed lost old new f k false e l o p n = (e, l, o, p.whole refl, n.still refl)

-- neither failed
pub ends_well : (ran : Ran) (missed lost : Bool) (old : Option (List ℕ)) (f : ℕ) (b : Printer) → (ran.starved || lost) ≡ false → (missed || ran.log_failed) ≡ false → ran.console_failed ≡ false →
    PrintsOn (at_start old f) b (counts_text ran.counts) → EndsAs ran missed lost old b.given (RoseWhere f b.faults) (out_status b.stopped)
ends_well ran missed lost old f b e l o p =
    ends_at ran missed lost old b.given f b.faults b.stopped e l o (printed_first old b.given _ b.stopped p.prints) (counted_first f b.faults b.stopped p.counts)
