use Rattle.std.proofs.Common.{◌≡◌, ◌-◌, ◌++◌, length}
use Rattle.monitor_model.specs.Pubd.{current_from}
use Rattle.pubd_core.proofs.pubd.Pubd.currents_for.Given as goal

abbrev pub invariant-loop-i : goal.invariant-loop-i
invariant-loop-i l = l.found.items ++ current_from l.self.config l.self.past l.service l.i (length l.self.config.templates - l.i) ≡ current_from l.self.config l.self.past l.service 0 (length l.self.config.templates)
