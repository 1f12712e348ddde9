use Rattle.std.proofs.Common.{◌≡◌, drop}
use Rattle.statement_core.specs.Resolving.{values_judged}
use Rattle.statement_core.proofs.judge.Judge.values.Given as goal

abbrev pub invariant-loop-i : goal.invariant-loop-i
invariant-loop-i l = values_judged l.columns l.i l.self (drop l.i l.values) ≡ values_judged l.columns 0 l.fn.self l.values
