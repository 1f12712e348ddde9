use Rattle.std.proofs.Common.{◌≡◌, take}
use Rattle.statement_core.specs.Joining.{list_qualifiers_judged}
use Rattle.statement_core.proofs.judge.Judge.list_qualifiers.Given as goal

abbrev pub invariant-loop-column : goal.invariant-loop-column
invariant-loop-column l = l.self ≡ list_qualifiers_judged l.joined l.fn.self (take l.column-index l.list)
