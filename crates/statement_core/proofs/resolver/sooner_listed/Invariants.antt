use Rattle.std.proofs.Common.{◌≡◌, take}
use Rattle.statement_core.specs.Joining.{sooner_of_list}
use Rattle.statement_core.proofs.resolver.sooner_listed.Given as goal

abbrev pub invariant-loop-column : goal.invariant-loop-column
invariant-loop-column l = l.best ≡ sooner_of_list l.tables l.joined l.fn.missing (take l.column-index l.list)
