use Rattle.std.proofs.Common.{◌≡◌, ◌++◌, map, take}
use Rattle.okws_plan.specs.Meaning.{laid, hits}
use Rattle.row_search.specs.declared.finding.Hit.{Hit}
use Rattle.index_keeper.proofs.joining.push_pairs.Given as goal

abbrev pub invariant-loop-other : goal.invariant-loop-other
invariant-loop-other l = l.out.items ≡ l.initial.out.items ++ hits l.args l.conditions (map (λ (h : Hit). laid l.width l.row h.row.now) (take l.other-index l.others))
