use Rattle.std.proofs.Common.{◌≡◌, flat_map, take}
use Rattle.okws_plan.specs.Meaning.{hits, joined_to}
use Rattle.row_search.specs.Places.{rows_of}
use Rattle.row_search.specs.declared.finding.Hit.{Hit}
use Rattle.index_keeper.proofs.joining.all_joined.Given as goal

abbrev pub invariant-loop-hit : goal.invariant-loop-hit
invariant-loop-hit g l =
    l.out.items ≡ flat_map (λ (h : Hit). hits l.args l.conditions (joined_to l.width l.join (rows_of l.second.entries) h.row.now)) (take l.hit-index l.rows)
