use Rattle.std.proofs.Common.{sym, subst, List}
use Rattle.row_index.specs.Stands.{IsRising}
use Rattle.row_index.specs.declared.placed.Stand.{Stand}
use Rattle.row_index.proofs.Stands.{none_rise}
use Rattle.row_index.proofs.placed.PlacedRows.new.Goals as goal

pub invariant_of-result : goal.invariant_of-result
invariant_of-result c = subst (λ (stands : List Stand). IsRising stands 0) (sym c.new.ensures.items) none_rise
