use Rattle.std.proofs.Common.{subst, sym}
use Rattle.std.specs.List.Sorted.{IsStrictlySortedBy}
use Rattle.std.specs.Ordering.{nat_cmp}
use Rattle.row_index.specs.GroupPlaces.{places_listed}
use Rattle.row_index.specs.declared.places.Places.{Places}
use Rattle.row_index.proofs.Leaving.{one_sorted}
use Rattle.row_index.proofs.places.Places.has_any.Goals as goal

pub returns-in-Sole-clause-ordered : goal.returns-in-Sole-clause-ordered
returns-in-Sole-clause-ordered c = subst (λ (places : Places). IsStrictlySortedBy nat_cmp (places_listed places)) (sym c.in-Sole.is) (one_sorted c.in-Sole.field-0)
