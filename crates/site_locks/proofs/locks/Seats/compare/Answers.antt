use Rattle.std.proofs.Common.{◌≤◌, subst}
use Rattle.std.specs.Prelude.{slice_index}
use Rattle.site_locks.specs.Sat.{Sat}
use Rattle.site_locks.proofs.locks.Seats.compare.Goals as goal

pub returns-clause-least : goal.returns-clause-least
returns-clause-least g c s = subst (λ (x : Sat × Sat). slice_index x.0.board s ≤ slice_index x.1.board s) (λ k. (c.other.view_is k, c.self.view_is k)) (c.compare.ensures.least s)
