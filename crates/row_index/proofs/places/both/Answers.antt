use Rattle.std.proofs.Common.{ℕ}
use Rattle.row_index.proofs.Listed.{both_there}
use Rattle.row_index.proofs.places.both.Goals as goal

pub returns : goal.returns
returns c = λ (p : ℕ). both_there c.args.a c.args.b p c.new-places.result.keys c.insert.new.self.keys c.insert-2.new.self.keys c.new-places.ensures.empty (c.in_ok-insert.ensures.updates.0 p) (c.in_ok-insert-2.ensures.updates.0 p)
