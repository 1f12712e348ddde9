use Rattle.std.proofs.Common.{subst, ◌≤◌, ℕ, List}
use Rattle.row_index.specs.Index.{IsIndex}
use Rattle.index_keeper.proofs.rows.TableRows.change.Goals as goal

pub invariant_of-self : goal.invariant_of-self
invariant_of-self c = record {
  rising = c.apply.ensures.rising c.self.invariant.rising;
  index = subst (λ (columns : List ℕ). IsIndex columns c.apply.new.rows.entries c.apply.new.slots) c.deref.ensures.value c.apply.ensures.index;
  free = λ (p : ℕ) h. c.apply.ensures.none p (c.self.invariant.free p (subst (λ (n : ℕ). n ≤ p) c.apply.ensures.next h));
}
