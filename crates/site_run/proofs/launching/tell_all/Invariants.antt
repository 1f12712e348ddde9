use Rattle.std.proofs.Common.{◌≡◌, ◌<◌, ℕ, []}
use Rattle.std.specs.Prelude.{vec_capacity}
use Rattle.okws_base.specs.Turns.{of}
use Rattle.launch_turns.specs.Deeds.{by_deed}
use Rattle.site_run.specs.Opening.{AllSeeMore, AreQuiet, seen_first}
use Rattle.site_run.proofs.launching.tell_all.Given as goal

abbrev pub invariant-loop-number : goal.invariant-loop-number
invariant-loop-number g l = record {
  from : 0 < l.number;
  more : AllSeeMore l.fn.turns.items l.turns.items;
  first : seen_first l.turns.items ≡ seen_first l.fn.turns.items;
  room : vec_capacity l.turns ≡ vec_capacity l.fn.turns;
  told : AreQuiet 0 l.fn.turns.items → (k : ℕ) → 0 < k → k < l.number → of by_deed k (seen_first l.turns.items) ≡ [];
}
