use Rattle.std.proofs.Common.{◌≡◌, ◌+◌, ℕ, take}
use Rattle.okws_plan.specs.Meaning.{meets_all}
use Rattle.row_index.specs.Places.{row_at}
use Rattle.row_search.specs.Hits.{entries_of, entries_at}
use Rattle.row_search.proofs.finding.met_among.Given as goal

abbrev pub invariant-loop-place : goal.invariant-loop-place
invariant-loop-place g l = record {
  entries : entries_of l.hits.items ≡ entries_at (meets_all l.args l.conditions) (λ (p : ℕ). row_at l.rows.entries p) (take l.place-index l.places);
  counted : l.steps ≡ l.initial.steps + l.place-index;
}
