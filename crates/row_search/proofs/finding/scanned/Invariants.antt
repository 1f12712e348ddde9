use Rattle.std.proofs.Common.{◌≡◌, ◌+◌, ℕ, List, length, take}
use Rattle.std.specs.Prelude.{filter}
use Rattle.okws_base.specs.declared.value.Value.{Value}
use Rattle.okws_plan.specs.Meaning.{meets_all}
use Rattle.row_index.specs.Stands.{standing}
use Rattle.row_search.specs.Hits.{entries_of}
use Rattle.row_search.proofs.finding.scanned.Given as goal

abbrev pub invariant-loop-stand : goal.invariant-loop-stand
invariant-loop-stand g l = record {
  entries : entries_of l.hits.items ≡ filter (λ (e : ℕ × List Value). meets_all l.args l.conditions e.1) (standing (take l.stand-index l.stands));
  counted : l.steps ≡ l.initial.steps + length (standing (take l.stand-index l.stands));
}
