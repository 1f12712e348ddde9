use Rattle.std.proofs.Common.{◌≡◌, ◌∙◌, ℕ, List, IfOk, None, ap, subst}
use Rattle.std.specs.Prelude.{filter, map}
use Rattle.okws_base.specs.declared.value.Value.{Value}
use Rattle.okws_plan.specs.Meaning.{meets_all}
use Rattle.row_index.specs.Few.{listed}
use Rattle.row_index.specs.Changes.{changes_to}
use Rattle.row_index.specs.declared.changing.Change.{Change}
use Rattle.row_search.specs.declared.finding.Hit.{Hit}
use Rattle.index_keeper.proofs.Hits.{removals_are}
use Rattle.index_keeper.proofs.rows.TableRows.removals.Goals as goal

pub returns-clause-changes : goal.returns-clause-changes
returns-clause-changes g c =
    let changes : map {B = Change} (λ (h : Hit). record { place = h.place; row = None }) (listed c.in_ok-found.found) ≡ changes_to (λ _. None) (filter (λ (e : ℕ × List Value). meets_all c.args.args.now c.args.conditions.now e.1) c.args.self.now.entries) =
    removals_are (listed c.in_ok-found.found)
    ∙ ap (changes_to (λ _. None)) c.in_ok-found.ensures.entries in
    subst (λ (chs : List Change). IfOk c.removals.result (λ v. listed v ≡ chs)) changes c.removals.ensures
