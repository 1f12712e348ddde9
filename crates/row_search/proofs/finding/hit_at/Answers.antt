use Rattle.std.proofs.Common.{◌∙◌, ap, List, Option}
use Rattle.std.specs.Prelude.{option_map}
use Rattle.okws_base.specs.declared.value.Value.{Value}
use Rattle.okws_plan.specs.Meaning.{meets_all}
use Rattle.row_index.specs.Few.{if_any}
use Rattle.row_search.specs.Hits.{passing}
use Rattle.row_search.proofs.finding.hit_at.Goals as goal

pub returns-in-None : goal.returns-in-None
returns-in-None c =
    ap (λ (row : Option (List Value)). if_any (option_map (λ (r : List Value). (c.args.place, r)) row)) (c.in-None.ensures ∙ ap (passing (meets_all c.args.args.now c.args.conditions.now)) c.get.ensures)

pub returns-in-Some : goal.returns-in-Some
returns-in-Some c =
    ap (λ (row : Option (List Value)). if_any (option_map (λ (r : List Value). (c.args.place, r)) row)) (c.in-Some.ensures ∙ ap (passing (meets_all c.args.args.now c.args.conditions.now)) c.get.ensures)
