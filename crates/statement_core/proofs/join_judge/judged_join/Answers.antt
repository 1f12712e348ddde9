use Rattle.std.proofs.Common.{◌≡◌, ◌∙◌, ap, rules}
use Rattle.query_syntax.specs.declared.error.Refusal.{Refusal}
use Rattle.std.specs.Prelude.{Option}
use Rattle.statement_core.specs.Resolving.{Judged, besides, columns_judged, nothing_found}
use Rattle.statement_core.specs.Joining.{join_judged_on, join_excess, joined_select, pair_judged}
use Rattle.statement_core.proofs.join_judge.judged_join.Goals as goal

pub returns : goal.returns
unfolding join_judged_on
returns c =
    let n = c.args.width in
    let columns = c.args.scope.now in
    let s = c.args.select.now in
    let selected : c.selection.new.self ≡ columns_judged columns c.in_ok-judge.judge (joined_select s) = search rules in
    c.meet_fault.ensures
    ∙ ap (λ (found : Option Refusal). besides c.pair.new.self found) c.excess_of_join.ensures
    ∙ ap (λ (j : Judged). besides j (join_excess s)) (c.pair.ensures ∙ ap (λ (j : Judged). pair_judged n c.args.is_one columns j s) (selected ∙ ap (λ (j : Judged). columns_judged columns j (joined_select s)) (c.in_ok-judge.ensures ∙ ap nothing_found c.len.ensures)))
