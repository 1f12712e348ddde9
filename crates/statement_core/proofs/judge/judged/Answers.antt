use Rattle.std.proofs.Common.{◌∙◌, ap}
use Rattle.statement_core.specs.Resolving.{Judged, judged_on, parts_judged, columns_judged}
use Rattle.statement_core.proofs.judge.judged.Goals as goal

pub returns : goal.returns
unfolding judged_on
returns c =
    c.parts.ensures ∙ ap (λ (j : Judged). parts_judged j c.args.form.now) (c.columns.ensures ∙ ap (λ (j : Judged). columns_judged c.args.columns.now j c.args.form.now) c.in_ok-judge.ensures)
