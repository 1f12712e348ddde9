use Rattle.std.proofs.Common.{◌≡◌, ◌∙◌}
use Rattle.service_cell.proofs.Fitting.{rows_fit}
use Rattle.service_cell.proofs.telling.told_rows.Goals as goal

pub told_verdict-requires : goal.told_verdict-requires
told_verdict-requires g c =
    let width = g.P.Pinned.width c.args.pin in
    let rows = g.P.Pinned.rows c.args.pin in
    let as_wide : c.columns.result ≡ width = c.columns.ensures ∙ c.finish.ensures.width in
    let copied : c.in_ok-rows-in-Rows.rows ≡ rows = c.in_ok-rows-in-Rows.ensures ∙ c.finish.ensures.rows in
    rw (as_wide, copied) (rows_fit width rows c.finish.ensures.wide c.in-Rows.ensures.verdict.1 c.requires)
