use Rattle.std.proofs.Common.{ℕ, ap, subst}
use Rattle.monitor_model.specs.Seen.{Seen}
use Rattle.service_cell.specs.Asking.{Asker}
use Rattle.service_cell.specs.Dialogs.{Dialogs}
use Rattle.service_cell.specs.Standing.{Standing}
use Rattle.service_cell.proofs.Talking.{board_then}
use Rattle.site_cells.proofs.cell.speak.Goals as goal

pub returns-clause-dialogs : goal.returns-clause-dialogs
returns-clause-dialogs g c =
    let shows = λ (s : Standing). g.H.Columns.shows c.dialog.new.columns s.service in
    let now = g.H.Columns.seen c.dialog.new.columns in
    let ends = λ (who : Asker) (J : Seen) (s : Standing). Dialogs who (shows s) c.args.head c.args.content c.args.wanted s J c.dialog.result c.dialog.new.self now in
    subst (λ (who : Asker). ends who (g.H.Columns.seen c.args.columns.now) c.args.cell.now) c.prepare.ensures.board.asked
    (subst (λ (J : Seen). ends (g.H.Columns.asker c.prepare.new.columns) J c.args.cell.now) c.prepare.ensures.seen
    (subst (λ (s : Standing). ends (g.H.Columns.asker c.prepare.new.columns) (g.H.Columns.seen c.prepare.new.columns) s) c.prepare.ensures.cell c.dialog.ensures.dialogs))

pub returns-clause-board : goal.returns-clause-board
returns-clause-board g c =
    board_then g.H.Columns.asker g.H.Columns.shows g.H.Columns.token_seed g.H.Columns.spare g.H.Columns.may_ask c.args.columns.now c.prepare.new.columns c.dialog.new.columns c.prepare.ensures.board c.dialog.ensures.board
