use Rattle.std.specs.Prelude.{[]}
use Rattle.site_cells.proofs.Shut.{keeps_dialog}
use Rattle.cell_tests.proofs.whole.talk.Goals as goal

pub returns : goal.returns
returns g c =
    let keeps = keeps_dialog 0 (g.C.Columns.asker c.args.columns.now) (g.C.Columns.shows c.dialog.new.columns c.args.cell.now.service) c.of-head.result c.of-content.result c.args.wanted []
    c.args.cell.now (g.C.Columns.seen c.args.columns.now) c.dialog.result c.dialog.new.self (g.C.Columns.seen c.dialog.new.columns) c.keeps.ensures.law c.requires.wanted c.dialog.ensures.dialogs in
    (keeps.open_is c.requires.closed, keeps.service_is)
