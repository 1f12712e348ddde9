use Rattle.std.proofs.Common.{◌≡◌, ap, sym}
use Rattle.site_cells.specs.Held.{Held}
use Rattle.site_cells.proofs.Shut.{keeps_dialog, still_shut}
use Rattle.site_cells.proofs.cell.SiteCell.dialog.Goals as goal

pub invariant_of-self : goal.invariant_of-self
invariant_of-self g c =
    let n = g.N.Numbered.launcher in
    let keeps = keeps_dialog n (g.C.Columns.asker c.args.columns.now) (g.C.Columns.shows c.speak-spoken.new.columns c.self.inside.cell.service) c.args.head c.args.content c.args.wanted
    c.self.inside.entered c.self.inside.cell (g.C.Columns.seen c.args.columns.now) c.speak-spoken.result c.speak-spoken.new.cell (g.C.Columns.seen c.speak-spoken.new.columns) c.keeps.ensures.law c.requires.wanted c.speak-spoken.ensures.dialogs in
    rw (c.enter_dialog.ensures) (still_shut g.N.Numbered.site g.N.Numbered.run_seed n (g.C.Columns.asker c.args.columns.now).worker c.self.inside.entered _ c.self.inside.cell c.speak-spoken.new.cell c.self.invariant keeps)

pub returns-clause-adds : goal.returns-clause-adds
returns-clause-adds g c =
    let there : c.self.inside.entered ≡ c.args.self.now.entered = ap (λ (h : Held). h.entered) c.self.view_is in
    let keeps = keeps_dialog g.N.Numbered.launcher (g.C.Columns.asker c.args.columns.now) (g.C.Columns.shows c.speak-spoken.new.columns c.self.inside.cell.service) c.args.head c.args.content c.args.wanted
    c.self.inside.entered c.self.inside.cell (g.C.Columns.seen c.args.columns.now) c.speak-spoken.result c.speak-spoken.new.cell (g.C.Columns.seen c.speak-spoken.new.columns) c.keeps.ensures.law c.requires.wanted c.speak-spoken.ensures.dialogs in
    rw (sym c.requires.holder, sym there, c.enter_dialog.ensures) keeps.adds

pub returns-clause-past : goal.returns-clause-past
returns-clause-past g c =
    let keeps = keeps_dialog g.N.Numbered.launcher (g.C.Columns.asker c.args.columns.now) (g.C.Columns.shows c.speak-spoken.new.columns c.self.inside.cell.service) c.args.head c.args.content c.args.wanted
    c.self.inside.entered c.self.inside.cell (g.C.Columns.seen c.args.columns.now) c.speak-spoken.result c.speak-spoken.new.cell (g.C.Columns.seen c.speak-spoken.new.columns) c.keeps.ensures.law c.requires.wanted c.speak-spoken.ensures.dialogs in
    rw (c.enter_dialog.ensures) (keeps.past_is c.self.invariant.past_is)
