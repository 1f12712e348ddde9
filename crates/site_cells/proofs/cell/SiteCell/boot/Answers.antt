use Rattle.std.proofs.Common.{◌≡◌, ◌<◌, ap, subst, sym}
use Rattle.frame_codec.specs.declared.frame.ServerFrame.TheVariants as frame
use Rattle.monitor_model.specs.Cell.{last_booted}
use Rattle.okws_outer.specs.Families.{IsNewLink}
use Rattle.site_cells.specs.Held.{Held}
use Rattle.site_cells.proofs.Shut.{keeps_boot, still_shut}
use Rattle.site_cells.proofs.cell.SiteCell.boot.Goals as goal

pub invariant_of-self : goal.invariant_of-self
invariant_of-self g c =
    let n = g.N.Numbered.launcher in
    let later = subst (λ (h : Held). last_booted h.standing.past < c.args.number) (sym c.self.view_is) c.requires.later in
    let new_link = subst (λ (h : Held). IsNewLink h.standing.service c.args.number (g.L.Link.wire c.args.link)) (sym c.self.view_is) c.requires.link in
    let keeps = keeps_boot n g.L.Link.wire c.args.link (frame.Boot c.self.inside.cell.service c.args.number c.args.tokens) c.args.number c.self.inside.entered c.self.inside.cell c.boot-booting.result c.boot-booting.new.self later new_link c.boot-booting.ensures in
    rw (c.enter_boot.ensures) (still_shut g.N.Numbered.site g.N.Numbered.run_seed n n c.self.inside.entered _ c.self.inside.cell c.boot-booting.new.self c.self.invariant keeps)

pub returns-clause-adds : goal.returns-clause-adds
returns-clause-adds g c =
    let there : c.self.inside.entered ≡ c.args.self.now.entered = ap (λ (h : Held). h.entered) c.self.view_is in
    let later = subst (λ (h : Held). last_booted h.standing.past < c.args.number) (sym c.self.view_is) c.requires.later in
    let new_link = subst (λ (h : Held). IsNewLink h.standing.service c.args.number (g.L.Link.wire c.args.link)) (sym c.self.view_is) c.requires.link in
    let keeps = keeps_boot g.N.Numbered.launcher g.L.Link.wire c.args.link (frame.Boot c.self.inside.cell.service c.args.number c.args.tokens) c.args.number c.self.inside.entered c.self.inside.cell c.boot-booting.result c.boot-booting.new.self later new_link c.boot-booting.ensures in
    rw (c.requires.holder, sym there, c.enter_boot.ensures) keeps.adds

pub returns-clause-past : goal.returns-clause-past
returns-clause-past g c =
    let later = subst (λ (h : Held). last_booted h.standing.past < c.args.number) (sym c.self.view_is) c.requires.later in
    let new_link = subst (λ (h : Held). IsNewLink h.standing.service c.args.number (g.L.Link.wire c.args.link)) (sym c.self.view_is) c.requires.link in
    let keeps = keeps_boot g.N.Numbered.launcher g.L.Link.wire c.args.link (frame.Boot c.self.inside.cell.service c.args.number c.args.tokens) c.args.number c.self.inside.entered c.self.inside.cell c.boot-booting.result c.boot-booting.new.self later new_link c.boot-booting.ensures in
    rw (c.enter_boot.ensures) (keeps.past_is c.self.invariant.past_is)
