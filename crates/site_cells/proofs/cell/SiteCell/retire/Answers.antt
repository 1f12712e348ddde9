use Rattle.std.proofs.Common.{◌≡◌, ℕ, List, ap, subst, sym, ◌∙◌}
use Rattle.std.specs.Prelude.{IfSome, is_some}
use Rattle.okws_plan.specs.declared.configuration.Config.{Config}
use Rattle.monitor_model.specs.Cell.{last_booted}
use Rattle.monitor_model.specs.Sent.{AreSent}
use Rattle.service_cell.specs.Standing.{all_sent}
use Rattle.site_cells.specs.Held.{Held, IsLinkOf, is_booted}
use Rattle.site_cells.proofs.Shut.{keeps_retired, link_out, some_link, still_shut}
use Rattle.site_cells.proofs.cell.SiteCell.retire.Goals as goal

pub invariant_of-self : goal.invariant_of-self
invariant_of-self g c =
    let n = g.N.Numbered.launcher in
    let keeps = keeps_retired n c.self.inside.entered c.self.inside.cell c.retire.new.self c.retire.ensures.cell in
    rw (c.enter_retired.ensures) (still_shut g.N.Numbered.site g.N.Numbered.run_seed n n c.self.inside.entered _ c.self.inside.cell c.retire.new.self c.self.invariant keeps)

pub returns-clause-there : goal.returns-clause-there
returns-clause-there g c =
    some_link g.L.Link.wire c.retire.result ∙ (ap is_some c.retire.ensures.link ∙ (c.self.invariant.link_is ∙ ap (λ (h : Held). is_booted h.entered) c.self.view_is))

pub returns-clause-adds : goal.returns-clause-adds
returns-clause-adds g c =
    let there : c.self.inside.entered ≡ c.args.self.now.entered = ap (λ (h : Held). h.entered) c.self.view_is in
    let keeps = keeps_retired g.N.Numbered.launcher c.self.inside.entered c.self.inside.cell c.retire.new.self c.retire.ensures.cell in
    rw (c.requires.holder, sym there, c.enter_retired.ensures) keeps.adds

pub returns-clause-holds : goal.returns-clause-holds
returns-clause-holds g c =
    let C = g.N.Numbered.site in
    let seed = g.N.Numbered.run_seed in
    let x = c.self.inside.cell in
    let sent = subst (λ (D : Config). AreSent D seed x.service x.past (all_sent (last_booted x.past) x.link x.sent)) c.self.invariant.config_is
    (subst (λ (t : List ℕ). AreSent x.config t x.service x.past (all_sent (last_booted x.past) x.link x.sent)) c.self.invariant.seed_is c.retire.ensures.sent) in
    subst (λ (h : Held). IfSome h.standing.link (IsLinkOf C seed h.standing.service h.standing.past)) c.self.view_is (link_out C seed x.service x.past x.link x.sent sent c.self.invariant.whose c.self.invariant.counted c.self.invariant.taken)
