use Rattle.std.proofs.Common.{◌≡◌, ◌∙◌, ◌<◌, length, arith, ap}
use Rattle.std.specs.Arc.{arc_value}
use Rattle.pubd_core.proofs.Currents.{current_more}
use Rattle.pubd_core.proofs.pubd.Pubd.currents_for.Goals as goal

pub loop-i-preserved : goal.loop-i-preserved
loop-i-preserved c =
    let S = c.args.self.now in
    let same : length (arc_value c.self.inside.config).templates ≡ length S.config.templates = ap (λ v. length v.config.templates) c.self.view_is in
    let below : c.loop-i.i < length S.config.templates = omega (arith, same, c.loop-i-test.true, c.len-i-end.ensures, c.self.invariant.templates) in
    current_more S.config S.past c.args.service c.loop-i.i (length S.config.templates) c.loop-i.found.items _ below c.in_ok-found.ensures ∙ c.loop-i.invariant
