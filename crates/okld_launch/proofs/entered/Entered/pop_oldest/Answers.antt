use Rattle.std.proofs.Common.{rules, ◌≡◌, ◌∙◌, ◌<◌, None, sym, arith}
use Rattle.okld_launch.proofs.Telling.{pop_failed}
use Rattle.okld_launch.proofs.entered.Entered.pop_oldest.Goals as goal

pub returns-clause-left : goal.returns-clause-left
returns-clause-left c =
    let none : c.self.inside.opening ≡ None = search rules in
    let more : 0 < c.self.inside.failed = omega (arith, c.if-self-eq0.false) in
    sym c.self.view_is ∙ pop_failed c.self.inside.service c.self.inside.incarnation c.self.inside.failed c.self.inside.opening c.self.inside.closing none more
