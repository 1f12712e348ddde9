use Rattle.std.proofs.Common.{sym, subst}
use Rattle.okld_launch.proofs.OnWay.{closes_failed}
use Rattle.okld_launch.specs.Pieces.{HasInstalled}
use Rattle.okld_launch.proofs.states.Broken.fail.Goals as goal

pub returns-clause-whole : goal.returns-clause-whole
returns-clause-whole g c = λ up ended way. closes_failed g.N.Numbered.site g.N.Numbered.run_seed g.N.Staffed.children up ended c.self.inside.launcher c.fail.new.self c.self.inside.service c.self.inside.incarnation c.fail.ensures c.self.invariant.begins.begun_is (subst (HasInstalled g.N.Numbered.site g.N.Numbered.run_seed g.N.Staffed.children up ended) (sym c.self.view_is) way)
