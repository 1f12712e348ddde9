use Rattle.std.proofs.Common.{◌+◌, subst, arith, sym}
use Rattle.okws_base.specs.declared.limit.TheConstants.{MOST_PROXIES}
use Rattle.okld_launch.proofs.Caused.{broke_may}
use Rattle.okld_launch.proofs.Stating.{begins_on, launch_of, goes_on}
use Rattle.okld_launch.specs.States.{LaunchIs, GoesOn}
use Rattle.okld_launch.proofs.OnWay.{way_clears}
use Rattle.okld_launch.specs.Pieces.{HasBegun}
use Rattle.okld_launch.proofs.Kin.{unstarted_same}
use Rattle.okld_launch.proofs.states.Quiet.revoke.Goals as goal

pub invariant_of-result : goal.invariant_of-result
invariant_of-result g c = record {
  begins = begins_on g.N.Numbered.site (MOST_PROXIES + 4 + (MOST_PROXIES + 2 + (MOST_PROXIES + 4))) (MOST_PROXIES + 2 + (MOST_PROXIES + 4)) c.self.inside.launcher c.clear.new.self c.self.inside.service c.self.inside.incarnation c.self.invariant.begins c.clear.ensures.journal
      (omega (arith, c.clear.ensures.room));
  under = c.clear.ensures.under c.self.inside.incarnation c.self.invariant.under;
  quiet = c.clear.ensures.quiet;
  down = c.clear.ensures.down;
  unstarted = unstarted_same c.self.inside.service c.self.inside.incarnation g.N.Staffed.children c.self.inside.launcher.crew.family c.clear.new.self.crew.family c.clear.ensures.started c.self.invariant.unstarted;
}

pub returns-clause-on : goal.returns-clause-on
returns-clause-on g c = subst (λ (x : LaunchIs). GoesOn x (launch_of c.clear.new.self c.self.inside.service c.self.inside.incarnation)) c.self.view_is
    (goes_on c.self.inside.launcher c.clear.new.self c.self.inside.service c.self.inside.incarnation c.clear.ensures.journal c.clear.ensures.told)

pub clear-requires-clause-cause : goal.clear-requires-clause-cause
clear-requires-clause-cause g c = broke_may c.self.inside.service c.self.inside.incarnation c.self.inside.launcher c.self.invariant.begins.begun_is c.self.invariant.fresh

pub returns-clause-way : goal.returns-clause-way
returns-clause-way g c = λ up ended way. way_clears g.N.Numbered.site g.N.Numbered.run_seed g.N.Staffed.children up ended c.self.inside.launcher c.clear.new.self c.self.inside.service c.self.inside.incarnation c.clear.ensures.journal c.clear.ensures.stays c.clear.ensures.own c.clear.ensures.behind c.clear.ensures.counted (subst (HasBegun g.N.Numbered.site g.N.Numbered.run_seed g.N.Staffed.children up ended) (sym c.self.view_is) way)
