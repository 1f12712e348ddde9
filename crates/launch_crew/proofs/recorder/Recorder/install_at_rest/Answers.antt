use Rattle.std.proofs.Common.{subst, sym}
use Rattle.std.specs.Prelude.{Result}
use Rattle.std.specs.declared.alloc.AllocError.{AllocError}
use Rattle.std.proofs.lemmas.Result.{err_from_is_err_and}
use Rattle.launch_crew.specs.Acts.{InstallsBoth}
use Rattle.launch_crew.proofs.Acting.{installs_both, installs_neither}
use Rattle.launch_crew.proofs.recorder.Recorder.install_at_rest.Goals as goal

pub returns-in_err-install_at_pubd : goal.returns-in_err-install_at_pubd
returns-in_err-install_at_pubd g c =
    let failed = err_from_is_err_and c.from_residual.result c.from_residual.ensures.1 in
    subst (λ (r : Result (Unit {0}) AllocError). InstallsBoth g.N.Numbered.run_seed c.args.service c.args.incarnation r c.args.self.now c.install_at_pubd.new.self) (sym failed.1)
    (installs_neither g.N.Numbered.run_seed c.args.service c.args.incarnation _ failed.0 c.args.self.now c.install_at_pubd.new.self c.in_err-install_at_pubd.ensures)

pub returns : goal.returns
returns g c = installs_both g.N.Numbered.run_seed c.args.service c.args.incarnation _ c.args.self.now c.install_at_pubd.new.self c.install_at_log.new.self c.in_ok-install_at_pubd.ensures c.install_at_log.result c.install_at_log.ensures
