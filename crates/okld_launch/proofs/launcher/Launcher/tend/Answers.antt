use Rattle.okld_launch.proofs.launcher.Launcher.tend.Goals as goal

pub returns-clause-goes : goal.returns-clause-goes
returns-clause-goes g c = c.tend_service.ensures.goes

pub returns-clause-enters : goal.returns-clause-enters
returns-clause-enters g c = c.tend_service.ensures.enters

pub returns-clause-few : goal.returns-clause-few
returns-clause-few g c = c.tend_service.ensures.few

pub returns-clause-whole : goal.returns-clause-whole
returns-clause-whole g c = c.tend_service.ensures.whole

pub returns-clause-holder : goal.returns-clause-holder
returns-clause-holder g c = c.tend_service.ensures.holder
