use Rattle.okld_launch.proofs.launcher.Launcher.launch_if_down.Goals as goal

pub returns-in-None-clause-whole : goal.returns-in-None-clause-whole
returns-in-None-clause-whole g c = λ up ended whole. c.launch-launcher.ensures.whole up ended whole
