use Rattle.storm_tests.proofs.Grounds.{idle_all}
use Rattle.storm_tests.proofs.storm.serve.Goals as goal

pub serve_site-left-requires-clause-idle : goal.serve_site-left-requires-clause-idle
serve_site-left-requires-clause-idle g c κs within = idle_all _ c.args.doors.items c.requires.new
