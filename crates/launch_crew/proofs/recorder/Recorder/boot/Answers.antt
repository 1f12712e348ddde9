use Rattle.launch_crew.proofs.Bare.{bare_boots, told_of}
use Rattle.launch_crew.proofs.recorder.Recorder.boot.Goals as goal

pub new-noted-requires : goal.new-noted-requires
new-noted-requires g c = record { told = told_of g.N.Numbered.site c.args.service c.args.incarnation (g.L.Link.wire c.args.link).whose c.args.notes c.requires.link.whose c.requires.installed }

pub returns : goal.returns
returns g c = bare_boots g.L.Link.wire g.N.Numbered.site g.N.Numbered.run_seed c.args.service c.args.incarnation c.boot_cell.result c.bare.result c.args.self.now c.boot_cell.new.self c.bare.ensures c.boot_cell.ensures
