use Rattle.play_script.proofs.reading.read_directive.Goals as goal

pub returns-in-Accept-clause-fits : goal.returns-in-Accept-clause-fits
returns-in-Accept-clause-fits c = c.read_accept.ensures.fits c.args.config.now
