use Rattle.site_worker.proofs.worker.Worker.look_round.Goals as goal

pub returns : goal.returns
returns g c = (c.tend_next.new.self.life, c.tend_next.ensures, c.write_log.ensures)
