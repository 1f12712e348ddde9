use Rattle.site_worker.proofs.Turns.{tends_made}
use Rattle.site_worker.proofs.worker.Worker.tend.Goals as goal

pub returns : goal.returns
returns g c =
    let t = c.tend_turn-answer in
    tends_made g.N.Numbered.site c.args.service t.result.1 c.args.self.now.life t.new.self.life c.keep_shown.new.self.life c.note_entered.new.self.life c.note_where.new.self.life c.tend_starved.result t.result.2
    t.ensures.only c.keep_shown.ensures.keeps c.note_entered.ensures.notes t.ensures.stand t.ensures.shown t.result.0 t.ensures.tends c.tend_starved.ensures c.note_where.ensures.notes
