use Rattle.site_worker.proofs.Turns.{asks_made}
use Rattle.site_worker.proofs.worker.Worker.ask.Goals as goal

pub returns : goal.returns
returns g c =
    let t = c.relaunch_turn-answer in
    asks_made g.N.Numbered.site c.args.service t.result.1 c.args.self.now.life t.new.self.life c.keep_shown.new.self.life c.note_entered.new.self.life c.note_where.new.self.life c.launch_starved.result t.result.2
    t.ensures.only c.keep_shown.ensures.keeps c.note_entered.ensures.notes t.ensures.stand t.result.0 t.ensures.relaunches c.launch_starved.ensures c.note_where.ensures.notes
