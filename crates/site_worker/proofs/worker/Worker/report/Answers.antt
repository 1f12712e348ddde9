use Rattle.std.proofs.Common.{◌≡◌, ap, subst}
use Rattle.launch_turns.specs.Standing.{BegunBefore}
use Rattle.launch_turns.specs.Turns.{ReportsBy}
use Rattle.site_worker.specs.Lives.{Life, Working}
use Rattle.site_worker.proofs.Turns.{reports_made}
use Rattle.site_worker.proofs.worker.Worker.report.Goals as goal

pub returns-clause-reports : goal.returns-clause-reports
returns-clause-reports g c =
    let C = g.N.Numbered.site in
    let s = c.args.service in
    let k = c.args.incarnation in
    let t = c.report_turn-answer in
    let same = ap (λ (x : Working). x.life) c.note_of-note.ensures.same in
    reports_made C s t.result.1 c.args.self.now.life t.new.self.life c.keep_shown.new.self.life c.note_entered.new.self.life c.note_where.new.self.life c.crash_starved.result t.result.2
    (subst (λ (x : Life). t.new.self.life ≡ record x { launcher = record x.launcher { seen = t.new.self.life.launcher.seen } }) same t.ensures.only) c.keep_shown.ensures.keeps c.note_entered.ensures.notes t.ensures.stand
    (subst (λ (x : Life). BegunBefore C x.board t.new.self.life.launcher.seen) same t.ensures.shown) k t.result.0 (subst (λ (x : Life). ReportsBy C s k x.launcher t.result.0 t.result.1 t.new.self.life.launcher) same t.ensures.reports) c.crash_starved.ensures c.note_where.ensures.notes
