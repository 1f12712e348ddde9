use Rattle.std.proofs.Common.{sym, subst}
use Rattle.std.specs.Prelude.{IsNone, slice_index}
use Rattle.okws_outer.specs.Doors.{Entrance}
use Rattle.site_worker.specs.Rounds.{Attends}
use Rattle.site_worker.specs.declared.door.TheConstants.{STOPPED}
use Rattle.site_worker.proofs.worker.Worker.attend.Goals as goal

pub returns-clause-idle : goal.returns-clause-idle
returns-clause-idle g c = subst (λ (x : Entrance). IsNone x.out) (sym c.shut.ensures) c.go_on-attended.ensures.idle

pub returns-clause-attends : goal.returns-clause-attends
returns-clause-attends g c =
    subst (λ (x : Entrance). Attends g.D.Conn.Conn.wire g.N.Numbered.site g.N.Numbered.launcher c.args.limit (slice_index c.go_on-attended.new.place.seen STOPPED) (g.D.Door.entrance c.args.door.now) x c.args.self.now.life c.go_on-attended.new.self.life c.args.place.now.drawn c.go_on-attended.new.place.drawn c.go_on-attended.result)
    (sym c.shut.ensures) c.go_on-attended.ensures.attends
