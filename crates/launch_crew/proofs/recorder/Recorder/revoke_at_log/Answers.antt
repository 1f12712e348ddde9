use Rattle.std.proofs.Common.{refl, subst, arith}
use Rattle.okws_plan.specs.declared.event.LogEvent.TheVariants as event
use Rattle.monitor_model.specs.Launches.{with_revoke_log}
use Rattle.monitor_model.specs.Standing.{log_grant}
use Rattle.site_locks.specs.Sat.{Sat}
use Rattle.launch_crew.specs.Acts.{RevokesAt}
use Rattle.launch_crew.specs.Recorded.{Recorded}
use Rattle.launch_crew.specs.Steps.{OnlyLog}
use Rattle.launch_crew.proofs.Acting.{log_revokes, log_unrevoked}
use Rattle.launch_crew.proofs.Recording.{log_entered, log_seen, recorder}
use Rattle.launch_crew.proofs.recorder.Recorder.revoke_at_log.Goals as goal

pub invariant_of-self : goal.invariant_of-self
invariant_of-self g c =
    let h = c.in-Some.ensures in
    log_entered g.N.Numbered.site g.N.Numbered.launcher c.self.inside.seats c.revoke_at_log.new.self c.self.inside.cells c.self.inside.own.past c.enter.new.self.past c.self.inside.own.room c.enter.new.self.room c.self.invariant
    (event.Revoke c.args.service c.in-Some.incarnation) h.0 h.1 refl c.enter.ensures.past h.3

pub invariant_of-self-in_default : goal.invariant_of-self-in_default
invariant_of-self-in_default g c =
    let h = c.in_default.ensures in
    log_seen g.N.Numbered.site g.N.Numbered.launcher c.self.inside.seats c.revoke_at_log.new.self c.self.inside.cells c.self.inside.own.past c.self.inside.own.room c.self.inside.own.room c.self.invariant h.0 h.1 h.3

pub returns-in-Some : goal.returns-in-Some
returns-in-Some g c =
    let h = c.in-Some.ensures in
    subst (λ (x : Recorded). RevokesAt log_grant (λ (a : Sat). a.oklogd) OnlyLog (with_revoke_log c.args.service) c.args.service x (recorder c.revoke_at_log.new.self c.self.inside.cells c.enter.new.self.past c.enter.new.self.room)) c.self.view_is
    (log_revokes g.N.Numbered.site g.N.Numbered.launcher c.self.inside.seats c.revoke_at_log.new.self c.self.inside.cells c.self.inside.own.past c.enter.new.self.past c.self.inside.own.room c.enter.new.self.room c.self.invariant c.args.service c.in-Some.incarnation h.0 h.1 h.2 h.3 c.enter.ensures.past (omega (arith, c.enter.ensures.room)))

pub returns-in_default : goal.returns-in_default
returns-in_default g c =
    let h = c.in_default.ensures in
    subst (λ (x : Recorded). RevokesAt log_grant (λ (a : Sat). a.oklogd) OnlyLog (with_revoke_log c.args.service) c.args.service x (recorder c.revoke_at_log.new.self c.self.inside.cells c.self.inside.own.past c.self.inside.own.room)) c.self.view_is
    (log_unrevoked g.N.Numbered.site g.N.Numbered.launcher c.self.inside.seats c.revoke_at_log.new.self c.self.inside.cells c.self.inside.own.past c.self.inside.own.past c.self.inside.own.room c.self.inside.own.room c.self.invariant c.args.service h.0 h.1 h.2 h.3 refl (omega arith))
