use Rattle.std.specs.Arc.{arc_value}
use Rattle.okws_base.specs.Past.{is_just, standing_by}
use Rattle.monitor_model.specs.Standing.{pubd_grant}
use Rattle.pubd_core.proofs.Changes.{tied_revoke}
use Rattle.pubd_core.proofs.pubd.Pubd.revoke.Goals as goal

pub invariant_of-self : goal.invariant_of-self
invariant_of-self c =
    let kept = c.self.inside in
    rw (c.forget.ensures.publications, c.deref.ensures, c.forget.ensures.readers, c.revoke.ensures.past)
    (tied_revoke (arc_value kept.config) kept.head.past kept.head.granted c.revoke.new.self.granted kept.currents.items kept.count kept.publications.items kept.readers.items kept.head.holder c.args.service c.args.incarnation
    (is_just c.args.incarnation (standing_by pubd_grant kept.head.past c.args.service)) c.self.invariant c.revoke.ensures.services (λ e. e))
