use Rattle.std.specs.Arc.{arc_value}
use Rattle.pubd_core.proofs.Changes.{tied_install}
use Rattle.pubd_core.proofs.pubd.Pubd.install.Goals as goal

pub invariant_of-self-2 : goal.invariant_of-self-2
invariant_of-self-2 c =
    let kept = c.self.inside in
    rw (c.forget.ensures.publications, c.deref.ensures, c.forget.ensures.readers, c.in_ok-install.ensures.past)
    (tied_install (arc_value kept.config) kept.head.past kept.head.granted c.install.new.self.granted kept.currents.items kept.count kept.publications.items kept.readers.items kept.head.holder c.args.service c.args.incarnation
    c.self.invariant c.install.ensures.services (rw (← c.self.view_is) at c.requires.later))
