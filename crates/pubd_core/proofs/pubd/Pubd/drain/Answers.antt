use Rattle.std.specs.Arc.{arc_value}
use Rattle.pubd_core.proofs.Changes.{tied_drain}
use Rattle.pubd_core.proofs.pubd.Pubd.drain.Goals as goal

pub invariant_of-self-4 : goal.invariant_of-self-4
invariant_of-self-4 c =
    let kept = c.self.inside in
    rw (c.keep_wanted.ensures, c.deref.ensures, c.deref-2.ensures.value, c.enter.ensures.same, c.enter.ensures.past, c.in_ok-make_room.ensures.same)
    (tied_drain (arc_value kept.config) kept.head.past kept.head.granted kept.currents.items kept.count kept.publications.items kept.readers.items c.keep_heard.new.readers.items kept.head.holder c.args.service c.args.incarnation c.may_stand-may.result
    c.self.invariant (rw c.in_ok-make_room.ensures.same at c.may_stand-may.ensures) c.in_ok-keep_heard.ensures.ok)
