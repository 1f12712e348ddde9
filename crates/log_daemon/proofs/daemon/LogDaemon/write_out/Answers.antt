use Rattle.std.proofs.Common.{take}
use Rattle.log_daemon.proofs.Owed.{whole_given, owes_nothing, whole_is_front, front_given}
use Rattle.log_daemon.proofs.daemon.LogDaemon.write_out.Goals as goal

pub invariant_of-self : goal.invariant_of-self
invariant_of-self g c =
    let before = c.self.invariant in
    record {
      services = before.services;
      law = before.law;
      owes = owes_nothing _ _ _ _ c.if-self.false c.clear.ensures.items (whole_given _ _ _ _ _ _ c.if-self.false c.deref.ensures.value c.in-Done.ensures.untold before.owes c.in-Done.ensures.bytes);
      spent = λ _. c.clear.ensures.items;
    }

pub invariant_of-self-in-Stopped : goal.invariant_of-self-in-Stopped
invariant_of-self-in-Stopped g c =
    let before = c.self.invariant in
    record {
      services = before.services;
      law = before.law;
      owes = front_given _ _ _ _ _ c.in-Stopped.field-0 _ c.if-self.false c.deref.ensures.value c.in-Stopped.ensures.untold before.owes c.in-Stopped.ensures.bytes.1;
      spent = λ _. c.clear-in-Stopped.ensures.items;
    }

pub returns-in-Done-clause-whole : goal.returns-in-Done-clause-whole
returns-in-Done-clause-whole g c =
    rw (← c.self.view_is) (λ _. whole_given _ _ _ _ _ _ c.if-self.false c.deref.ensures.value c.in-Done.ensures.untold c.self.invariant.owes c.in-Done.ensures.bytes)

pub returns-in-Done-clause-part : goal.returns-in-Done-clause-part
returns-in-Done-clause-part g c =
    rw (← c.self.view_is) (whole_is_front _ _ (whole_given _ _ _ _ _ _ c.if-self.false c.deref.ensures.value c.in-Done.ensures.untold c.self.invariant.owes c.in-Done.ensures.bytes))

pub returns-in-Stopped-clause-part : goal.returns-in-Stopped-clause-part
returns-in-Stopped-clause-part g c =
    rw (← c.self.view_is) (front_given _ _ _ _ _ c.in-Stopped.field-0 _ c.if-self.false c.deref.ensures.value c.in-Stopped.ensures.untold c.self.invariant.owes c.in-Stopped.ensures.bytes.1)

pub returns-in-Stopped-clause-given : goal.returns-in-Stopped-clause-given
returns-in-Stopped-clause-given g c = (take c.in-Stopped.field-0 c.deref.result.now, rw (← c.self.view_is) c.in-Stopped.ensures.bytes.1)
