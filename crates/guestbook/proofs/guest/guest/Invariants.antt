use Rattle.guestbook.proofs.Guesting.{Runs}
use Rattle.guestbook.proofs.guest.guest.Given as goal

abbrev pub invariant-loop : goal.invariant-loop
invariant-loop g l = Runs (g.L.Link.wire l.fn.link) l.book (g.L.Link.wire l.link)
