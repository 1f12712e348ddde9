use Rattle.std.proofs.Common.{[], sym}
use Rattle.guestbook.specs.Book.{blank}
use Rattle.guestbook.proofs.Guesting.{first_run, next_run, stops}
use Rattle.guestbook.proofs.guest.guest.Goals as goal

pub loop-init : goal.loop-init
loop-init g c = record {
  frames = [];
  now = blank;
  run = first_run (g.L.Link.wire c.args.link.now) c.new-book.result;
  knows = record { book_is = sym c.new-book.ensures.book; awaits_is = sym c.new-book.ensures.awaits };
}

pub loop-preserved : goal.loop-preserved
loop-preserved g c = next_run (g.L.Link.wire c.args.link.now) (g.L.Link.wire c.loop.link) (g.L.Link.wire c.round.new.link) c.loop.book c.round.new.book c.loop.invariant c.in_default.ensures

pub returns-in-Err : goal.returns-in-Err
returns-in-Err g c = stops (g.L.Link.wire c.args.link.now) (g.L.Link.wire c.loop.link) (g.L.Link.wire c.round.new.link) c.loop.book c.round.new.book c.in-Err.stop c.loop.invariant c.in-Err.ensures
