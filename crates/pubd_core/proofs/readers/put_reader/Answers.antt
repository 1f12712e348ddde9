use Rattle.pubd_core.proofs.Heard.{heard_put}
use Rattle.pubd_core.proofs.readers.put_reader.Goals as goal

pub returns-clause-ok : goal.returns-clause-ok
returns-clause-ok c = λ s k. rw (c.push_reserved.ensures.items, c.drop_reader.ensures.others, c.in_ok-reserve.ensures.items) (heard_put c.args.reader c.args.readers.now.items s k)
