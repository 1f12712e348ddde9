use Rattle.service_cell.proofs.Replied.{ends_so}
use Rattle.service_cell.proofs.ending.Finished.reply.Goals as goal

pub returns : goal.returns
returns c = ends_so c.self.inside.worker c.self.inside.items.room c.self.inside.reply c.as_ref.result c.self.inside.items.past c.self.inside.end c.self.inside.due c.args.self.now c.as_ref.ensures.value c.self.invariant c.self.view_is
