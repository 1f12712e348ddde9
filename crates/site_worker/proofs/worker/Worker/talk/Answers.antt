use Rattle.std.proofs.Common.{refl}
use Rattle.door_worker.specs.Asking.{asked_by}
use Rattle.site_worker.proofs.worker.Worker.talk.Goals as goal

pub returns-clause-goes : goal.returns-clause-goes
returns-clause-goes g c = (
  c.dialog-spoken.result,
  c.dialog-spoken.new.self.life,
  c.dialog-spoken.ensures.talks (asked_by c.args.request) refl refl,
  c.conclude.ensures.follows c.dialog-spoken.new.reply c.dialog-spoken.ensures.gives,
)
