use Rattle.std.proofs.Common.{refl}
use Rattle.monitor_model.specs.Stage.{request_head}
use Rattle.monitor_model.proofs.worked.printed.Goals as goal

pub returns : goal.returns
unfolding request_head
returns c = refl
