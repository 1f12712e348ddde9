use Rattle.std.proofs.Common.{refl}
use Rattle.std.specs.Fmt.{digits}
use Rattle.monitor_model.specs.Logd.{log_line}
use Rattle.monitor_model.proofs.worked.logging.Goals as goal

pub returns-clause-text : goal.returns-clause-text
unfolding log_line digits
returns-clause-text c = refl
