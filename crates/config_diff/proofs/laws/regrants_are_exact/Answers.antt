use Rattle.config_diff.proofs.Exact.{exact}
use Rattle.config_diff.proofs.laws.regrants_are_exact.Goals as goal

pub returns : goal.returns
returns c = exact
