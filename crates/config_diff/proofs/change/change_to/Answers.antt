use Rattle.std.proofs.Common.{sym, ◌∙◌}
use Rattle.config_diff.proofs.Exact.{given_is_declared}
use Rattle.config_diff.proofs.change.change_to.Goals as goal

pub returns-in-Grants-clause-declared : goal.returns-in-Grants-clause-declared
returns-in-Grants-clause-declared c = given_is_declared c.args.old.now c.args.new.now c.in-Grants.access c.requires (sym c.in_ok-access.ensures ∙ c.in-Grants.is)
