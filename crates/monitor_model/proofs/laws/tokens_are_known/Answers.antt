use Rattle.monitor_model.proofs.Booted as booted
use Rattle.monitor_model.proofs.laws.tokens_are_known.Goals as goal

pub returns-clause-tokens : goal.returns-clause-tokens
returns-clause-tokens c = booted.tokens_are_known

pub returns-clause-calls : goal.returns-clause-calls
returns-clause-calls c = booted.stale_calls_were_revoked
