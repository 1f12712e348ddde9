use Rattle.statement_core.proofs.RulesKept.{compiled_keeps}
use Rattle.statement_core.proofs.law.compiled_statements_keep_rules.Goals as goal

pub returns : goal.returns
returns c = compiled_keeps
