use Rattle.std.proofs.Common.{rules}
use Rattle.statement_core.proofs.RulesKept.{answer_keeps}
use Rattle.statement_core.proofs.compiler.compile.Goals as goal

pub returns-clause-kept : goal.returns-clause-kept
returns-clause-kept c = answer_keeps c.args.tables.now c.args.text.now c.resolve.result (search rules)
