use Rattle.statement_text.proofs.CompilesAgain.{statements_again}
use Rattle.statement_text.proofs.law.statements_compile_again.Goals as goal

pub returns : goal.returns
returns c = statements_again
