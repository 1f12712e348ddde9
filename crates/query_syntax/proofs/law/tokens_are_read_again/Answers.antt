use Rattle.query_syntax.proofs.TokensAgain.{tokens_again}
use Rattle.query_syntax.proofs.law.tokens_are_read_again.Goals as goal

pub returns : goal.returns
returns c = tokens_again
