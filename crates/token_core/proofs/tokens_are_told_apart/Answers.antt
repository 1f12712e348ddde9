use Rattle.token_core.proofs.Shows.{token-length, shown-token, tokens-differ}
use Rattle.token_core.proofs.tokens_are_told_apart.Goals as goal

pub returns-clause-length : goal.returns-clause-length
returns-clause-length c = token-length

pub returns-clause-shows : goal.returns-clause-shows
returns-clause-shows c = shown-token

pub returns-clause-differs : goal.returns-clause-differs
returns-clause-differs c = tokens-differ
