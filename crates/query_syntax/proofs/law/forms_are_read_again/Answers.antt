use Rattle.query_syntax.proofs.FormsAgain.{forms_again}
use Rattle.query_syntax.proofs.law.forms_are_read_again.Goals as goal

pub returns : goal.returns
returns c = forms_again
