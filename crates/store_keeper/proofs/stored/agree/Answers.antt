use Rattle.std.proofs.Common.{◌∙◌, sym}
use Rattle.okws_plan.specs.contracts.statement.AnswerPartialEq.TheImpl as answers
use Rattle.okws_plan.specs.contracts.statement.AnswerEq.TheImpl.Laws.{laws-law}
use Rattle.store_keeper.proofs.Telling.{told_apart}
use Rattle.store_keeper.proofs.stored.agree.Goals as goal

pub returns-in-Ok-clause-other : goal.returns-in-Ok-clause-other
returns-in-Ok-clause-other c apart same = told_apart (answers.ghosts).eq laws-law.refl c.args.told.now c.in-Ok.answer (sym c.eq.ensures ∙ apart) (sym c.in-Ok.is ∙ same)
