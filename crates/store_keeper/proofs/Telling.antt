-- Answers that are told apart are not the same.
use Rattle.std.proofs.Common.{◌≡◌, ◌∙◌, true, false, ap, sym}
use Rattle.std.specs.Prelude.{◌≢◌, Bool, Ok, Err, Result}
use Rattle.std.proofs.lemmas.Bool.{false≢true}
use Rattle.okws_plan.specs.declared.statement.Answer.{Answer}
use Rattle.okws_outer.specs.declared.keeper.RunError.{RunError}

abbrev answered : Answer → Result Answer RunError
answered answer = Ok answer

answer_or : Answer → Result Answer RunError → Answer
answer_or other (Ok answer) = answer
answer_or other (Err e) = other

unok : (a b : Answer) → answered a ≡ answered b → a ≡ b
unfolding answer_or
unok a b e = ap (answer_or a) e

-- by an equality that holds of each answer and itself
pub told_apart : (same : Answer → Answer → Bool) → ((a : Answer) → same a a ≡ true) → (told answer : Answer) → same answer told ≡ false → answered answer ≢ answered told
told_apart same alike told answer apart e = false≢true (sym apart ∙ ap (λ a. same a told) (unok answer told e) ∙ alike told)
