-- What a call that was started answers, and what the end of its answer tells.
use Rattle.std.specs.Prelude.{◌≡◌, ⊤, ℕ, List, length}
use Rattle.okws_base.specs.declared.value.Value.{Value}
use Rattle.okws_base.specs.declared.denial.Rule.TheVariants.{AnswerTooLarge}
use Rattle.okws_plan.specs.declared.statement.Answer.{Answer}
use Rattle.monitor_model.specs.declared.verdict.Verdict.{Verdict}
use Rattle.monitor_model.specs.declared.verdict.Verdict.TheVariants as verdict
use Rattle.monitor_model.specs.Proxy.{within_frame}
use Rattle.started_call.specs.declared.started.Started.{Started}
use Rattle.started_call.specs.declared.started.Started.TheVariants.{Ready, Changed, Duplicate, Denied, Failed}
use Rattle.started_call.specs.declared.finishing.Finished.{Finished}
use Rattle.started_call.specs.declared.finishing.Finished.TheVariants as finished

-- The verdict on a call, where `of` says which answer a pin has: an answer that is ready is denied where its frame is too long.
abbrev pub verdict_of : {P : Type 0} → (P → Answer) → Started P → Verdict
verdict_of of (Ready pin) = within_frame (of pin)
verdict_of of (Changed n) = verdict.Changed n
verdict_of of Duplicate = verdict.Duplicate
verdict_of of (Denied rule) = verdict.Denied rule
verdict_of of Failed = verdict.Failed

-- Whether an answer is too long is not told when a call is started.
abbrev pub LeavesLength : {P : Type 0} → Started P → Type 0
LeavesLength (Ready pin) = ⊤
LeavesLength (Changed n) = ⊤
LeavesLength Duplicate = ⊤
LeavesLength (Denied rule) = rule ≡ AnswerTooLarge → ⊥
LeavesLength Failed = ⊤

-- What is told at the end is the verdict: all rows, as many as there are, or the rule that they break.
abbrev pub Finishes : ℕ → List (List Value) → Verdict → Finished → Type 0
Finishes columns rows v (finished.Rows n) = (n ≡ length rows) × (v ≡ verdict.Rows columns rows)
Finishes columns rows v (finished.Denied rule) = v ≡ verdict.Denied rule
