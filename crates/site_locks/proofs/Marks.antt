-- The mark of a call, by what it was answered.
use Rattle.std.proofs.Common.{if◌then◌else◌, ◌≡◌, ◌∙◌, ℕ, Bool, true, false, List, Option, Some, None, refl, sym, ap}
use Rattle.okws_base.specs.declared.journal.Entry.{Entry}
use Rattle.okws_base.specs.declared.denial.Rule.{Rule}
use Rattle.okws_base.specs.declared.denial.Rule.TheVariants as rule
use Rattle.okws_base.specs.declared.value.Value.{Value}
use Rattle.okws_plan.specs.declared.configuration.Config.{Config}
use Rattle.okws_plan.specs.declared.event.Call.{Call}
use Rattle.okws_plan.specs.declared.event.Mark.{Mark}
use Rattle.okws_plan.specs.declared.event.Mark.TheVariants.{Done, Fault}
use Rattle.okws_plan.specs.declared.event.ProxyEvent.{ProxyEvent}
use Rattle.okws_plan.specs.declared.event.ProxyEvent.TheVariants as event
use Rattle.okws_plan.specs.declared.statement.Answer.{Answer}
use Rattle.okws_plan.specs.declared.statement.Answer.TheVariants as answer
use Rattle.monitor_model.specs.Proxy.{call_answer, within_frame}
use Rattle.monitor_model.specs.declared.verdict.Verdict.{Verdict}
use Rattle.monitor_model.specs.declared.verdict.Verdict.TheVariants as verdict
use Rattle.started_call.specs.Starting.{verdict_of}
use Rattle.started_call.specs.declared.started.Started.{Started}
use Rattle.started_call.specs.declared.started.Started.TheVariants as started
use Rattle.named_columns.specs.Calls.{Answered}
use Rattle.site_locks.specs.Calls.{mark_of}

-- the mark of a verdict
abbrev shown : Verdict → Mark
shown verdict.Failed = Fault
shown (verdict.Opened n) = Done
shown (verdict.Rows columns rows) = Done
shown (verdict.Changed n) = Done
shown verdict.Duplicate = Done
shown (verdict.Denied broken) = Done

none_some : {A : Type 0} (x : A) → Some x ≡ None → ⊥
none_some x e = absurd (cc)

rows_done : (b : Bool) (columns : ℕ) (T : List (List Value)) → shown (if b then verdict.Rows columns T else verdict.Denied rule.AnswerTooLarge) ≡ Done
rows_done true columns T = refl
rows_done false columns T = refl

frame_done : (a : Answer) → shown (within_frame a) ≡ Done
frame_done (answer.Rows columns T) = rows_done _ columns T
frame_done (answer.Changed n) = refl
frame_done answer.Duplicate = refl

mark_is : (d : Option Rule) (mark : Mark) (a : Answer) → (mark ≡ Fault → d ≡ None) → shown (call_answer d mark a) ≡ mark
mark_is (Some r) Done a h = refl
mark_is (Some r) Fault a h = absurd (none_some r (h refl))
mark_is None Fault a h = refl
mark_is None Done a h = frame_done a

marked_so : {P : Type 0} (of : P → Answer) (s : Started P) → mark_of s ≡ shown (verdict_of of s)
marked_so of (started.Ready pin) = sym (frame_done (of pin))
marked_so of (started.Changed n) = refl
marked_so of started.Duplicate = refl
marked_so of (started.Denied broken) = refl
marked_so of started.Failed = refl

pub marked : {P : Type 0} (of : P → Answer) (C : Config) (tells steady : Bool) (p : ℕ) (J : List (Entry ProxyEvent)) (call : Call) (mark : Mark) (s : Started P) → Answered C tells steady p J call mark (verdict_of of s) → mark_of s ≡ mark
marked of C tells steady p J call mark s h = marked_so of s ∙ ap shown h.is ∙ mark_is _ mark h.answer h.allowed

-- the item that is noted is the call's entry
pub called : (copy call : Call) (noted mark : Mark) → copy ≡ call → noted ≡ mark → event.Call copy noted ≡ event.Call call mark
called copy call noted mark e f = λ i. event.Call (e i) (f i)
