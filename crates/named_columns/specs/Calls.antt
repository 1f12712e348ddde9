-- What a call and a publication are answered in a turn.
use Rattle.std.specs.Prelude.{◌≡◌, ℕ, Bool, true, List, None}
use Rattle.okws_base.specs.declared.journal.Entry.{Entry}
use Rattle.okws_plan.specs.declared.configuration.Config.{Config}
use Rattle.okws_plan.specs.declared.event.Call.{Call}
use Rattle.okws_plan.specs.declared.event.Mark.{Mark}
use Rattle.okws_plan.specs.declared.event.Mark.TheVariants.{Done, Fault}
use Rattle.okws_plan.specs.declared.event.ProxyEvent.{ProxyEvent}
use Rattle.okws_plan.specs.declared.event.PubdEvent.{PubdEvent}
use Rattle.okws_plan.specs.declared.event.PubdEvent.TheVariants.{Publish}
use Rattle.okws_plan.specs.declared.statement.Answer.{Answer}
use Rattle.monitor_model.specs.Proxy.{call_answer, call_verdict, call_denial}
use Rattle.monitor_model.specs.declared.verdict.Published.{Published}
use Rattle.monitor_model.specs.declared.verdict.Published.TheVariants.{Edition, NoSuchTemplate, TooLong, EditionsSpent}
use Rattle.monitor_model.specs.declared.verdict.Verdict.{Verdict}
use Rattle.turn_lock.specs.Seats.{SeatIs}
use Rattle.named_columns.specs.Held.{Held, entered}
use Rattle.named_columns.specs.Turns.{Enters, Sees}

-- The verdict on a call that is entered with this mark on the entries J of proxy p: where the run's keepers tell their rows it is that of the rows, and else one that the query may be answered. A call that breaks a rule is marked Done, as is each where no call of a keeper fails.
pub record Answered (C : Config) (tells steady : Bool) (p : ℕ) (J : List (Entry ProxyEvent)) (call : Call) (mark : Mark) (v : Verdict) : Type 0 where
  pub allowed : mark ≡ Fault → call_denial C p J call ≡ None
  pub sure : steady ≡ true → mark ≡ Done
  pub answer : Answer
  pub is : v ≡ call_answer (call_denial C p J call) mark answer
  pub means : tells ≡ true → v ≡ call_verdict C p J call mark

-- pubd after a publication of template t: an edition makes an entry, and nothing else does.
abbrev pub after_edition : Held PubdEvent → ℕ → List ℕ → Published → Held PubdEvent
after_edition p t content (Edition n) = entered p (Publish t content)
after_edition p t content NoSuchTemplate = p
after_edition p t content TooLong = p
after_edition p t content EditionsSpent = p

-- A seat after a turn in which template t was published.
abbrev pub EntersEdition : ℕ → List ℕ → Published → List (Entry PubdEvent) → SeatIs (Entry PubdEvent) → SeatIs (Entry PubdEvent) → Type 0
EntersEdition t content (Edition n) before old new = Enters (Publish t content) before old new
EntersEdition t content NoSuchTemplate before old new = Sees before old new
EntersEdition t content TooLong before old new = Sees before old new
EntersEdition t content EditionsSpent before old new = Sees before old new
