-- What a number notes of a call and of a publication.
use Rattle.std.specs.Prelude.{ℕ, List}
use Rattle.okws_base.specs.declared.journal.Entry.{Entry}
use Rattle.okws_plan.specs.declared.event.Mark.{Mark}
use Rattle.okws_plan.specs.declared.event.Mark.TheVariants.{Done, Fault}
use Rattle.okws_plan.specs.declared.event.PubdEvent.{PubdEvent}
use Rattle.okws_plan.specs.declared.event.PubdEvent.TheVariants.{Publish}
use Rattle.monitor_model.specs.declared.verdict.Published.{Published}
use Rattle.monitor_model.specs.declared.verdict.Published.TheVariants.{Edition, NoSuchTemplate, TooLong, EditionsSpent}
use Rattle.started_call.specs.declared.started.Started.{Started}
use Rattle.started_call.specs.declared.started.Started.TheVariants.{Ready, Changed, Duplicate, Denied, Failed}
use Rattle.site_locks.specs.Sat.{Sat}
use Rattle.site_locks.specs.Steps.{NotesPubd, SeesPubd}

-- The mark of a call that was answered so: a fault where it failed.
abbrev pub mark_of : {P : Type 0} → Started P → Mark
mark_of Failed = Fault
mark_of (Ready pin) = Done
mark_of (Changed n) = Done
mark_of Duplicate = Done
mark_of (Denied rule) = Done

-- What a number has seen and noted after it published template t.
abbrev pub Publishes : ℕ → List ℕ → Published → List (Entry PubdEvent) → Sat → Sat → Type 0
Publishes t content (Edition n) before s now = NotesPubd (Publish t content) before s now
Publishes t content NoSuchTemplate before s now = SeesPubd before s now
Publishes t content TooLong before s now = SeesPubd before s now
Publishes t content EditionsSpent before s now = SeesPubd before s now
