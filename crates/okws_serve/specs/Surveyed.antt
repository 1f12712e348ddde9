-- What a record says of the numbers that the console's `status` was answered by.
use Rattle.std.specs.Prelude.{◌≡◌, List, [], ◌∷◌, Some, None, length}
use Rattle.okws_base.specs.Turns.{Behind}
use Rattle.okws_base.specs.declared.journal.Entry.{Entry}
use Rattle.okws_plan.specs.declared.configuration.Config.{Config}
use Rattle.okws_plan.specs.declared.event.LogEvent.{LogEvent}
use Rattle.okws_plan.specs.declared.event.OkdEvent.{OkdEvent}
use Rattle.okws_plan.specs.declared.event.PubdEvent.{PubdEvent}
use Rattle.monitor_model.specs.declared.record.Record.{Record}
use Rattle.named_columns.specs.Counts.{accepts, capped, logged, publications, ups}
use Rattle.admin_console.specs.declared.answer.Answer.{Answer}
use Rattle.admin_console.specs.declared.answer.Answer.TheVariants as answer
use Rattle.admin_console.specs.declared.controls.Status.{Status}
use Rattle.admin_console.specs.declared.step.Stepped.{Stepped}
use Rattle.admin_console.specs.declared.step.Stepped.TheVariants as stepped
use Rattle.launch_turns.specs.Deeds.{entries, looks}
use Rattle.launch_turns.specs.Looking.{count_below, stands_dead, stands_down, stands_up}
use Rattle.launch_turns.specs.declared.deed.Deed.{Deed}

-- Each number is counted of what a journal of the record was before: okd's, pubd's and oklogd's; how the services stand, of what the launcher had seen at okd by then, and of its own journal. The connections are those behind which a service was looked after, in the turns that were taken at the launcher by then.
pub record IsSurveyed (C : Config) (R : Record) (t : Status) : Type 0 where
  pub okd : List (Entry OkdEvent)
  pub shown : List (Entry OkdEvent)
  pub pubd : List (Entry PubdEvent)
  pub oklogd : List (Entry LogEvent)
  pub deeds : List Deed
  pub okd_past : Behind okd R.okd
  pub shown_past : Behind shown okd
  pub pubd_past : Behind pubd R.pubd
  pub oklogd_past : Behind oklogd R.oklogd
  pub launcher_past : Behind (entries deeds) R.launcher
  pub connections_are : t.connections ≡ capped (looks deeds)
  pub accepts_are : t.accepts ≡ capped (accepts okd)
  pub launches_are : t.launches ≡ capped (ups okd)
  pub publications_are : t.publications ≡ capped (publications pubd)
  pub logged_are : t.logged ≡ capped (logged C oklogd)
  pub up_are : t.up ≡ count_below (stands_up shown) (length C.services)
  pub down_are : t.down ≡ count_below (stands_down shown (entries deeds)) (length C.services)
  pub dead_are : t.dead ≡ count_below (stands_dead shown (entries deeds)) (length C.services)

-- The same of an answer, where it is a status.
abbrev pub IsSurveyedFor : Config → Record → Answer → Type 0
IsSurveyedFor C R (answer.Status t) = IsSurveyed C R t
IsSurveyedFor C R _ = Unit {0}

-- The same of each of these answers.
abbrev pub AllSurveyed : Config → Record → List Answer → Type 0
AllSurveyed C R [] = Unit {0}
AllSurveyed C R (a ∷ answers) = IsSurveyedFor C R a × AllSurveyed C R answers

-- The same of a step of the console, whether its answer was given whole or not.
abbrev pub StepSurveyed : Config → Record → Stepped → Type 0
StepSurveyed C R (stepped.Answered a) = IsSurveyedFor C R a
StepSurveyed C R stepped.Finished = Unit {0}
StepSurveyed C R stepped.Stop = Unit {0}
StepSurveyed C R (stepped.ConsoleFault (Some a)) = IsSurveyedFor C R a
StepSurveyed C R (stepped.ConsoleFault None) = Unit {0}
