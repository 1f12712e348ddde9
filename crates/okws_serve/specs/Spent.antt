-- What a record says of the publications that the console refused because all editions of their template are spent.
use Rattle.std.specs.Prelude.{◌≤◌, ℕ, List, [], ◌∷◌, Some, None}
use Rattle.okws_base.specs.declared.limit.TheConstants.{MOST_EDITIONS}
use Rattle.okws_plan.specs.declared.configuration.Config.{Config}
use Rattle.okws_outer.specs.Conns.{ConnWire}
use Rattle.monitor_model.specs.declared.record.Record.{Record}
use Rattle.monitor_model.specs.Pubd.{edition}
use Rattle.admin_console.specs.Orders.{order_of}
use Rattle.admin_console.specs.declared.answer.Answer.{Answer}
use Rattle.admin_console.specs.declared.answer.Answer.TheVariants as answer
use Rattle.admin_console.specs.declared.order.Order.{Order}
use Rattle.admin_console.specs.declared.order.Order.TheVariants as order
use Rattle.admin_console.specs.declared.rule.Rule.{Rule}
use Rattle.admin_console.specs.declared.rule.Rule.TheVariants as rule
use Rattle.admin_console.specs.declared.step.Stepped.{Stepped}
use Rattle.admin_console.specs.declared.step.Stepped.TheVariants as stepped
use Rattle.site_worker.specs.Commands.{Commands, Oversees, StepsAt}
use Rattle.site_worker.specs.Lives.{Life}
use Rattle.site_worker.specs.declared.console.Overseen.{Overseen}

-- A publication of template t broke this rule: where its editions are spent, the record has as many as a template may have.
abbrev pub IsSpentBy : Record → ℕ → Rule → Type 0
IsSpentBy R t rule.EditionsSpent = MOST_EDITIONS ≤ edition R.pubd t
IsSpentBy R t _ = Unit {0}

-- The same of what a publication was answered.
abbrev pub IsSpentFor : Record → ℕ → Answer → Type 0
IsSpentFor R t (answer.Refused line broken) = IsSpentBy R t broken
IsSpentFor R t _ = Unit {0}

-- The same of what an order was answered.
abbrev pub IsSpent : Record → Order → Answer → Type 0
IsSpent R (order.Publish t size) a = IsSpentFor R t a
IsSpent R _ a = Unit {0}

-- The same of a step of the console, whether its answer was given whole or not.
abbrev pub StepSpent : (C : Config) (R : Record) (w x : ConnWire) (before after : ℕ) (J K : Life) (what : Stepped) → StepsAt C w x before after J K what → Type 0
StepSpent C R w x before after J K (stepped.Answered a) h = IsSpent R (order_of C h.0.line) a
StepSpent C R w x before after J K stepped.Finished h = Unit {0}
StepSpent C R w x before after J K stepped.Stop h = Unit {0}
StepSpent C R w x before after J K (stepped.ConsoleFault (Some a)) h = IsSpent R (order_of C h.0.line) a
StepSpent C R w x before after J K (stepped.ConsoleFault None) h = Unit {0}

-- The same of each of these commands.
abbrev pub AllSpent : (C : Config) (R : Record) (answers : List Answer) (w x : ConnWire) (before after : ℕ) (J K : Life) → Commands C answers w x before after J K → Type 0
AllSpent C R [] w x before after J K h = Unit {0}
AllSpent C R (a ∷ answers) w x before after J K h = AllSpent C R answers w h.0 before h.1 J h.2 h.3 × StepSpent C R h.0 x h.1 after h.2 K (stepped.Answered a) h.4

-- The same of all that a worker did at the console.
abbrev pub OverseesSpent : (C : Config) (R : Record) (w x : ConnWire) (before after : ℕ) (J K : Life) (how : Overseen) → Oversees C w x before after J K how → Type 0
OverseesSpent C R w x before after J K how h =
    AllSpent C R h.answers w h.mid before h.lines J h.life h.commands × StepSpent C R h.mid x h.lines after h.life K h.last h.steps
