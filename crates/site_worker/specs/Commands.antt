-- What a worker does at the console, one command after the other.
use Rattle.std.specs.Prelude.{◌≡◌, ℕ, List, [], ◌∷◌, Option, Some, None}
use Rattle.okws_plan.specs.declared.configuration.Config.{Config}
use Rattle.okws_outer.specs.Conns.{ConnWire}
use Rattle.admin_console.specs.Steps.{Steps}
use Rattle.admin_console.specs.declared.answer.Answer.{Answer}
use Rattle.admin_console.specs.declared.step.Stepped.{Stepped}
use Rattle.admin_console.specs.declared.step.Stepped.TheVariants as stepped
use Rattle.site_worker.specs.Lives.{Life}
use Rattle.site_worker.specs.Steering.{Publishes, Relaunches, Surveys}
use Rattle.site_worker.specs.declared.console.Overseen.{Overseen}
use Rattle.site_worker.specs.declared.console.Overseen.TheVariants as overseen

-- One step of the console of a site, of which `before` and then `after` lines were read.
abbrev pub StepsAt : Config → ConnWire → ConnWire → ℕ → ℕ → Life → Life → Stepped → Type 0
StepsAt C w x before after J K what = Steps Publishes (Relaunches C) (Surveys C) C w x before after J K what

-- Commands with these answers, the last one first, each carried out and answered.
abbrev pub Commands : Config → List Answer → ConnWire → ConnWire → ℕ → ℕ → Life → Life → Type 0
Commands C [] w x before after J K = (x ≡ w) × (after ≡ before) × (K ≡ J)
Commands C (answer ∷ answers) w x before after J K =
    (y : ConnWire) × (mid : ℕ) × (M : Life) × Commands C answers w y before mid J M × StepsAt C y x mid after M K (stepped.Answered answer)

-- How a console ends by a step, if it does.
abbrev pub ends_by : Stepped → Option Overseen
ends_by (stepped.Answered answer) = None
ends_by stepped.Finished = Some overseen.Finished
ends_by stepped.Stop = Some overseen.Stop
ends_by (stepped.ConsoleFault answer) = Some overseen.ConsoleFault

-- What a worker did at the console: commands, each answered, and then the step by which it ended so.
pub record Oversees (C : Config) (w x : ConnWire) (before after : ℕ) (J K : Life) (how : Overseen) : Type 0 where
  pub answers : List Answer
  pub mid : ConnWire
  pub lines : ℕ
  pub life : Life
  pub last : Stepped
  pub commands : Commands C answers w mid before lines J life
  pub steps : StepsAt C mid x lines after life K last
  pub ends : ends_by last ≡ Some how
