-- The commands that were carried out so far.
use Rattle.std.proofs.Common.{◌≡◌, ℕ, List, [], ◌∷◌, Some, refl, subst}
use Rattle.okws_plan.specs.declared.configuration.Config.{Config}
use Rattle.okws_outer.specs.Conns.{ConnWire}
use Rattle.admin_console.specs.Steps.{Steps}
use Rattle.admin_console.specs.declared.answer.Answer.{Answer}
use Rattle.admin_console.specs.declared.step.Stepped.{Stepped}
use Rattle.admin_console.specs.declared.step.Stepped.TheVariants as stepped
use Rattle.site_worker.specs.Lives.{Life, SameWorker}
use Rattle.site_worker.specs.Steering.{Publishes, Relaunches, Surveys}
use Rattle.site_worker.specs.Commands.{StepsAt, Commands, Oversees, ends_by}
use Rattle.site_worker.specs.declared.console.Overseen.{Overseen}
use Rattle.site_worker.proofs.Same.{same_at_once, same_on, same_step}

pub record Overseeing (C : Config) (w x : ConnWire) (before after : ℕ) (J K : Life) : Type 0 where
  pub answers : List Answer
  pub commands : Commands C answers w x before after J K
  pub same : SameWorker J K

-- a step by the configuration that is at hand, which is the site's
pub step_here : (C D : Config) (w x : ConnWire) (before after : ℕ) (J K : Life) (what : Stepped) → D ≡ C → Steps Publishes (Relaunches C) (Surveys C) D w x before after J K what → StepsAt C w x before after J K what
step_here C D w x before after J K what e s = subst (λ (y : Config). Steps Publishes (Relaunches C) (Surveys C) y w x before after J K what) e s

module _ (C : Config) (w : ConnWire) (before : ℕ) (J : Life) where
  pub overseeing_first : Overseeing C w w before before J J
  overseeing_first = record { answers = []; commands = (refl, refl, refl); same = same_at_once J J refl }

  module _ (y x : ConnWire) (mid after : ℕ) (M K : Life) (h : Overseeing C w y before mid J M) where
    pub overseeing_next : (a : Answer) → StepsAt C y x mid after M K (stepped.Answered a) → Overseeing C w x before after J K
    overseeing_next a s = record { answers = a ∷ h.answers; commands = (y, mid, M, h.commands, s); same = same_on J M K h.same (same_step C y x mid after M K (stepped.Answered a) s) }

    pub overseeing_last : (what : Stepped) (how : Overseen) → ends_by what ≡ Some how → StepsAt C y x mid after M K what → Oversees C w x before after J K how
    overseeing_last what how e s = record { answers = h.answers; mid = y; lines = mid; life = M; last = what; commands = h.commands; steps = s; ends = e }

    pub overseeing_same : (what : Stepped) → StepsAt C y x mid after M K what → SameWorker J K
    overseeing_same what s = same_on J M K h.same (same_step C y x mid after M K what s)
