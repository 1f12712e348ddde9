-- What is known of a child that said that it has ended, and of what came up where an attempt ends.
use Rattle.std.proofs.Common.{◌≡◌, ℕ, ◌<◌, Bool, true, List, sym, subst}
use Rattle.okws_plan.specs.declared.configuration.Config.{Config}
use Rattle.okws_outer.specs.Families.{Family}
use Rattle.okws_outer.specs.declared.child.Ended.TheVariants.{Yes}
use Rattle.launch_crew.specs.Crews.{RunsAs, child_of}
use Rattle.launch_crew.specs.Ended.{tells_ended}
use Rattle.okld_launch.specs.Going.{AsksUp}
use Rattle.okld_launch.specs.Launchers.{LauncherIs, IsLauncher, up_in}
use Rattle.okld_launch.specs.Pieces.{IsClosed, attempt_ups}
use Rattle.okld_launch.specs.States.{LaunchIs, GoesOn}
use Rattle.okld_launch.specs.declared.answer.Attempt.{Attempt}
use Rattle.okld_launch.proofs.Children.{asked_yes}

-- the child of what is up said that it has ended
pub told_yes : (C : Config) (s k : ℕ) (old mid : LauncherIs) → AsksUp s old Yes mid → k ≡ up_in old s → 0 < k → IsLauncher C old → (n : ℕ) → tells_ended n mid.crew s k ≡ true
told_yes C s k old mid h is counted launcher n = asked_yes s k old.crew mid.crew h.before h.after h.was h.is h.asks
    (subst (λ (j : ℕ). RunsAs j (child_of old.crew s)) (sym is) ((launcher.each s).up (subst (λ (j : ℕ). 0 < j) is counted)).child) n

-- the same launch
pub closes_as : (C : Config) (seed : List ℕ) (first : Family) (up ended : ℕ → ℕ → Bool) (a b : LaunchIs) (answer : Attempt) (l : LauncherIs) → GoesOn a b → IsClosed C seed first (attempt_ups b.service answer up) ended l → IsClosed C seed first (attempt_ups a.service answer up) ended l
closes_as C seed first up ended a b answer l on h = subst (λ (s : ℕ). IsClosed C seed first (attempt_ups s answer up) ended l) on.service_is h
