-- What is refused of a drill: nothing.
use Rattle.std.specs.Prelude.{◌≡◌, ◌≤◌, ℕ, true, List, ◌∷◌, ◌++◌, None, reverse}
use Rattle.okws_plan.specs.declared.configuration.Config.{Config}
use Rattle.okws_plan.specs.declared.script.Line.{Line}
use Rattle.monitor_model.specs.Script.{PlaysAll, refusal}
use Rattle.monitor_model.specs.Stage.{Stage}
use Rattle.play_script.specs.Script.{drill_script, token_seed}
use Rattle.play_script.specs.Site.{is_drilled_site}
use Rattle.play_script.specs.declared.words.TheConstants.{MOST_EVENTS}

-- No line of a drill of at most 100,000 events breaks a rule where the lines before it have led, whatever they were answered.
abbrev pub NeverRefused : Type 0
NeverRefused = (C : Config) (number events : ℕ) (front rest : List Line) (line : Line) (printed : List ℕ) (S : Stage)
    → is_drilled_site C ≡ true → events ≤ MOST_EVENTS → drill_script number events ≡ front ++ line ∷ rest → PlaysAll C token_seed (reverse front) printed S
    → refusal line S ≡ None
