-- What the first word of a line asks for.
use Rattle.std.specs.Prelude.{List, ℕ, Option, Some, None, option_map, if◌then◌else◌, codes}
use Rattle.std.specs.Option.{option_or}
use Rattle.okws_base.specs.Value.{same_bytes}
use Rattle.okws_plan.specs.declared.script.Line.{Line}
use Rattle.okws_plan.specs.declared.script.Line.TheVariants as line
use Rattle.okws_plan.specs.declared.script.Method.{Method}
use Rattle.okws_plan.specs.declared.script.Method.TheVariants as method
use Rattle.okws_plan.specs.declared.script.Place.{Place}
use Rattle.play_script.specs.declared.directive.Step.{Step}
use Rattle.play_script.specs.declared.directive.Step.TheVariants as step
use Rattle.play_script.specs.declared.directive.Change.{Change}
use Rattle.play_script.specs.declared.directive.Change.TheVariants as change
use Rattle.play_script.specs.declared.directive.Directive.{Directive}
use Rattle.play_script.specs.declared.directive.Directive.TheVariants as directive

-- The directives that a service's name alone follows, by their words.
abbrev pub step_named : List ℕ → Option Step
step_named w =
    if same_bytes w (codes "begin") then Some step.Begin
    else if same_bytes w (codes "boot") then Some step.Boot
    else if same_bytes w (codes "up") then Some step.Up
    else if same_bytes w (codes "down") then Some step.Down
    else if same_bytes w (codes "launch") then Some step.Launch
    else if same_bytes w (codes "relaunch") then Some step.Relaunch
    else if same_bytes w (codes "end") then Some step.End
    else None

-- The directives that the names of a service and a column follow, by their words.
abbrev pub change_named : List ℕ → Option Change
change_named w =
    if same_bytes w (codes "install") then Some change.Install
    else if same_bytes w (codes "revoke") then Some change.Revoke
    else None

-- The other directives, by their words.
abbrev pub other_named : List ℕ → Option Directive
other_named w =
    if same_bytes w (codes "accept") then Some directive.Accept
    else if same_bytes w (codes "dialog") then Some directive.Dialog
    else if same_bytes w (codes "bytes") then Some directive.Bytes
    else if same_bytes w (codes "publish") then Some directive.Publish
    else None

-- The directive that a word is, byte by byte.
unfoldable pub directive_named : List ℕ → Option Directive
directive_named w = option_or (option_map directive.Step (step_named w)) (option_or (option_map directive.Change (change_named w)) (other_named w))

-- The line of a step at a service.
abbrev pub step_line : Step → ℕ → Line
step_line step.Begin s = line.Begin s
step_line step.Boot s = line.Boot s
step_line step.Up s = line.Up s
step_line step.Down s = line.Down s
step_line step.Launch s = line.Launch s
step_line step.Relaunch s = line.Relaunch s
step_line step.End s = line.End s

-- The line of a change of a service at a column.
abbrev pub change_line : Change → ℕ → Place → Line
change_line change.Install s at = line.Install s at
change_line change.Revoke s at = line.Revoke s at

-- The method that a word is, byte by byte.
abbrev pub method_named : List ℕ → Option Method
method_named w =
    if same_bytes w (codes "GET") then Some method.Get
    else if same_bytes w (codes "HEAD") then Some method.Head
    else if same_bytes w (codes "POST") then Some method.Post
    else None
