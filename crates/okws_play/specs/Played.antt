-- What a line of a script makes of a run, and what it prints.
use Rattle.std.specs.Prelude.{◌≡◌, ℕ, List, [], Result, Ok, Err}
use Rattle.std.specs.declared.alloc.AllocError.{AllocError}
use Rattle.std.specs.declared.option.Option.{Option}
use Rattle.std.specs.declared.option.Option.TheVariants.{Some, None}
use Rattle.okws_plan.specs.declared.script.Line.{Line}
use Rattle.okws_outer.specs.Printing.{Printer, PrintsOn, PrintsFront}
use Rattle.play_script.specs.Rule.{script_rule_number}
use Rattle.play_script.specs.declared.rule.ScriptRule.{ScriptRule}
use Rattle.monitor_model.specs.Script.{Plays, refusal}
use Rattle.monitor_model.specs.Stage.{Stage}
use Rattle.okws_play.specs.Run.{Run, at_stage}

-- What a line makes of a run, and what is printed from one printer to another. A line that breaks no rule does what it does, and its text is printed. Where it breaks a rule, all is as before and nothing is printed. Where memory is refused, the line breaks no rule, and a front of what it prints was printed.
abbrev pub PlayedLine : Run → Line → Printer → Printer → Result (Option ScriptRule) AllocError → Run → Type 0
PlayedLine run line before after (Ok None) now =
    (text : List ℕ) × Plays run.config run.seed line run.stage text now.stage × (now ≡ at_stage run now.stage) × PrintsOn before after text
PlayedLine run line before after (Ok (Some rule)) now = (refusal line run.stage ≡ Some (script_rule_number rule)) × (now ≡ run) × PrintsOn before after []
PlayedLine run line before after (Err e) now = (text : List ℕ) × (later : Stage) × Plays run.config run.seed line run.stage text later × PrintsFront before after text
