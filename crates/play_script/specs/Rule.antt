-- The numbers of the script rules.
use Rattle.std.specs.Prelude.{ℕ}
use Rattle.play_script.specs.declared.rule.ScriptRule.{ScriptRule}
use Rattle.play_script.specs.declared.rule.ScriptRule.TheVariants as rule

-- The number by which a refusal names a script rule.
abbrev pub script_rule_number : ScriptRule → ℕ
script_rule_number rule.BadLine = 1
script_rule_number rule.Undeclared = 2
script_rule_number rule.NotBegun = 3
script_rule_number rule.AlreadyDone = 4
script_rule_number rule.NoSuchRequest = 5
script_rule_number rule.CellBusy = 6
script_rule_number rule.NoCell = 7
script_rule_number rule.Spent = 8
script_rule_number rule.TooLong = 9
