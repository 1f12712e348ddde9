-- The numbers of the rules of configurations.
use Rattle.std.specs.Prelude.{ℕ}
use Rattle.config_reader.specs.declared.error.ConfigRule.{ConfigRule}
use Rattle.config_reader.specs.declared.error.ConfigRule.TheVariants as rule

-- The rules are numbered from 1 to 16.
abbrev pub rule_number : ConfigRule → ℕ
rule_number rule.FirstLine = 1
rule_number rule.LineTooLong = 2
rule_number rule.BadBytes = 3
rule_number rule.UnknownDirective = 4
rule_number rule.WordCount = 5
rule_number rule.BadName = 6
rule_number rule.BadNumber = 7
rule_number rule.BadKind = 8
rule_number rule.BadPath = 9
rule_number rule.BadLiteral = 10
rule_number rule.Undeclared = 11
rule_number rule.Taken = 12
rule_number rule.TwoKeys = 13
rule_number rule.RowMismatch = 14
rule_number rule.QueryRefused = 15
rule_number rule.TooMany = 16
