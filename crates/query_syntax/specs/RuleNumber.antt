-- The numbers of the rules of query texts.
use Rattle.std.specs.Prelude.{ℕ}
use Rattle.query_syntax.specs.declared.error.TextRule.{TextRule}
use Rattle.query_syntax.specs.declared.error.TextRule.TheVariants as rule

-- The numbers of the rules.
abbrev pub rule_number : TextRule → ℕ
rule_number rule.BadToken = 1
rule_number rule.Expected = 2
rule_number rule.NoSuchTable = 3
rule_number rule.NoSuchColumn = 4
rule_number rule.KindMismatch = 5
rule_number rule.ParameterKind = 6
rule_number rule.ParameterGap = 7
rule_number rule.KeySet = 8
rule_number rule.ColumnTwice = 9
rule_number rule.TooManyParts = 10
rule_number rule.InsertColumns = 11
rule_number rule.JoinKinds = 12
rule_number rule.SelfJoin = 13
rule_number rule.JoinSides = 14
