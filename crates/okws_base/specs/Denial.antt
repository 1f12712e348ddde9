-- The numbers of the denial rules.
use Rattle.std.specs.Prelude.{ℕ}
use Rattle.okws_base.specs.declared.denial.Rule.{Rule}
use Rattle.okws_base.specs.declared.denial.Rule.TheVariants as rule

-- The number by which a frame names a rule: 10 to 17 are a proxy's, 20 to 22 pubd's, 30 to 32 oklogd's.
abbrev pub rule_number : Rule → ℕ
rule_number rule.NoSuchProxy = 10
rule_number rule.UnknownToken = 11
rule_number rule.StaleToken = 12
rule_number rule.NoSession = 13
rule_number rule.QueryNotGranted = 14
rule_number rule.BadArguments = 15
rule_number rule.AnswerTooLarge = 16
rule_number rule.TooManySessions = 17
rule_number rule.StaleAtPubd = 20
rule_number rule.TemplateNotGranted = 21
rule_number rule.TemplateUnpublished = 22
rule_number rule.StaleAtLog = 30
rule_number rule.LogNotGranted = 31
rule_number rule.LogTooLong = 32
