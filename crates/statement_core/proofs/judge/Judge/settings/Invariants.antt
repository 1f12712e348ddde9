use Rattle.std.proofs.Common.{◌≡◌, take}
use Rattle.statement_core.specs.Resolving.{settings_judged}
use Rattle.statement_core.proofs.judge.Judge.settings.Given as goal

abbrev pub invariant-loop-setting : goal.invariant-loop-setting
invariant-loop-setting l = l.self ≡ settings_judged l.columns l.fn.self (take l.setting-index l.settings)
