use Rattle.std.proofs.Common.{◌≡◌, drop}
use Rattle.command_line.specs.Parts.{has_option}
use Rattle.command_line.specs.Meant.{options_meant}
use Rattle.command_line.proofs.options.has_option.Given as goal

abbrev pub invariant-loop-other : goal.invariant-loop-other
invariant-loop-other l = has_option l.name (options_meant (drop l.other-index l.options)) ≡ has_option l.name (options_meant l.options)
