use Rattle.std.proofs.Common.{◌≡◌, drop}
use Rattle.command_line.specs.Parts.{value_of}
use Rattle.command_line.specs.Meant.{options_meant}
use Rattle.command_line.proofs.options.value_of.Given as goal

abbrev pub invariant-loop-other : goal.invariant-loop-other
invariant-loop-other l = value_of l.name (options_meant (drop l.other-index l.options)) ≡ value_of l.name (options_meant l.options)
