use Rattle.std.proofs.Common.{◌≡◌, length}
use Rattle.command_line.specs.Asked.{are_server_options}
use Rattle.command_line.specs.Meant.{options_meant}
use Rattle.command_line.proofs.options.are_server_options.Given as goal

abbrev pub invariant-loop-rest : goal.invariant-loop-rest
invariant-loop-rest l = are_server_options (options_meant l.rest) ≡ are_server_options (options_meant l.options)

abbrev pub decreases-loop-rest : goal.decreases-loop-rest
decreases-loop-rest l = length l.rest
