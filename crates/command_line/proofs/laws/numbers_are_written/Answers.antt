use Rattle.std.proofs.Common.{ap, ◌∙◌}
use Rattle.command_line.specs.Numbers.{number_in}
use Rattle.command_line.proofs.Written.{found_is_written, written_is_found}
use Rattle.command_line.proofs.laws.numbers_are_written.Goals as goal

pub returns : goal.returns
returns c = λ least most n word fits. (found_is_written least most n word fits, λ h. ap (number_in least most) h.0 ∙ written_is_found least most n fits h.1 h.2)
