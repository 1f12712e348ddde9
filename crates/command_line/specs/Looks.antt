-- What the code's words for looks and parts mean.
use Rattle.std.specs.Prelude.{option_map}
use Rattle.command_line.specs.Parts.{Look, Own, Ending, Short, Long}
use Rattle.command_line.specs.declared.looks.Sort.{Sort}
use Rattle.command_line.specs.declared.looks.Sort.TheVariants as sort

-- How a word looks, without where it lies in memory.
abbrev pub look_meant : Sort → Look
look_meant sort.Own = Own
look_meant sort.Ending = Ending
look_meant sort.Short = Short
look_meant (sort.Long name value) = Long name.now (option_map (λ s. s.now) value)
