-- What is told of words that are no command.
use Rattle.std.specs.Prelude.{◌≡◌, ℕ, List, ◌++◌}
use Rattle.command_line.specs.declared.answer.TheConstants.{USAGE}

-- A text that ends with how the program is called, behind whatever it says first.
abbrev pub TellsUsage : List ℕ → Type 0
TellsUsage text = (front : List ℕ) × (text ≡ front ++ USAGE.now)
