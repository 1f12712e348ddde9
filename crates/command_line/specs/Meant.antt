-- What the code's parts and commands mean.
use Rattle.std.specs.Prelude.{ℕ, List, ◌++◌, map, option_map, Option, Some, None}
use Rattle.std.specs.Borrow.{Bor}
use Rattle.command_line.specs.Parts.{Parts, parts_of}
use Rattle.command_line.specs.Asked.{Asked, Checks, Plays, Drills, Serves, Versions}
use Rattle.command_line.specs.declared.parts.Parts.{Parts as Taken}
use Rattle.command_line.specs.declared.command.Command.{Command}
use Rattle.command_line.specs.declared.command.Command.TheVariants as command

-- The options, without where they lie in memory.
abbrev pub options_meant : List (Bor (List ℕ) × Bor (List ℕ)) → List (List ℕ × List ℕ)
options_meant options = map (λ p. (p.0.now, p.1.now)) options

-- The parts, without where they lie in memory.
abbrev pub parts_meant : Taken → Parts
parts_meant parts = record { own = map (λ s. s.now) parts.own.items; options = options_meant parts.options.items }

-- These parts stand before others, where there are others.
abbrev pub joined : Parts → Option Parts → Option Parts
joined parts others = option_map (λ more. record { own = parts.own ++ more.own; options = parts.options ++ more.options }) others

-- These parts, and then those of the words that are left, where any are.
abbrev pub goes_on : Parts → Option (List (List ℕ)) → Option Parts
goes_on parts None = None
goes_on parts (Some words) = joined parts (parts_of words)

-- What a command asks for, without where it lies in memory.
abbrev pub meant : Command → Asked
meant (command.Check config) = Checks config.now
meant (command.Play config script) = Plays config.now script.now
meant (command.Drill seed events) = Drills seed events
meant command.Version = Versions
meant (command.Serve server) = Serves (record {
  config = server.config.now;
  port = server.port;
  doors = server.doors;
  connections = server.connections;
  patience = server.patience;
  store = option_map (λ s. s.now) server.store;
  log = option_map (λ s. s.now) server.log;
  audit = option_map (λ s. s.now) server.audit;
})
