-- What the words of a command line ask for.
use Rattle.std.specs.Prelude.{ℕ, ◌-◌, ◌^◌, Bool, true, false, ◌&&◌, ◌||◌, not, List, [], ◌∷◌, codes, Option, Some, None, if◌then◌else◌, option_map, option_and_then}
use Rattle.std.specs.Option.{option_map_or}
use Rattle.std.specs.Str.{bytes_eq}
use Rattle.okws_base.specs.declared.limit.TheConstants.{MOST_DOORS, MOST_CONNECTIONS}
use Rattle.command_line.specs.Numbers.{number_in}
use Rattle.command_line.specs.Parts.{Parts, parts_of, value_of, has_option}
use Rattle.command_line.specs.declared.command.TheConstants.{MOST_EVENTS, MOST_PATIENCE, USUAL_DOORS}
use Rattle.command_line.specs.declared.command.Connections.{Connections}
use Rattle.command_line.specs.declared.command.Connections.TheVariants.{Count, Always}

-- What a server is asked for: its configuration, its port, how many doors and how many connections in all, for how many seconds it waits for a client, and the files of its rows, its log and its record.
pub record Serving : Type 0 where
  pub config : List ℕ
  pub port : ℕ
  pub doors : ℕ
  pub connections : Connections
  pub patience : Option ℕ
  pub store : Option (List ℕ)
  pub log : Option (List ℕ)
  pub audit : Option (List ℕ)

-- What is asked for: `check CONFIG`, `play CONFIG SCRIPT`, `drill SEED EVENTS`, `serve CONFIG ..` or `--version`.
pub data Asked : Type 0 where
  Checks : (config : List ℕ) → Asked
  Plays : (config script : List ℕ) → Asked
  Drills : (seed events : ℕ) → Asked
  Serves : Serving → Asked
  Versions : Asked

-- ---- words of their own

-- The one word.
abbrev pub one_word : List (List ℕ) → Option (List ℕ)
one_word [] = None
one_word (a ∷ []) = Some a
one_word (a ∷ b ∷ more) = None

-- The two words.
abbrev pub two_words : List (List ℕ) → Option (List ℕ × List ℕ)
two_words [] = None
two_words (a ∷ []) = None
two_words (a ∷ b ∷ []) = Some (a, b)
two_words (a ∷ b ∷ c ∷ more) = None

-- The words of their own, where there is no option.
abbrev pub own_alone : List (List ℕ × List ℕ) → List (List ℕ) → Option (List (List ℕ))
own_alone [] own = Some own
own_alone (option ∷ options) own = None

-- ---- the commands

-- `check CONFIG`
abbrev pub check_of : Parts → Option Asked
check_of parts = option_map Checks (option_and_then one_word (own_alone parts.options parts.own))

-- `play CONFIG SCRIPT`
abbrev pub play_of : Parts → Option Asked
play_of parts = option_map (λ p. Plays p.0 p.1) (option_and_then two_words (own_alone parts.options parts.own))

-- A seed of 64 bits, and how many events.
abbrev pub drill_numbers : List ℕ × List ℕ → Option Asked
drill_numbers p = option_and_then (λ seed. option_map (Drills seed) (number_in 0 MOST_EVENTS p.1)) (number_in 0 (2 ^ 64 - 1) p.0)

-- `drill SEED EVENTS`
abbrev pub drill_of : Parts → Option Asked
drill_of parts = option_and_then drill_numbers (option_and_then two_words (own_alone parts.options parts.own))

-- The options of a server.
abbrev pub is_server_option : List ℕ → Bool
is_server_option name = bytes_eq name (codes "port") || (bytes_eq name (codes "doors") || (bytes_eq name (codes "serve") || (bytes_eq name (codes "always")
    || (bytes_eq name (codes "patience") || (bytes_eq name (codes "store") || (bytes_eq name (codes "log") || bytes_eq name (codes "audit")))))))

-- Each is an option of a server, and none stands twice.
abbrev pub are_server_options : List (List ℕ × List ℕ) → Bool
are_server_options [] = true
are_server_options (option ∷ options) = is_server_option option.0 && (not (has_option option.0 options) && are_server_options options)

-- The port, 1 to 65,535, which has to be there.
abbrev pub port_in : List (List ℕ × List ℕ) → Option ℕ
port_in options = option_and_then (number_in 1 65535) (value_of (codes "port") options)

-- The number of doors, 1 to 64, or the usual one where it isn't told.
abbrev pub doors_in : List (List ℕ × List ℕ) → Option ℕ
doors_in options = option_map_or (number_in 1 MOST_DOORS) (value_of (codes "doors") options) (Some USUAL_DOORS)

-- How many connections, where `--always` is there or not, and this is the value of `--serve`: one of the two has to be there.
abbrev pub connections_of : Bool → Option (List ℕ) → Option Connections
connections_of true (Some word) = None
connections_of true None = Some Always
connections_of false (Some word) = option_map Count (number_in 0 MOST_CONNECTIONS word)
connections_of false None = None

-- The number of connections, 0 to 1,000,000, or as many as come.
abbrev pub connections_in : List (List ℕ × List ℕ) → Option Connections
connections_in options = connections_of (has_option (codes "always") options) (value_of (codes "serve") options)

-- The seconds for which a client is waited for, 1 to 3,600; none where they aren't told.
abbrev pub patience_in : List (List ℕ × List ℕ) → Option (Option ℕ)
patience_in options = option_map_or (λ word. option_map Some (number_in 1 MOST_PATIENCE word)) (value_of (codes "patience") options) (Some None)

-- A server of these, with the files that are told.
abbrev pub served_by : List (List ℕ × List ℕ) → List ℕ → ℕ → ℕ → Connections → Option ℕ → Asked
served_by options config port doors connections patience = Serves (record {
  config = config;
  port = port;
  doors = doors;
  connections = connections;
  patience = patience;
  store = value_of (codes "store") options;
  log = value_of (codes "log") options;
  audit = value_of (codes "audit") options;
})

-- A server of this configuration.
abbrev pub serve_config : List (List ℕ × List ℕ) → List ℕ → Option Asked
serve_config options config =
    option_and_then (λ port. option_and_then (λ doors. option_and_then (λ connections.
    option_map (served_by options config port doors connections) (patience_in options)) (connections_in options)) (doors_in options)) (port_in options)

-- `serve CONFIG --port P --doors D --serve N --patience S --store FILE --log FILE --audit FILE`, its options in any order, with `--always` in the place of `--serve N` or not.
abbrev pub serve_of : Parts → Option Asked
serve_of parts = if are_server_options parts.options then option_and_then (serve_config parts.options) (one_word parts.own) else None

-- The version, where there is no word.
abbrev pub version_alone : List (List ℕ) → Option Asked
version_alone [] = Some Versions
version_alone (word ∷ more) = None

-- `--version`
abbrev pub version_of : Parts → Option Asked
version_of parts = option_and_then version_alone (own_alone parts.options parts.own)

-- What a command of this name is asked for by the parts behind it.
abbrev pub command_of : List ℕ → Parts → Option Asked
command_of name parts =
    if bytes_eq name (codes "check") then check_of parts
    else (if bytes_eq name (codes "play") then play_of parts
    else (if bytes_eq name (codes "drill") then drill_of parts
    else (if bytes_eq name (codes "serve") then serve_of parts
    else (if bytes_eq name (codes "--version") then version_of parts else None))))

-- What the words ask for, where they are a command: its name is the first of them.
abbrev pub asked : List (List ℕ) → Option Asked
asked [] = None
asked (name ∷ behind) = option_and_then (command_of name) (parts_of behind)
