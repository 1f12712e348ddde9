-- The parts of the words behind a command's name: options with their values, and words of their own.
use Rattle.std.specs.Prelude.{ℕ, Bool, true, false, List, [], ◌∷◌, codes, Option, Some, None, is_some, if◌then◌else◌, option_map}
use Rattle.std.specs.List.{list_any}
use Rattle.std.specs.Option.{option_map_or}
use Rattle.std.specs.Str.{bytes_eq}
use Rattle.clap.specs.Lexer.{long_of, short_of}

-- ---- how a word looks

-- A word of its own; `--`, behind which each word is one of its own; `-x`, of which there is none; or `--name`, with the value of `--name=value`.
pub data Look : Type 0 where
  Own : Look
  Ending : Look
  Short : Look
  Long : (name : List ℕ) → (value : Option (List ℕ)) → Look

-- How a word looks. `-` is a word of its own, and so is the empty one.
abbrev pub look_of : List ℕ → Look
look_of word =
    if bytes_eq word (codes "--") then Ending
    else option_map_or (λ p. Long p.0 p.1) (long_of word) (if is_some (short_of word) then Short else Own)

-- This is how a word of its own looks.
abbrev pub is_own : Look → Bool
is_own Own = true
is_own Ending = false
is_own Short = false
is_own (Long name value) = false

-- ---- the parts

-- This option has no value.
abbrev pub is_flag : List ℕ → Bool
is_flag name = bytes_eq name (codes "always")

-- The words of their own, and the options with their values, each in order. The value of an option that has none is empty.
pub record Parts : Type 0 where
  pub own : List (List ℕ)
  pub options : List (List ℕ × List ℕ)

-- There are none.
abbrev pub no_parts : Parts
no_parts = record { own = []; options = [] }

-- A word of its own stands before these.
abbrev pub with_own : List ℕ → Parts → Parts
with_own word parts = record parts { own = word ∷ parts.own }

-- An option stands before these.
abbrev pub with_option : List ℕ → List ℕ → Parts → Parts
with_option name value parts = record parts { options = (name, value) ∷ parts.options }

-- The parts of a word that looks so, where `others` are those of the words behind it, and `waiting` are theirs where an option waits for its value.
abbrev pub first_part : Look → List ℕ → List (List ℕ) → Option Parts → (List ℕ → Option Parts) → Option Parts
first_part Own word behind others waiting = option_map (with_own word) others
first_part Ending word behind others waiting = Some (record { own = behind; options = [] })
first_part Short word behind others waiting = None
first_part (Long name (Some value)) word behind others waiting = if is_flag name then None else option_map (with_option name value) others
first_part (Long name None) word behind others waiting = if is_flag name then option_map (with_option name []) others else waiting name

-- The parts of words, where this option may wait for its value: the next word, which has to be one of its own.
abbrev pub parts_from : Option (List ℕ) → List (List ℕ) → Option Parts
parts_from None [] = Some no_parts
parts_from (Some name) [] = None
parts_from None (word ∷ behind) = first_part (look_of word) word behind (parts_from None behind) (λ name. parts_from (Some name) behind)
parts_from (Some name) (word ∷ behind) = if is_own (look_of word) then option_map (with_option name word) (parts_from None behind) else None

-- The parts of words.
abbrev pub parts_of : List (List ℕ) → Option Parts
parts_of words = parts_from None words

-- ---- the options

-- The value of the first option of a name.
abbrev pub value_of : List ℕ → List (List ℕ × List ℕ) → Option (List ℕ)
value_of name [] = None
value_of name (option ∷ options) = if bytes_eq option.0 name then Some option.1 else value_of name options

-- An option of a name is among these.
abbrev pub has_option : List ℕ → List (List ℕ × List ℕ) → Bool
has_option name options = list_any (λ option. bytes_eq option.0 name) options
