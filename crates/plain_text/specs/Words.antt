-- The words of a line.
use Rattle.std.specs.Prelude.{ℕ, Bool, ◌||◌, ◌==◌, not, nat_lt, List, [], ◌∷◌, length, drop, filter, Option, Some, None}
use Rattle.std.specs.List.{slice_split, prefix_len}

-- A space or a tab.
abbrev pub is_blank : ℕ → Bool
is_blank b = (b == 32) || (b == 9)

-- A piece of a line has a byte.
abbrev pub is_word : List ℕ → Bool
is_word piece = nat_lt 0 (length piece)

-- The words of a line are what blanks part, but for empty pieces.
abbrev pub words : List ℕ → List (List ℕ)
words line = filter is_word (slice_split is_blank line)

-- A byte that is no blank.
abbrev pub is_word_byte : ℕ → Bool
is_word_byte b = not (is_blank b)

-- The bytes from the first that is no blank.
abbrev pub from_word : List ℕ → List ℕ
from_word bytes = drop (prefix_len is_blank bytes) bytes

-- The bytes behind the first word.
abbrev pub behind_word : List ℕ → List ℕ
behind_word bytes = drop (prefix_len is_word_byte (from_word bytes)) (from_word bytes)

-- The word of a list that has one word.
abbrev pub one_word : List (List ℕ) → Option (List ℕ)
one_word (word ∷ []) = Some word
one_word _ = None

-- The words of a list that has two words.
abbrev pub two_words : List (List ℕ) → Option (List ℕ × List ℕ)
two_words (first ∷ second ∷ []) = Some (first, second)
two_words _ = None
