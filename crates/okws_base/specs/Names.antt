-- Which bytes are a name, an identifier or a path.
use Rattle.std.specs.Prelude.{ℕ, Bool, false, ◌&&◌, ◌||◌, ◌==◌, not, nat_le, List, [], ◌∷◌, length, codes}
use Rattle.std.specs.List.{list_all}
use Rattle.std.specs.Char.{eq_ignore_ascii_case}
use Rattle.std.specs.Cmp.Lexicographic.{pointwise}
use Rattle.okws_base.specs.declared.limit.TheConstants.{LONGEST_NAME, LONGEST_PATH}

-- A letter.
abbrev pub is_letter : ℕ → Bool
is_letter b = (nat_le 97 b && nat_le b 122) || (nat_le 65 b && nat_le b 90)

-- A letter or a digit.
abbrev pub is_alphanumeric : ℕ → Bool
is_alphanumeric b = is_letter b || (nat_le 48 b && nat_le b 57)

-- A letter, a digit, `_`, `-` or `.`.
abbrev pub is_name_byte : ℕ → Bool
is_name_byte b = is_alphanumeric b || ((b == 95) || ((b == 45) || (b == 46)))

-- A name of a proxy, a service or a template has 1 to 64 bytes of letters, digits, `_`, `-` and `.`.
abbrev pub is_name : List ℕ → Bool
is_name bytes = nat_le 1 (length bytes) && (nat_le (length bytes) LONGEST_NAME && list_all is_name_byte bytes)

-- A letter or `_`.
abbrev pub is_first_byte : ℕ → Bool
is_first_byte b = is_letter b || (b == 95)

-- A letter, a digit or `_`.
abbrev pub is_word_byte : ℕ → Bool
is_word_byte b = is_alphanumeric b || (b == 95)

-- A word is a letter or `_`, and then letters, digits and `_`.
abbrev pub is_word : List ℕ → Bool
is_word [] = false
is_word (b ∷ more) = is_first_byte b && list_all is_word_byte more

-- Two words are the same but for the case of ASCII letters.
abbrev pub same_word : List ℕ → List ℕ → Bool
same_word one other = pointwise eq_ignore_ascii_case one other

-- The keywords that begin or join the parts of a statement.
abbrev pub is_clause_word : List ℕ → Bool
is_clause_word w =
    same_word w (codes "FROM") || (same_word w (codes "WHERE") || (same_word w (codes "AND") || (same_word w (codes "ORDER") || (same_word w (codes "BY")
    || (same_word w (codes "LIMIT") || (same_word w (codes "INTO") || (same_word w (codes "VALUES") || same_word w (codes "SET"))))))))

-- The keywords that begin a statement.
abbrev pub is_action_word : List ℕ → Bool
is_action_word w = same_word w (codes "SELECT") || (same_word w (codes "INSERT") || (same_word w (codes "UPDATE") || same_word w (codes "DELETE")))

-- The keywords of column types, and KEY.
abbrev pub is_column_word : List ℕ → Bool
is_column_word w = same_word w (codes "INT") || (same_word w (codes "TEXT") || (same_word w (codes "BYTES") || same_word w (codes "KEY")))

-- The keywords of the query language, in any ASCII case.
abbrev pub is_keyword : List ℕ → Bool
is_keyword w = is_clause_word w || (is_action_word w || is_column_word w)

-- An identifier of a table or a column is a word of at most 64 bytes that is no keyword.
abbrev pub is_identifier : List ℕ → Bool
is_identifier bytes = nat_le (length bytes) LONGEST_NAME && (is_word bytes && not (is_keyword bytes))

-- A byte 33 to 126 that is neither `?` nor `#`.
abbrev pub is_path_byte : ℕ → Bool
is_path_byte b = nat_le 33 b && (nat_le b 126 && (not (b == 63) && not (b == 35)))

-- A path that a service owns has 1 to 1,024 bytes 33 to 126 without `?` and `#`, and begins with `/`.
abbrev pub is_path : List ℕ → Bool
is_path [] = false
is_path (b ∷ more) = (b == 47) && (nat_le (length (b ∷ more)) LONGEST_PATH && list_all is_path_byte more)
