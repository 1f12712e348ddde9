-- Bytes in hexadecimal digits, and escapes.
use Rattle.std.specs.Prelude.{◌≡◌, ℕ, ◌+◌, ◌/◌, ◌%◌, ◌==◌, ◌||◌, nat_lt, List, [], ◌∷◌, Option, Some, flat_map, if◌then◌else◌}
use Rattle.std.specs.Result.{result_ok}
use Rattle.hex.specs.Hex.{decode_of, IsBytes}

-- A digit of base 16, in lower case.
abbrev pub hex_digit : ℕ → ℕ
hex_digit n = if nat_lt n 10 then 48 + n else 87 + n

-- A byte in two digits of base 16.
abbrev pub hex_byte : ℕ → List ℕ
hex_byte b = hex_digit (b / 16) ∷ hex_digit (b % 16) ∷ []

-- Bytes in lower-case hexadecimal.
abbrev pub hex : List ℕ → List ℕ
hex bytes = flat_map hex_byte bytes

-- A byte below 32, above 126, or equal to a backslash stands as a backslash, `x` and two digits of base 16 in lower case.
abbrev pub escaped_byte : ℕ → List ℕ
escaped_byte b = if nat_lt b 32 || (nat_lt 126 b || (b == 92)) then 92 ∷ 120 ∷ hex_byte b else b ∷ []

-- Bytes in which the unprintable ones and the backslash are escaped.
abbrev pub escaped : List ℕ → List ℕ
escaped bytes = flat_map escaped_byte bytes

-- The bytes that pairs of hexadecimal digits write, in either case; none where a digit has no other or isn't one.
abbrev pub hex_bytes : List ℕ → Option (List ℕ)
hex_bytes word = result_ok (decode_of word)

-- The hexadecimal digits of bytes are read as these bytes.
abbrev pub HexIsReadAgain : Type 0
HexIsReadAgain = (bytes : List ℕ) → IsBytes bytes → hex_bytes (hex bytes) ≡ Some bytes
