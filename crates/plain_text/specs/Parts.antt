-- What parts a text.
use Rattle.std.specs.Prelude.{ℕ, Bool, ◌==◌}

-- A byte is this one.
abbrev pub is_byte : ℕ → ℕ → Bool
is_byte byte b = b == byte
