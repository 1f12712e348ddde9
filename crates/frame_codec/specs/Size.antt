-- How a count of bytes stands in memory.
use Rattle.std.specs.Prelude.{ℕ, ◌-◌, ◌^◌, min}

-- A count that stays at its last value, 2 ^ 64 - 1.
abbrev pub capped : ℕ → ℕ
capped n = min n (2 ^ 64 - 1)
