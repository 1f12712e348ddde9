use Rattle.std.proofs.Common.{◌≡◌, ◌^◌, ◌-◌, min, take}
use Rattle.plain_text.specs.Decimals.{decimal_value}
use Rattle.plain_text.proofs.decimals.capped_decimal.Given as goal

-- the number so far is that of the digits so far, up to the cap
abbrev pub invariant-loop-digit : goal.invariant-loop-digit
invariant-loop-digit l = l.number ≡ min (decimal_value (take l.digit-index l.digits)) (2 ^ 64 - 1)
