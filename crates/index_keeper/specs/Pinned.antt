-- Pins of the answers of SELECTs.
use Rattle.std.specs.Prelude.{ℕ, Bool, true, List}
use Rattle.okws_base.specs.declared.value.Value.{Value}
use Rattle.index_keeper.specs.declared.pinning.IndexPin.{IndexPin}
use Rattle.index_keeper.specs.declared.pinning.IndexPin.TheVariants.{Held, Listed}

-- How many columns the answer has.
abbrev pub pin_width : IndexPin → ℕ
pin_width (Held pin) = pin.width
pin_width (Listed list) = list.columns

-- The rows of the answer.
abbrev pub pin_rows : IndexPin → List (List Value)
pin_rows (Held pin) = pin.rows
pin_rows (Listed list) = list.rows

-- The answer was found. One that is listed was found when it was pinned.
abbrev pub is_found : IndexPin → Bool
is_found (Held pin) = pin.found
is_found (Listed list) = true
