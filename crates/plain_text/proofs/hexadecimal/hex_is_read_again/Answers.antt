use Rattle.plain_text.proofs.HexDigits as digits
use Rattle.plain_text.proofs.hexadecimal.hex_is_read_again.Goals as goal

pub returns : goal.returns
returns c = digits.hex_is_read_again
