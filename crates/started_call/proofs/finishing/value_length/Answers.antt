use Rattle.std.proofs.Common.{arith, ap, length}
use Rattle.started_call.proofs.Lengths.{int_length, text_length, bytes_length}
use Rattle.started_call.proofs.finishing.value_length.Goals as goal

pub returns-in-Int : goal.returns-in-Int
returns-in-Int c = rw c.in-Int.is (omega (arith, int_length c.in-Int.field-0))

pub returns-in-Text : goal.returns-in-Text
returns-in-Text c = rw c.in-Text.is (omega (arith, text_length c.in-Text.text, ap length c.as_bytes.ensures, c.saturating_add.ensures))

pub returns-in-Bytes : goal.returns-in-Bytes
returns-in-Bytes c = rw c.in-Bytes.is (omega (arith, bytes_length c.in-Bytes.bytes, ap length c.as_slice.ensures, c.saturating_add-in-Bytes.ensures))
