use Rattle.std.proofs.Common.{◌≡◌, length}
use Rattle.http_text.specs.Reading.{after_blanks}
use Rattle.http_front.proofs.looking.after_blanks.Given as goal

abbrev pub invariant-loop-bytes : goal.invariant-loop-bytes
invariant-loop-bytes l = after_blanks l.bytes ≡ after_blanks l.fn.bytes

abbrev pub decreases-loop-bytes : goal.decreases-loop-bytes
decreases-loop-bytes l = length l.bytes
