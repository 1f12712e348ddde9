use Rattle.std.proofs.Common.{◌≡◌, length}
use Rattle.http_text.specs.Reading.{has_line_after}
use Rattle.http_front.proofs.looking.has_line_after.Given as goal

-- behind what is left to pass another line begins where it does so at first
abbrev pub invariant-loop-bytes : goal.invariant-loop-bytes
invariant-loop-bytes l = has_line_after l.lines l.bytes ≡ has_line_after l.fn.lines l.fn.bytes

abbrev pub decreases-loop-bytes : goal.decreases-loop-bytes
decreases-loop-bytes l = length l.bytes
