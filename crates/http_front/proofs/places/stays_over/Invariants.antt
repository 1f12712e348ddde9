use Rattle.std.proofs.Common.{take}
use Rattle.http_front.specs.Places.{StaysOver}
use Rattle.http_front.proofs.places.stays_over.Given as goal

-- the bytes so far settle nothing
abbrev pub invariant-loop-byte : goal.invariant-loop-byte
invariant-loop-byte l = StaysOver l.fn.place (take l.byte-index l.piece) l.now
