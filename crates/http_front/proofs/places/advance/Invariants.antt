use Rattle.std.proofs.Common.{take}
use Rattle.http_front.specs.Places.{At}
use Rattle.http_front.proofs.places.advance.Given as goal

-- it's known where the bytes so far end
abbrev pub invariant-loop-end : goal.invariant-loop-end
invariant-loop-end l = At l.fn.place (take l.fn.from l.bytes) → At l.now (take l.end l.bytes)
