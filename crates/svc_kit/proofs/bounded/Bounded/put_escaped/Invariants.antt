use Rattle.std.proofs.Common.{List, ℕ, ◌++◌, take}
use Rattle.svc_kit.specs.Bounded.{Holds}
use Rattle.svc_kit.specs.Escape.{escaped}
use Rattle.svc_kit.proofs.bounded.Bounded.put_escaped.Given as goal

abbrev pub invariant-loop-byte : goal.invariant-loop-byte
invariant-loop-byte l = (text : List ℕ) → Holds l.initial.self text → Holds l.self (text ++ escaped (take l.byte-index l.value))
