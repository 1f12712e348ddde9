use Rattle.std.proofs.Common.{◌≡◌, fold, take}
use Rattle.play_script.specs.Tally.{step}
use Rattle.play_script.proofs.tally.Counting.take.Given as goal

abbrev pub invariant-loop-byte : goal.invariant-loop-byte
invariant-loop-byte l = l.self ≡ fold step l.fn.self (take l.byte-index l.bytes)
