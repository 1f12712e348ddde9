use Rattle.std.proofs.Common.{◌≡◌, drop}
use Rattle.okws_base.specs.Names.{same_word}
use Rattle.okws_base.proofs.name.are_same_word.Given as goal

abbrev pub invariant-loop-i : goal.invariant-loop-i
invariant-loop-i l = same_word (drop l.i l.one) (drop l.i l.other) ≡ same_word l.one l.other
