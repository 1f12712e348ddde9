use Rattle.std.proofs.Common.{◌≡◌, length}
use Rattle.http_text.specs.Length.{without_trailing_blanks}
use Rattle.http_text.proofs.length.without_trailing_blanks.Given as goal

-- what is left is trimmed to the same
abbrev pub invariant-loop-text : goal.invariant-loop-text
invariant-loop-text l = without_trailing_blanks l.text ≡ without_trailing_blanks l.fn.text

abbrev pub decreases-loop-text : goal.decreases-loop-text
decreases-loop-text l = length l.text
