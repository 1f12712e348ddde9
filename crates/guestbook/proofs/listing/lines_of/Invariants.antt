use Rattle.std.proofs.Common.{◌≡◌, ◌++◌, List, ℕ, drop}
use Rattle.std.specs.Prelude.{option_map}
use Rattle.guestbook.specs.Listing.{lines}
use Rattle.guestbook.proofs.listing.lines_of.Given as goal

abbrev pub invariant-loop-row : goal.invariant-loop-row
invariant-loop-row l = lines l.rows ≡ option_map (λ (rest : List ℕ). l.text.items ++ rest) (lines (drop l.row-index l.rows))
