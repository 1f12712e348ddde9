use Rattle.std.proofs.Common.{ℕ, ◌+◌, ◌≤◌, List, length, map}
use Rattle.std.specs.Prelude.{option_map, MatchOption}
use Rattle.svc_kit.specs.Bounded.{Holds}
use Rattle.svc_kit.specs.Filled.{pair_of}
use Rattle.svc_kit.proofs.PutParts.{bytes_left, Reached}
use Rattle.svc_kit.proofs.fill.put_parts.Given as goal

abbrev pub invariant-loop-behind : goal.invariant-loop-behind
invariant-loop-behind l =
    ((before : List ℕ) → Holds l.fn.text before → Reached (map pair_of l.pairs) l.template l.text before l.at (option_map (λ rest. rest.now) l.behind))
    × MatchOption (option_map (λ rest. rest.now) l.behind) (Unit {0}) (λ rest. l.at + 1 + length rest ≤ length l.template)

abbrev pub decreases-loop-behind : goal.decreases-loop-behind
decreases-loop-behind l = bytes_left (option_map (λ rest. rest.now) l.behind)
