use Rattle.std.proofs.Common.{◌≡◌, ◌+◌, take}
use Rattle.std.specs.Prelude.{flat_map}
use Rattle.frame_codec.specs.Size.{capped}
use Rattle.frame_codec.specs.Spelling.{size, values}
use Rattle.started_call.proofs.finishing.frame_length.Given as goal

abbrev pub invariant-loop-row : goal.invariant-loop-row
invariant-loop-row g l = l.length ≡ capped (6 + size (flat_map values (take l.row (g.P.Pinned.rows l.pin))))
