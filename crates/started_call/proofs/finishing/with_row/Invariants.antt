use Rattle.std.proofs.Common.{◌≡◌, ◌+◌, [], take}
use Rattle.std.specs.Prelude.{flat_map, slice_index_or}
use Rattle.frame_codec.specs.Size.{capped}
use Rattle.frame_codec.specs.Spelling.{size, value}
use Rattle.started_call.proofs.finishing.with_row.Given as goal

abbrev pub invariant-loop-column : goal.invariant-loop-column
invariant-loop-column g l = l.length ≡ capped (l.before + size (flat_map value (take l.column (slice_index_or (g.P.Pinned.rows l.pin) l.row []))))
