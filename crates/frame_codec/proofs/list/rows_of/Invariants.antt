use Rattle.std.proofs.Common.{◌≡◌, ◌-◌}
use Rattle.frame_codec.proofs.Lists.{with_front}
use Rattle.frame_codec.specs.ServerFields.{rows_at}
use Rattle.frame_codec.proofs.list.rows_of.Given as goal

abbrev pub invariant-loop : goal.invariant-loop
invariant-loop l = with_front l.rows.items (rows_at l.columns (l.count - l.counter) l.rest) ≡ rows_at l.columns l.count l.bytes
