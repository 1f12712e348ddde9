use Rattle.std.proofs.Common.{◌≡◌, ◌-◌}
use Rattle.frame_codec.proofs.Lists.{rest_of}
use Rattle.frame_codec.specs.ServerFields.{rows_at}
use Rattle.frame_codec.proofs.list.after_rows.Given as goal

abbrev pub invariant-loop : goal.invariant-loop
invariant-loop l = rest_of (rows_at l.columns (l.count - l.counter) l.rest) ≡ rest_of (rows_at l.columns l.count l.bytes)
