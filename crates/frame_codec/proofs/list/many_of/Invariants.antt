use Rattle.std.proofs.Common.{◌≡◌, ◌-◌}
use Rattle.frame_codec.proofs.Lists.{with_front}
use Rattle.frame_codec.specs.Reading.{many_at}
use Rattle.frame_codec.proofs.list.many_of.Given as goal

abbrev pub invariant-loop : goal.invariant-loop
invariant-loop l = with_front l.values.items (many_at (l.count - l.counter) l.rest) ≡ many_at l.count l.bytes
