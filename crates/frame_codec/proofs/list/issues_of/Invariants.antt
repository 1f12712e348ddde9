use Rattle.std.proofs.Common.{◌≡◌, ◌-◌}
use Rattle.frame_codec.proofs.Lists.{with_front}
use Rattle.frame_codec.specs.ServerFields.{issues_at}
use Rattle.frame_codec.proofs.list.issues_of.Given as goal

abbrev pub invariant-loop : goal.invariant-loop
invariant-loop l = with_front l.issues.items (issues_at (l.count - l.counter) l.rest) ≡ issues_at l.count l.bytes
