use Rattle.std.proofs.Common.{◌≡◌, ◌-◌}
use Rattle.frame_codec.proofs.Lists.{rest_of}
use Rattle.frame_codec.specs.ServerFields.{issues_at}
use Rattle.frame_codec.proofs.list.after_issues.Given as goal

abbrev pub invariant-loop : goal.invariant-loop
invariant-loop l = rest_of (issues_at (l.count - l.counter) l.rest) ≡ rest_of (issues_at l.count l.bytes)
