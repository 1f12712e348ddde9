use Rattle.std.proofs.Common.{◌≡◌, ◌+◌, drop}
use Rattle.std.specs.List.{prefix_len}
use Rattle.guestbook.specs.Requests.{is_break}
use Rattle.guestbook.proofs.request.breaks_len.Given as goal

abbrev pub invariant-loop-i : goal.invariant-loop-i
invariant-loop-i l = prefix_len is_break (drop l.i l.head) + l.i ≡ prefix_len is_break l.head
