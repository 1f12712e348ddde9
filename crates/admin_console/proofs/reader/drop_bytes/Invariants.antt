use Rattle.std.proofs.Common.{◌≡◌, ℕ, ◌+◌, List, length}
use Rattle.admin_console.proofs.Taking.{Took}
use Rattle.admin_console.proofs.reader.drop_bytes.Given as goal

abbrev pub invariant-loop-left : goal.invariant-loop-left
invariant-loop-left g l = (bytes : List ℕ) × Took (g.C.Conn.wire l.fn.console) (g.C.Conn.wire l.console) bytes × (length bytes + l.left ≡ l.size)

abbrev pub decreases-loop-left : goal.decreases-loop-left
decreases-loop-left g l = l.left
