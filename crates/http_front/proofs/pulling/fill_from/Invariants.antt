use Rattle.std.proofs.Common.{◌≡◌, ◌≤◌, ℕ, ◌-◌, List, ◌++◌, length}
use Rattle.okws_outer.specs.Conns.{ConnWire}
use Rattle.httparse.specs.Grammar.{RequestHead}
use Rattle.http_text.specs.Reading.{IsWholeHead, interim_head}
use Rattle.http_front.specs.Pulling.{HasRead, IsContentOf}
use Rattle.http_front.proofs.pulling.fill_from.Given as goal

-- the whole head still stands there, and the reading went on as it should
abbrev pub invariant-loop-bytes : goal.invariant-loop-bytes
invariant-loop-bytes g l = record {
  read : (start : ConnWire) (h : RequestHead) (rest : List ℕ) (written : ℕ) → IsContentOf h l.total → IsWholeHead l.fn.bytes.items h rest → written ≡ length (interim_head h) → HasRead start (g.C.Conn.wire l.fn.conn) l.fn.bytes.items written
      → (more : List ℕ) × IsWholeHead l.bytes.items h more × HasRead start (g.C.Conn.wire l.conn) l.bytes.items written;
  grown : (more : List ℕ) × (l.bytes.items ≡ l.fn.bytes.items ++ more);
  given : (g.C.Conn.wire l.conn).given ≡ (g.C.Conn.wire l.fn.conn).given;
  still : (g.C.Conn.wire l.conn).faults ≡ (g.C.Conn.wire l.fn.conn).faults;
}

abbrev pub decreases-loop-bytes : goal.decreases-loop-bytes
decreases-loop-bytes g l = l.total - length l.bytes.items
