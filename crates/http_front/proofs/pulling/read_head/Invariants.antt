use Rattle.std.proofs.Common.{◌≡◌, ◌≤◌, ℕ, ◌-◌, length}
use Rattle.okws_base.specs.declared.limit.TheConstants.{LONGEST_HEAD}
use Rattle.http_text.specs.Reading.{HasFront, Unfinished}
use Rattle.http_front.specs.Places.{At}
use Rattle.http_front.specs.Pulling.{HasRead}
use Rattle.http_front.proofs.pulling.read_head.Given as goal

-- no head is whole yet, and nothing settled; it's known where the bytes end
abbrev pub invariant-loop-place : goal.invariant-loop-place
invariant-loop-place g l = record {
  read : (written : ℕ) → HasRead (g.C.Conn.wire l.fn.conn) (g.C.Conn.wire l.conn) l.bytes.items written;
  front : HasFront l.bytes.items Unfinished;
  at : At l.place l.bytes.items;
  given : (g.C.Conn.wire l.conn).given ≡ (g.C.Conn.wire l.fn.conn).given;
  still : (g.C.Conn.wire l.conn).faults ≡ (g.C.Conn.wire l.fn.conn).faults;
}

abbrev pub decreases-loop-place : goal.decreases-loop-place
decreases-loop-place g l = LONGEST_HEAD - length l.bytes.items
