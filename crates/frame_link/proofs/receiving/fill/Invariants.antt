use Rattle.std.proofs.Common.{◌≡◌, ◌≤◌, ℕ, List, ◌++◌, ◌-◌, length}
use Rattle.std.specs.Io.KnownBytes.{Consumes}
use Rattle.okws_outer.specs.Wire.{Receives}
use Rattle.frame_link.proofs.receiving.fill.Given as goal

abbrev pub invariant-loop-bytes : goal.invariant-loop-bytes
invariant-loop-bytes g l = record {
  read : (more : List ℕ) × Consumes (g.L.Link.wire l.fn.link).left (g.L.Link.wire l.link).left more × (l.bytes.items ≡ l.fn.bytes.items ++ more);
  within : length l.bytes.items ≤ l.total;
  link : Receives (g.L.Link.wire l.fn.link) (g.L.Link.wire l.link) ⊥;
}

abbrev pub decreases-loop-bytes : goal.decreases-loop-bytes
decreases-loop-bytes g l = l.total - length l.bytes.items
