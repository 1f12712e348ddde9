use Rattle.std.proofs.Common.{◌≤◌, ◌-◌, length, take}
use Rattle.okws_outer.specs.Wire.{Receives}
use Rattle.frame_link.proofs.Nexts.{HasCome}
use Rattle.frame_link.proofs.receiving.fill_up.Given as goal

abbrev pub invariant-loop-done : goal.invariant-loop-done
invariant-loop-done g l = record {
  within : l.done ≤ length l.room;
  read : HasCome (g.L.Link.wire l.fn.link).left (g.L.Link.wire l.link).left (take l.first l.fn.room) l.room l.done;
  link : Receives (g.L.Link.wire l.fn.link) (g.L.Link.wire l.link) ⊥;
}

abbrev pub decreases-loop-done : goal.decreases-loop-done
decreases-loop-done g l = length l.room - l.done
