use Rattle.std.proofs.Common.{◌≡◌, take}
use Rattle.started_call.proofs.copying.copy_rows.Given as goal

abbrev pub invariant-loop-row : goal.invariant-loop-row
invariant-loop-row g l = l.rows.items ≡ take l.row (g.P.Pinned.rows l.pin)
