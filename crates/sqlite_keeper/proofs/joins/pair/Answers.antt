use Rattle.std.proofs.Common.{append_assoc}
use Rattle.std.specs.Prelude.{string_bytes}
use Rattle.sqlite_keeper.proofs.Joined.{ok_then}
use Rattle.sqlite_keeper.proofs.Sided.{paired}
use Rattle.sqlite_keeper.proofs.joins.pair.Goals as goal

pub returns : goal.returns
returns c =
    let s = c.args.sides in
    ok_then c.format.result (λ t e. paired s.width s.table s.second c.args.left c.args.right (string_bytes t) _ _ c.in_ok-left.ensures c.in_ok-right.ensures (simp append_assoc e)) c.format.ensures.ok
