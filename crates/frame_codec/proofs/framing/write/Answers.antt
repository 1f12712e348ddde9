use Rattle.std.proofs.Common.{[], sym, false, append-nil}
use Rattle.frame_codec.proofs.framing.write.Goals as goal

pub returns-else-keeper : goal.returns-else-keeper
returns-else-keeper g c =
    let wrote = c.spell.ensures (record { bytes = c.new.result; refused = false }) [] (λ fine. sym (append-nil c.new.result.items)) c.if-keeper.false in
    rw c.new.ensures.items at wrote
