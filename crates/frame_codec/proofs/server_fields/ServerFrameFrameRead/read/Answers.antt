use Rattle.std.proofs.Common.{arith}
use Rattle.frame_codec.specs.Spelling.{server_parts, FitsServer}
use Rattle.frame_codec.specs.ServerFields.{server_fields_at}
use Rattle.frame_codec.proofs.ServerPayloads.{server_as_spelled}
use Rattle.frame_codec.proofs.Whole.{tells}
use Rattle.frame_codec.proofs.server_fields.ServerFrameFrameRead.read.Goals as goal

pub returns : goal.returns
returns c = tells server_parts FitsServer server_fields_at server_as_spelled c.args.bytes.now c.first_frame.result (λ i. omega (arith, c.type_inv.bytes i)) c.first_frame.ensures
