use Rattle.std.proofs.Common.{arith}
use Rattle.frame_codec.specs.Spelling.{service_parts, Fits}
use Rattle.frame_codec.specs.ServiceFields.{service_fields_at}
use Rattle.frame_codec.proofs.Payloads.{service_as_spelled}
use Rattle.frame_codec.proofs.Whole.{tells}
use Rattle.frame_codec.proofs.service_fields.ServiceFrameFrameRead.read.Goals as goal

pub returns : goal.returns
returns c = tells service_parts Fits service_fields_at service_as_spelled c.args.bytes.now c.first_frame.result (λ i. omega (arith, c.type_inv.bytes i)) c.first_frame.ensures
