use Rattle.std.proofs.Common.{arith}
use Rattle.std.proofs.lemmas.Grind.{common_steps}
use Rattle.okws_outer.proofs.Given.{moved}
use Rattle.okws_outer.proofs.memory.coming.Coming.pull.Goals as goal

pub returns-clause-bytes : goal.returns-clause-bytes
returns-clause-bytes c = grind (arith, common_steps, moved c.self.inside.bytes.items c.copy_from_slice.new.self)
