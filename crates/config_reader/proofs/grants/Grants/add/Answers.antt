use Rattle.std.proofs.Common.{arith}
use Rattle.std.proofs.lemmas.Grind.{common_steps}
use Rattle.config_reader.proofs.grants.Grants.add.Goals as goal

pub returns-then-not-branch-clause-free : goal.returns-then-not-branch-clause-free
returns-then-not-branch-clause-free c =
    grind (arith, common_steps, c.self.invariant (record { service = c.args.service; proxy = c.args.proxy; query = c.args.query }))

pub returns-clause-free : goal.returns-clause-free
returns-clause-free c =
    grind (arith, common_steps, c.self.invariant (record { service = c.args.service; proxy = c.args.proxy; query = c.args.query }))
