use Rattle.std.proofs.Common.{◌≡◌, ap, ◌∙◌, rules}
use Rattle.statement_core.specs.Canonical.{canonical}
use Rattle.statement_core.specs.Compiled.{compiled}
use Rattle.statement_text.proofs.CompilesAgain.{statements_again}
use Rattle.statement_text.proofs.canonical.text_of.Goals as goal

pub returns-clause-again : goal.returns-clause-again
returns-clause-again c =
    let e : c.of.result ≡ canonical c.args.tables.now c.args.statement.now = search rules in
    λ h k l m. ap (compiled c.args.tables.now) e ∙ statements_again c.args.tables.now c.args.statement.now h k l m
