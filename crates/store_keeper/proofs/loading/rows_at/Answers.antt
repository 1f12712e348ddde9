use Rattle.std.proofs.Common.{◌≡◌, ap, sym, subst, true}
use Rattle.std.specs.Prelude.{Ok}
use Rattle.okws_plan.specs.Rules.{keeps_rules}
use Rattle.store_keeper.proofs.Whole.{whole_keeps}
use Rattle.store_keeper.proofs.Reading.{rows_read}
use Rattle.store_keeper.proofs.loading.rows_at.Goals as goal

pub run-requires-clause-rules : goal.run-requires-clause-rules
run-requires-clause-rules g c =
    subst (λ st. keeps_rules (g.K.Keeper.tables c.args.keeper.now) st ≡ true) (sym c.in_ok-statement.ensures)
    (whole_keeps (g.K.Keeper.tables c.args.keeper.now) c.args.table c.args.count c.requires.there c.requires.count c.requires.some c.requires.few)

pub returns-clause-read : goal.returns-clause-read
returns-clause-read g c =
    (rows_read (g.K.Keeper.tables c.args.keeper.now) c.args.table c.args.count c.in-Rows.columns c.in-Rows.rows c.in_ok-statement.statement _ _ _ c.in_ok-statement.ensures (ap Ok c.in-Rows.is) c.in_ok-rows.ensures.rows).1
