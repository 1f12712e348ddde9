use Rattle.std.proofs.Common.{rules, refl}
use Rattle.okws_plan.specs.declared.statement.Answer.TheVariants.{Rows}
use Rattle.db_proxy.proofs.Selecting.{pinned_runs}
use Rattle.db_proxy.proofs.starting.begin.Goals as goal

pub returns-then-lists_rows-clause-ok : goal.returns-then-lists_rows-clause-ok
returns-then-lists_rows-clause-ok g c = (
  Rows (g.K.Pin.Pinned.width c.in_ok-pin.field-0) (g.K.Pin.Pinned.rows c.in_ok-pin.field-0),
  refl,
  pinned_runs (g.K.Keeper.tables c.args.keeper.now) c.args.statement.now c.args.args.now (g.K.Keeper.told c.args.keeper.now) _ _ (search rules) c.in_ok-pin.ensures.answer c.in_ok-pin.ensures.told,
)
