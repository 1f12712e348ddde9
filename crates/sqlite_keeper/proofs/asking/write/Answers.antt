use Rattle.std.proofs.Common.{inr, sym, subst}
use Rattle.std.specs.Prelude.{IfOk}
use Rattle.sqlite.specs.Held.{state}
use Rattle.sqlite.specs.Values.{bound}
use Rattle.okws_outer.specs.Keeping.{MayAnswer}
use Rattle.sqlite_keeper.proofs.Refused.{told_keeps}
use Rattle.sqlite_keeper.proofs.May.{may}
use Rattle.sqlite_keeper.proofs.asking.write.Goals as goal

pub returns-clause-told : goal.returns-clause-told
returns-clause-told g c clean =
    let told = c.execute-told.ensures.runs clean in
    let keeps = told_keeps (state g.S.Store c.args.conn.now) (state g.S.Store c.execute-told.new.self) c.requires.settled c.args.sql.now (bound c.args.values.now) c.execute-told.result told in
    inr (c.execute-told.result, told, keeps, c.answer_to.ensures)

pub returns-clause-may : goal.returns-clause-may
returns-clause-may g c =
    subst (λ r. IfOk r (MayAnswer c.args.columns.now c.args.action.now)) (sym c.answer_to.ensures) (may c.args.columns.now c.args.action.now c.execute-told.result c.requires.writes)
