use Rattle.std.proofs.Common.{◌≡◌, ◌∙◌, ap, [], None, arith, rules, ◌<◌, length, List}
use Rattle.std.specs.Prelude.{slice_index_or}
use Rattle.okws_plan.specs.declared.configuration.Table.{Table}
use Rattle.okws_plan.specs.Meaning.{columns_of}
use Rattle.okws_plan.specs.Rules.{join_of}
use Rattle.row_search.specs.Places.{rows_of}
use Rattle.index_keeper.proofs.Ran.{ran, row_kept, has_table, told_rows}
use Rattle.index_keeper.proofs.keeper.IndexKeeperKeeper.run.Goals as goal

pub returns-clause-rows : goal.returns-clause-rows
returns-clause-rows c =
    let there : c.args.statement.now.table < length c.args.self.now.rows.items = omega (arith, has_table c.args.self.now.tables.items c.args.statement.now c.requires.rules, c.args.self.now.whole) in
    let kept : rows_of c.index_mut-rows.result.now.entries ≡ slice_index_or (told_rows c.args.self.now.rows.items) c.args.statement.now.table [] = row_kept c.args.self.now.rows.items c.args.statement.now.table c.index_mut-rows.result.now there c.index_mut-rows.ensures.value in
    let columns : c.columns_at-columns.result.now ≡ columns_of c.args.self.now.tables.items c.args.statement.now.table = c.columns_at-columns.ensures ∙ ap (λ (tables : List Table). columns_of tables c.args.statement.now.table) c.deref-2.ensures.value in
    let none : join_of c.args.statement.now.action ≡ None = search rules in
    ran _ _ _ _ c.index_mut-rows.result.now c.run_on.new.rows _ c.args.self.now.rows.items c.args.statement.now.table none c.in_ok-answer.ensures.ok columns kept
