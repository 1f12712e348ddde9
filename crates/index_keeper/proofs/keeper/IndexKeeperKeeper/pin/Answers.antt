use Rattle.std.proofs.Common.{◌∙◌}
use Rattle.index_keeper.proofs.Ran.{join_wide, told_rows}
use Rattle.index_keeper.proofs.keeper.IndexKeeperKeeper.pin.Goals as goal

pub new-requires : goal.new-requires
new-requires c =
    join_wide c.deref.result.now (told_rows c.deref-in-Some.result.now) c.args.statement.now.table c.in-Select.selection c.in-Some.join c.args.args.now c.as_slice-columns.result.now c.of.result
    (c.of.ensures ∙ c.in_ok-found.ensures)
    c.as_slice-columns.ensures
