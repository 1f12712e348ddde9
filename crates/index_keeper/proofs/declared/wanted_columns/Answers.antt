use Rattle.std.proofs.Common.{◌∙◌, sym, ℕ, Bool}
use Rattle.index_keeper.specs.Indexed.{is_wanted}
use Rattle.index_keeper.proofs.Counted.{counted_hit, counted_miss}
use Rattle.index_keeper.proofs.declared.wanted_columns.Goals as goal
use Rattle.index_keeper.proofs.declared.wanted_columns.Goals.{then-wants+in_ok-push, else-wants}

pub loop-column-preserved : goal.loop-column-preserved
loop-column-preserved c =
    let wanted : ℕ → Bool = is_wanted c.args.tables.now c.args.queries.now c.args.table c.args.columns.now in
    elim c.if-wants.branch [
      | then-wants+in_ok-push w ↦ rw (w.out-is, w.in_ok-push.ensures.items, c.loop-column.invariant) (sym (counted_hit wanted c.loop-column.column (sym c.wants.ensures ∙ w.if-wants.true)))
      | else-wants w ↦ rw w.out-is (c.loop-column.invariant ∙ sym (counted_miss wanted c.loop-column.column (sym c.wants.ensures ∙ w.if-wants.false)))
    ]
