use Rattle.std.proofs.Common.{◌≡◌, subst, false, ℕ, List, IfSome}
use Rattle.row_index.specs.Index.{is_indexed}
use Rattle.index_keeper.proofs.rows.TableRows.sole_setting.Goals as goal

pub returns-clause-plain : goal.returns-clause-plain
returns-clause-plain c =
    rw (← c.self.view_is) (subst (λ (columns : List ℕ). IfSome c.sole_setting.result (λ x. is_indexed columns x.1.now.column ≡ false)) c.deref.ensures.value c.sole_setting.ensures.plain)
