use Rattle.std.proofs.Common.{◌≡◌, ◌∙◌, sym, subst, true}
use Rattle.row_index.specs.Index.{is_indexed}
use Rattle.row_search.specs.Places.{Indexed}
use Rattle.row_search.proofs.Keyed.{new_is}
use Rattle.row_search.proofs.Scanned.{if_ok_both}
use Rattle.index_keeper.proofs.rows.TableRows.push_indexed.Goals as goal

pub returns-clause-came : goal.returns-clause-came
returns-clause-came c =
    let has : is_indexed c.self.inside.columns.items c.args.own ≡ true = subst (λ (t : Indexed). is_indexed t.columns c.args.own ≡ true) (sym c.self.view_is) c.requires in
    rw (← c.self.view_is)
    (if_ok_both c.append_new.result (λ came is rise. is ∙ new_is c.self.inside.columns.items c.self.inside.rows.entries c.self.inside.slots c.args.own c.args.new c.self.invariant.index c.self.invariant.rising rise has)
    c.append_new.ensures.came c.append_new.ensures.ordered)
