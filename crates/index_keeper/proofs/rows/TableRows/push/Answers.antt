use Rattle.std.proofs.Common.{◌∙◌, ◌∷◌, [], ℕ, List, ap}
use Rattle.std.proofs.lemmas.List.{map-append}
use Rattle.okws_base.specs.declared.value.Value.{Value}
use Rattle.row_search.specs.Places.{rows_of}
use Rattle.row_search.proofs.Scanned.{on_ok}
use Rattle.index_keeper.proofs.rows.TableRows.push.Goals as goal

pub returns-clause-rows : goal.returns-clause-rows
returns-clause-rows c =
    rw (← c.self.view_is)
    (on_ok c.append.result (λ h. ap rows_of h ∙ map-append (λ (e : ℕ × List Value). e.1) c.self.inside.rows.entries ((c.self.inside.rows.next, c.args.row) ∷ [])) c.append.ensures.entries)
