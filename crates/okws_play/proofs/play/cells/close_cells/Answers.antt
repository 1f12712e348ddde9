use Rattle.std.proofs.Common.{◌≡◌, ◌∙◌, ◌∷◌, [], rules, sym}
use Rattle.okws_play.proofs.Closing.{has_none, has_more, has_all, nothing_left}
use Rattle.okws_play.proofs.play.cells.close_cells.Goals as goal

pub loop-cell-init : goal.loop-cell-init
loop-cell-init c = λ C seed seats. has_none C seed c.args.cells.items c.into_iter-cell-iterator.result.rest.items _ _ (search rules) (search rules) (search rules) seats

pub loop-cell-preserved : goal.loop-cell-preserved
loop-cell-preserved c = λ C seed seats.
    let left : c.loop-cell.cell-iterator.rest.items ≡ c.in-Some.cell ∷ c.next.new.self.rest.items = c.in-Some.ensures.steps.0 in
    rw (c.in_ok-push.ensures.items, c.in_ok-push-2.ensures.items)
    (has_more _ _ _ c.loop-cell.yielded c.loop-cell.cell-iterator.rest.items c.next.new.self.rest.items c.in-Some.cell c.loop-cell.pasts.items c.loop-cell.sents.items c.close-past.result.0 c.close-past.result.1 (c.loop-cell.invariant C seed seats) left c.close-past.ensures.past c.close-past.ensures.links c.close-past.ensures.sent)

pub returns : goal.returns
returns c = λ C seed seats.
    let none : c.loop-cell.cell-iterator.rest.items ≡ [] = nothing_left c.loop-cell.cell-iterator.rest.items (sym c.loop-cell.cell-iterator.rest.ok.0 ∙ c.in-None.ensures.steps.0) in
    has_all _ _ _ c.loop-cell.yielded c.loop-cell.cell-iterator.rest.items c.loop-cell.pasts.items c.loop-cell.sents.items (c.loop-cell.invariant C seed seats) none
