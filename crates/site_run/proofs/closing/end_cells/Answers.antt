use Rattle.std.proofs.Common.{rules, ◌≡◌, ◌+◌, ◌++◌, ◌∷◌, [], ℕ, suc, List, map, reverse, length, refl, sym, ap, ◌∙◌, subst, arith, append-nil}
use Rattle.monitor_model.specs.declared.record.CellEvent.{CellEvent}
use Rattle.site_cells.specs.Held.{Held, by_event}
use Rattle.site_cells.specs.Closing.{AllCellsGrow}
use Rattle.site_cells.specs.Row.{Rise}
use Rattle.turn_lock.specs.Rows.{NoneFrom}
use Rattle.turn_lock.proofs.Rows.{turned_push}
use Rattle.turn_lock.proofs.Spots.{empty_of}
use Rattle.site_run.specs.Journals.{AllCells}
use Rattle.site_run.proofs.Lists.{cells_push}
use Rattle.site_run.proofs.Making.{moved}
use Rattle.site_making.proofs.Turned.{turned_back}
use Rattle.site_run.proofs.Seating.{push_length}
use Rattle.site_run.proofs.closing.end_cells.Goals as goal

pub loop-cell-init : goal.loop-cell-init
loop-cell-init g c =
    let past : Held → List CellEvent = λ x. x.standing.past in
    let service : Held → ℕ = λ x. x.standing.service in
    let none : c.room.inside.room.events.items ≡ [] = empty_of c.room.inside.room.events.items (search rules) in
    let alone : c.room.inside.room.sents.items ≡ [] = empty_of c.room.inside.room.sents.items (search rules) in
    let closed = c.close_cells.result.items in
    let cells = c.turned-cells.result.items in
    let turned : cells ≡ reverse closed = c.turned-cells.ensures.items in
    record {
      none = subst (λ l. NoneFrom (by_event g.N.Numbered.launcher) c.args.count (l ++ reverse (map past cells))) (sym none)
          (subst (NoneFrom (by_event g.N.Numbered.launcher) c.args.count) (sym (turned_back past closed cells turned)) c.close_cells.ensures.none);
      grown = subst (λ l. AllCellsGrow g.N.Numbered.launcher c.args.seats.items (l ++ reverse (map past cells))) (sym none)
          (subst (AllCellsGrow g.N.Numbered.launcher c.args.seats.items) (sym (turned_back past closed cells turned)) c.close_cells.ensures.told);
      numbered = subst (λ l. Rise (length l) (reverse (map service cells))) (sym none) (subst (Rise 0) (sym (turned_back service closed cells turned)) c.close_cells.ensures.services);
      laws = subst (λ l. AllCells g.N.Numbered.site g.N.Numbered.run_seed 0 l c.room.inside.room.sents.items) (sym none) (subst (AllCells g.N.Numbered.site g.N.Numbered.run_seed 0 []) (sym alone) tt);
      many = search rules;
      alike = search rules;
      events_room = search rules;
      sents_room = search rules;
    }

pub loop-cell-preserved : goal.loop-cell-preserved
loop-cell-preserved g c =
    let C = g.N.Numbered.site in
    let seed = g.N.Numbered.run_seed in
    let past : Held → List CellEvent = λ x. x.standing.past in
    let service : Held → ℕ = λ x. x.standing.service in
    let i = c.loop-cell.invariant in
    let more = c.loop-cell.cells.items in
    let left = c.pop.new.self.items in
    let x = c.in-Some.cell in
    let e = c.in-Some.ensures.items in
    let J = c.close-events.result.0 in
    let sent = c.close-events.result.1 in
    let events = c.loop-cell.end.events.items in
    let events_now = c.push_reserved.new.self.items in
    let sents = c.loop-cell.end.sents.items in
    let sents_now = c.push_reserved-in-Some.new.self.items in
    let put : events_now ≡ events ++ J ∷ [] = search rules in
    let given : sents_now ≡ sents ++ sent ∷ [] = search rules in
    let rise : Rise (length events) (service x ∷ reverse (map service left)) = subst (Rise (length events)) (turned_push service more left x e) i.numbered in
    let size : length events_now ≡ suc (length events) = ap length put ∙ push_length events J in
    let at : service x ≡ length events + 0 = (let q = rise.0 in omega arith) in
    record {
      none = subst (NoneFrom (by_event g.N.Numbered.launcher) c.args.count) (sym (moved past more left x events events_now J _ e put c.close-events.ensures.past refl)) i.none;
      grown = subst (AllCellsGrow g.N.Numbered.launcher c.args.seats.items) (sym (moved past more left x events events_now J _ e put c.close-events.ensures.past refl)) i.grown;
      numbered = subst (λ k. Rise k (reverse (map service left))) (sym size) rise.1;
      laws = subst (λ l. AllCells C seed 0 l sents_now) (sym put) (subst (AllCells C seed 0 (events ++ J ∷ [])) (sym given) (cells_push C seed 0 (service x) events J sents sent at i.laws c.close-events.ensures.law c.close-events.ensures.sent));
      many = search rules;
      alike = search rules;
      events_room = search rules;
      sents_room = search rules;
    }

pub returns-clause-none : goal.returns-clause-none
returns-clause-none g c =
    let past : Held → List CellEvent = λ x. x.standing.past in
    let events = c.loop-cell.end.events.items in
    let none = empty_of c.loop-cell.cells.items (search rules) in
    subst (NoneFrom (by_event g.N.Numbered.launcher) c.args.count) (ap (λ l. events ++ reverse (map past l)) none ∙ append-nil events) c.loop-cell.invariant.none

pub returns-clause-grown : goal.returns-clause-grown
returns-clause-grown g c =
    let past : Held → List CellEvent = λ x. x.standing.past in
    let events = c.loop-cell.end.events.items in
    let none = empty_of c.loop-cell.cells.items (search rules) in
    subst (AllCellsGrow g.N.Numbered.launcher c.args.seats.items) (ap (λ l. events ++ reverse (map past l)) none ∙ append-nil events) c.loop-cell.invariant.grown
