use Rattle.std.proofs.Common.{rules, ◌≡◌, ◌≤◌, length, map, sym, subst}
use Rattle.site_cells.specs.Held.{Held}
use Rattle.turn_lock.specs.Seats.{TurnIs}
use Rattle.site_cells.specs.Row.{Rise}
use Rattle.site_cells.proofs.Joins.{as_many_here}
use Rattle.site_cells.proofs.making.make_cells.Goals as goal

pub invariant_of-result : goal.invariant_of-result
invariant_of-result g c =
    let ts = c.in_ok-turns.turns.items in
    let cells = c.args.cells.items in
    let size : length ts ≡ length cells = as_many_here (λ (t : TurnIs). t.label) (λ (h : Held). h.standing.service) ts cells c.in_ok-turns.ensures.labels in
    let few : length (map (λ r. r.items) c.in_ok-turns.rows.items) ≤ 65535 = (let m = Rattle.std.proofs.lemmas.List.length-map c.in_ok-turns.rows.items (λ r. r.items) in search rules) in
    record {
      cells = subst (Rise 0) (sym c.in_ok-turns.ensures.labels) c.requires.services;
      gated = search rules;
      fresh = c.in_ok-turns.ensures.fresh;
      few = few;
    }

pub returns-clause-locks : goal.returns-clause-locks
returns-clause-locks g c =
    let size : length c.in_ok-turns.turns.items ≡ length c.args.cells.items = as_many_here (λ (t : TurnIs). t.label) (λ (h : Held). h.standing.service) c.in_ok-turns.turns.items c.args.cells.items c.in_ok-turns.ensures.labels in
    (search rules, c.in_ok-turns.ensures.counts.0)
