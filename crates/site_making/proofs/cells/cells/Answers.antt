use Rattle.std.proofs.Common.{rules, ◌≡◌, ◌+◌, ◌++◌, ◌∷◌, [], ℕ, List, map, length, sym, subst, arith}
use Rattle.std.proofs.lemmas.List.{length-map}
use Rattle.monitor_model.specs.declared.record.CellEvent.{CellEvent}
use Rattle.site_cells.specs.Held.{Held}
use Rattle.site_cells.specs.Row.{Rise}
use Rattle.turn_lock.specs.Rows.{AllNone}
use Rattle.turn_lock.proofs.Rows.{pushed_map}
use Rattle.site_making.proofs.Lists.{none_push, services_push}
use Rattle.site_making.proofs.cells.cells.Goals as goal

pub loop-service-preserved : goal.loop-service-preserved
loop-service-preserved g c =
    let entered : Held → List CellEvent = λ x. x.entered in
    let service : Held → ℕ = λ x. x.standing.service in
    let i = c.loop-service.invariant in
    let cells = c.loop-service.cells.items in
    let now = c.push_reserved.new.self.items in
    let one = c.in_ok-cell.cell in
    let put : now ≡ cells ++ one ∷ [] = search rules in
    let m = length-map cells service in
    let n : service one ≡ length (map service cells) + 0 = (let q = i.many in let r = c.in_ok-cell.ensures.1 in search (rules, arith)) in
    record {
      new = subst AllNone (sym (pushed_map entered now cells one put)) (none_push (map entered cells) (entered one) c.in_ok-cell.ensures.0 i.new);
      numbered = subst (Rise 0) (sym (pushed_map service now cells one put)) (services_push 0 (service one) (map service cells) n i.numbered);
      many = search rules;
      room = search rules;
    }
