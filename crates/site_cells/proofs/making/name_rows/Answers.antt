use Rattle.std.proofs.Common.{rules, arith, ◌≡◌, ◌+◌, suc, ◌++◌, ◌∷◌, [], map, subst}
use Rattle.std.specs.Prelude.{vec_len}
use Rattle.turn_lock.proofs.Rows.{pushed_map}
use Rattle.site_cells.specs.Making.{Naming}
use Rattle.site_cells.proofs.Places.{seen_of}
use Rattle.site_cells.proofs.Names.{naming_next, seats_popped}
use Rattle.site_cells.proofs.making.name_rows.Goals as goal

pub invariant_of-push_reserved : goal.invariant_of-push_reserved
invariant_of-push_reserved g c =
    let more = c.loop-seats.rows.items in
    let left = c.pop.new.self.items in
    let r = c.in-Some.seats in
    seats_popped g.C.CellNames.cell_turns (vec_len c.args.rows) (map (λ s. s.items) more) (map (λ s. s.items) left) r.items c.loop-seats.all.items c.loop-seats.number (pushed_map (λ s. s.items) more left r c.in-Some.ensures.items) c.loop-seats.invariant.0

pub loop-seats-preserved : goal.loop-seats-preserved
loop-seats-preserved g c =
    let more = c.loop-seats.rows.items in
    let left = c.pop.new.self.items in
    let r = c.in-Some.seats in
    let number = c.loop-seats.number in
    let put : c.push_reserved.new.self.items ≡ c.loop-seats.all.items ++ seen_of number r.items ∷ [] = search rules in (
      subst (Naming g.C.CellNames.cell_turns (vec_len c.args.rows) (map (λ s. s.items) left) c.push_reserved.new.self.items) (let q : suc number ≡ number + 1 = omega arith in q) (naming_next g.C.CellNames.cell_turns (vec_len c.args.rows) (map (λ s. s.items) more) (map (λ s. s.items) left) r.items c.loop-seats.all.items number (pushed_map (λ s. s.items) more left r c.in-Some.ensures.items) c.loop-seats.invariant.0 c.push_reserved.new.self.items put),
      search rules,
    )
