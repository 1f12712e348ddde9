use Rattle.std.proofs.Common.{rules, arith, ◌≡◌, ◌∙◌, map, sym, ap, subst, length}
use Rattle.turn_lock.specs.Rows.{RestRows, SomeRowHas}
use Rattle.turn_tests.proofs.Rounds.{fresh_rest, fresh_has, all_rest, some_has, put_back}
use Rattle.turn_tests.proofs.row.take_rounds.Goals as goal

pub all_rounds-requires-after_bounds : goal.all_rounds-requires-after_bounds
all_rounds-requires-after_bounds g c κs within =
    let ts = c.in_ok-turns.turns.items in
    let same : c.as_mut_slice.result.now ≡ c.in_ok-turns.rows.items = search rules in
    subst (λ r. RestRows ts (map (λ s. s.items) r)) (sym same) (fresh_rest ts 0 (map (λ s. s.items) c.in_ok-turns.rows.items) c.in_ok-turns.ensures.fresh)

pub close_row-requires-clause-rest : goal.close_row-requires-clause-rest
close_row-requires-clause-rest g c =
    let ts = c.in_ok-turns.turns.items in
    let old = c.in_ok-turns.rows.items in
    let now = c.all_rounds.new.rows in
    let same : c.as_mut_slice.result.now ≡ old = search rules in
    let size : length now ≡ length old = c.all_rounds.ensures.count ∙ ap length same in
    let rest = subst (λ r. RestRows ts (map (λ s. s.items) r)) (sym same) (fresh_rest ts 0 (map (λ s. s.items) old) c.in_ok-turns.ensures.fresh) in
    subst (λ r. RestRows ts (map (λ s. s.items) r)) (sym (put_back c.in_ok-turns.rows.len now old size (search rules))) (all_rest ts (map (λ s. s.items) c.as_mut_slice.result.now) (map (λ s. s.items) now) c.all_rounds.ensures.seen rest)

pub close_row-requires-clause-all : goal.close_row-requires-clause-all
close_row-requires-clause-all g c = λ k h.
    let ts = c.in_ok-turns.turns.items in
    let old = c.in_ok-turns.rows.items in
    let now = c.all_rounds.new.rows in
    let same : c.as_mut_slice.result.now ≡ old = search rules in
    let size : length now ≡ length old = c.all_rounds.ensures.count ∙ ap length same in
    let count : length old ≡ c.args.count = search rules in
    let m = Rattle.std.proofs.lemmas.List.length-map old (λ s. s.items) in
    let has = subst (λ r. SomeRowHas k (map (λ s. s.items) r)) (sym same) (fresh_has ts k (map (λ s. s.items) old) c.in_ok-turns.ensures.fresh (omega arith)) in
    subst (λ r. SomeRowHas k (map (λ s. s.items) r)) (sym (put_back c.in_ok-turns.rows.len now old size (search rules))) (some_has k (map (λ s. s.items) c.as_mut_slice.result.now) (map (λ s. s.items) now) c.all_rounds.ensures.seen has)
