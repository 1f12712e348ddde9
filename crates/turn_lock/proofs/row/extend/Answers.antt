use Rattle.std.proofs.Common.{rules, ◌≡◌, ◌++◌, ◌∷◌, [], map, reverse, sym, ap, ◌∙◌, subst, length}
use Rattle.turn_lock.specs.Rows.{Beside}
use Rattle.turn_lock.proofs.Spots.{empty_of}
use Rattle.turn_lock.proofs.Rows.{pushed_map}
use Rattle.turn_lock.proofs.Dealt.{extends_first, extends_next, extends_last, map-reverse}
use Rattle.turn_lock.proofs.row.extend.Goals as goal

pub loop-row-init : goal.loop-row-init
loop-row-init g c =
    let none : c.in_ok-longer.longer.items ≡ [] = search rules in
    (extends_first (map (λ s. s.items) c.args.rows.items) c.args.seats.items (map (λ s. s.items) c.in_ok-longer.longer.items) (ap (map (λ s. s.items)) none), c.requires)

pub loop-row-preserved : goal.loop-row-preserved
loop-row-preserved g c =
    let more = c.loop-row.rows.items in
    let left = c.pop.new.self.items in
    let longer = c.loop-row.longer.items in
    let now = c.push-in-Some.new.self.items in
    let row = c.in-Some.row in
    let put = c.push.new.self in
    let items : now ≡ longer ++ put ∷ [] = search rules in
    let one : put.items ≡ row.items ++ c.in-Some-pop.seat ∷ [] = search rules in (
      extends_next (map (λ s. s.items) c.args.rows.items) (map (λ s. s.items) more) (map (λ s. s.items) left) c.args.seats.items c.loop-row.seats.items c.pop-in-Some.new.self.items row.items put.items c.in-Some-pop.seat (map (λ s. s.items) longer) (map (λ s. s.items) now)
          (pushed_map (λ s. s.items) more left row c.in-Some.ensures.items) c.in-Some-pop.ensures.items one (pushed_map (λ s. s.items) now longer put items) c.loop-row.invariant.0,
      search rules,
    )

pub returns : goal.returns
returns g c =
    let longer = c.loop-row.longer.items in
    let none : length c.loop-row.rows.items ≡ 0 = search rules in
    let none_left : length c.loop-row.seats.items ≡ 0 = search rules in
    let turned : c.turned.result.items ≡ reverse longer = c.turned.ensures in
    subst (Beside (map (λ s. s.items) c.args.rows.items) c.args.seats.items) (sym (ap (map (λ s. s.items)) turned ∙ map-reverse (λ s. s.items) longer))
    (extends_last (map (λ s. s.items) c.args.rows.items) (map (λ s. s.items) c.loop-row.rows.items) c.args.seats.items c.loop-row.seats.items (map (λ s. s.items) longer) (ap (map (λ s. s.items)) (empty_of c.loop-row.rows.items none)) (empty_of c.loop-row.seats.items none_left) c.loop-row.invariant.0)
