use Rattle.std.proofs.Common.{rules, ◌≡◌, ◌++◌, ◌∷◌, [], map, sym, subst}
use Rattle.turn_lock.specs.Rows.{AllNone}
use Rattle.turn_lock.proofs.Rows.{pushed_map}
use Rattle.turn_lock.proofs.Dealt.{none-push}
use Rattle.turn_tests.proofs.row.columns.Goals as goal

pub loop-label-preserved : goal.loop-label-preserved
loop-label-preserved c =
    let rows = c.loop-label.ledgers.items in
    let now = c.push.new.self.items in
    let new = c.new.result in
    let items : now ≡ rows ++ new ∷ [] = search rules in (
      subst AllNone (sym (pushed_map (λ l. l.past) now rows new items)) (none-push (map (λ l. l.past) rows) new.past c.loop-label.invariant.0 c.new.ensures.past),
      search rules,
    )
