use Rattle.std.proofs.Common.{rules, ◌≡◌, ◌++◌, ◌∷◌, [], map, reverse, sym, ap, ◌∙◌, subst, length}
use Rattle.std.proofs.lemmas.List.{length-map}
use Rattle.turn_lock.specs.Rows.{AllNone, FreshRows, AllCount}
use Rattle.turn_lock.proofs.Rows.{pushed_map}
use Rattle.turn_lock.proofs.Dealt.{none-pop, none-reverse, map-reverse, labels_first, labels_next, count-push, fresh_beside, beside_length}
use Rattle.turn_lock.proofs.row.make_row.Goals as goal

pub loop-value-init : goal.loop-value-init
loop-value-init g c =
    let journal = g.V.Journaled.journal in
    let label = g.V.Journaled.label in
    let all = c.args.values.items in
    let none : c.in_ok-turns.turns.items ≡ [] = search rules in
    let left : c.turned-left.result.items ≡ reverse all = c.turned-left.ensures in (
      subst AllNone (sym (ap (map journal) left ∙ map-reverse journal all)) (none-reverse (map journal all) c.requires.journals),
      labels_first label all c.turned-left.result.items (map (λ t. t.label) c.in_ok-turns.turns.items) left (ap (map (λ t. t.label)) none),
      subst (AllCount c.args.count) (sym none) tt,
      subst (λ ts. FreshRows ts 0 (map (λ s. s.items) c.in_ok-rows.rows.items)) (sym none) c.in_ok-rows.ensures.1,
      c.in_ok-rows.ensures.0,
    )

pub new-requires-clause-journal : goal.new-requires-clause-journal
new-requires-clause-journal g c =
    let journal = g.V.Journaled.journal in
    let left = c.pop.new.self.items in
    (none-pop (map journal left) (journal c.in-Some.value) (subst AllNone (pushed_map journal c.loop-value.left.items left c.in-Some.value c.in-Some.ensures.items) c.loop-value.invariant.0)).1

pub loop-value-preserved : goal.loop-value-preserved
loop-value-preserved g c =
    let journal = g.V.Journaled.journal in
    let label = g.V.Journaled.label in
    let i = c.loop-value.invariant in
    let more = c.loop-value.left.items in
    let left = c.pop.new.self.items in
    let v = c.in-Some.value in
    let e = c.in-Some.ensures.items in
    let turns = c.loop-value.turns.items in
    let now = c.push.new.self.items in
    let turn = c.in-Ok.turn in
    let made = c.in-Ok.ensures.ok in
    let rows = map (λ s. s.items) c.loop-value.rows.items in
    let longer = map (λ s. s.items) c.in_ok-rows-2.rows.items in
    let pushed : now ≡ turns ++ turn ∷ [] = search rules in
    let beside = c.in_ok-rows-2.ensures in
    let n = (beside_length rows c.in-Ok.seats.items longer beside).1 in
    let p = length-map c.loop-value.rows.items (λ s. s.items) in
    let q = length-map c.in_ok-rows-2.rows.items (λ s. s.items) in
    let size : length c.in_ok-rows-2.rows.items ≡ length c.loop-value.rows.items = sym q ∙ (n ∙ p) in (
      (none-pop (map journal left) (journal v) (subst AllNone (pushed_map journal more left v e) i.0)).0,
      labels_next label c.args.values.items more left v (map (λ t. t.label) turns) (map (λ t. t.label) now) turn.label e (pushed_map (λ t. t.label) now turns turn pushed) made.1 i.1,
      subst (AllCount c.args.count) (sym pushed) (count-push c.args.count turns turn i.2 made.0),
      subst (λ ts. FreshRows ts 0 longer) (sym pushed) (fresh_beside turns turn 0 rows c.in-Ok.seats.items longer i.3 made.3 beside),
      search rules,
    )
