use Rattle.std.proofs.Common.{rules, ◌≡◌, ◌++◌, ◌∷◌, [], map, sym, ap, ◌∙◌, subst}
use Rattle.turn_lock.specs.Rows.{FreshRows}
use Rattle.turn_lock.proofs.Rows.{pushed_map}
use Rattle.turn_lock.proofs.Dealt.{empty-push}
use Rattle.turn_lock.proofs.row.empty_rows.Goals as goal

pub loop-preserved : goal.loop-preserved
loop-preserved g c =
    let rows = c.loop.rows.items in
    let now = c.push_reserved.new.self.items in
    let items : now ≡ rows ++ c.new.result ∷ [] = search rules in
    let none : c.new.result.items ≡ [] = search rules in (
      search rules,
      search rules,
      subst (FreshRows [] 0) (sym (pushed_map (λ s. s.items) now rows c.new.result items ∙ ap (λ l. map (λ s. s.items) rows ++ l ∷ []) none)) (empty-push (map (λ s. s.items) rows) c.loop.invariant.2),
    )
