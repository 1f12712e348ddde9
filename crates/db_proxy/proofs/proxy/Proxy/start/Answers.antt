use Rattle.std.proofs.Common.{◌∙◌, ap, rules, subst}
use Rattle.std.specs.Arc.{arc_value}
use Rattle.okws_plan.specs.declared.statement.Answer.TheVariants.{Duplicate, Rows}
use Rattle.db_proxy.specs.Permit.{MayBeAnswered}
use Rattle.db_proxy.specs.Seen.{Seen}
use Rattle.db_proxy.proofs.Untold.{may_be_answered}
use Rattle.db_proxy.proofs.Verdicts.{done_answers, done_fault, done_verdict, mark_done}
use Rattle.db_proxy.proofs.proxy.Proxy.start.Goals as goal
use Rattle.db_proxy.proofs.proxy.Proxy.start.Goals.{in-Err, in-Ok+in-Ok-begin, in-Ok+in-Err-Failed}

pub returns-clause-entry : goal.returns-clause-entry
returns-clause-entry g c = (
  c.match-allowed.mark.0,
  search rules,
  search rules,
  search rules,
  elim c.match-allowed.branch [
    | in-Err w ↦ (Duplicate, search rules, λ none done untold. search rules)
    | in-Ok+in-Ok-begin w ↦ (
      w.in-Ok-begin.ensures.ok.0,
      done_answers (λ (pin : g.row.K-Pin.Denot). Rows (g.K.Pin.Pinned.width pin) (g.K.Pin.Pinned.rows pin)) _ _ _ _ w.mark-is (search rules) w.in-Ok-begin.ensures.ok.1,
      λ none done untold.
          subst (λ (v : Seen). MayBeAnswered v.config v.number c.args.call w.in-Ok-begin.ensures.ok.0) c.self.view_is
          (may_be_answered (arc_value c.self.inside.config) c.deref.result.now c.self.inside.number c.args.call _ _ _ _ _ _ c.deref.ensures w.in-Ok.ensures.ok.1 c.self.invariant.tables_are w.in-Ok-begin.ensures.ok.2 (ap (λ (v : Seen). v.told) c.self.view_is ∙ untold)),
    )
    | in-Ok+in-Err-Failed w ↦ (Duplicate, search rules, λ none done untold. search rules)
  ],
  elim c.match-allowed.branch [
    | in-Err w ↦ search rules
    | in-Ok+in-Ok-begin w ↦ rw (← c.self.view_is) (done_verdict (λ (pin : g.row.K-Pin.Denot). Rows (g.K.Pin.Pinned.width pin) (g.K.Pin.Pinned.rows pin)) c.match-allowed.mark _ (arc_value c.self.inside.config) c.self.inside.number c.self.inside.head.past c.args.call w.in-Ok.query.now (g.K.Keeper.tables c.self.inside.keeper) _ (g.K.Keeper.told c.self.inside.keeper) _ _ w.mark-is (search rules) (search rules) w.in-Ok-begin.ensures.ok.1 c.self.invariant.tables_are w.as_slice.ensures c.self.invariant.rows_are w.in-Ok-begin.ensures.ok.2)
    | in-Ok+in-Err-Failed w ↦ search rules
  ],
)

pub returns-clause-still : goal.returns-clause-still
unfolding returns-clause-entry
returns-clause-still g c = λ none.
    let entry = returns-clause-entry g c in
    let done = mark_done entry.0 c.args.call _ _ _ entry.1 none in
    elim c.match-allowed.branch [
      | in-Err w ↦ search rules
      | in-Ok+in-Ok-begin w ↦ search rules
      | in-Ok+in-Err-Failed w ↦ absurd (done_fault c.match-allowed.mark.0 done (ap (λ m. m.0) w.mark-is))
    ]
