use Rattle.std.proofs.Common.{◌≡◌, ◌∙◌, ◌+◌, ◌∷◌, ◌++◌, [], ℕ, List, Bool, None, Some, true, false, ap, arith, get_or, length, sym, take}
use Rattle.std.specs.Prelude.{filter}
use Rattle.std.proofs.lemmas.List.{map-append}
use Rattle.okws_base.specs.declared.value.Value.{Value}
use Rattle.okws_plan.specs.Meaning.{meets_all}
use Rattle.row_index.specs.Stands.{standing}
use Rattle.row_index.specs.declared.placed.Stand.{Stand}
use Rattle.row_search.specs.declared.finding.Hit.{Hit}
use Rattle.row_search.proofs.Scanned.{one_more, none_more, one_counted, front_stands, passing_more, missing_more}
use Rattle.row_search.proofs.finding.scanned.Goals as goal
use Rattle.row_search.proofs.finding.scanned.Goals.{in-None, in-Some+then-meets_every+in_ok-push-in-Some, in-Some+else-meets_every}

pub returns-in_err-push-in-Some-clause-most : goal.returns-in_err-push-in-Some-clause-most
returns-in_err-push-in-Some-clause-most g c =
    let stands : List Stand = c.args.stands.now in
    let i : ℕ = c.loop-stand.stand-index in
    let d : Stand = c.stand-item.result in
    let some : (get_or stands i d).row ≡ Some c.in-Some.row.now = ap (λ (s : Stand). s.row) (sym c.stand-item.is) ∙ sym c.in-Some.ensures.value in
    omega (arith, c.tick.ensures, c.loop-stand.invariant.counted, one_counted stands i d c.in-Some.row.now c.loop-stand-test.true some, front_stands stands (i + 1))

pub loop-stand-preserved : goal.loop-stand-preserved
loop-stand-preserved g c =
    let stands : List Stand = c.args.stands.now in
    let i : ℕ = c.loop-stand.stand-index in
    let d : Stand = c.stand-item.result in
    let test : List Value → Bool = meets_all c.args.args.now c.args.conditions.now in
    let at : (get_or stands i d).row ≡ d.row = ap (λ (s : Stand). s.row) (sym c.stand-item.is) in
    let front : List (ℕ × List Value) = standing (take i stands) in
    let met : List (ℕ × List Value) → List (ℕ × List Value) = filter (λ (e : ℕ × List Value). test e.1) in
    elim c.match-as_ref.branch [
      | in-None w ↦
          let none : (get_or stands i d).row ≡ None = at ∙ sym w.in-None.ensures.value in
          let same : standing (take (i + 1) stands) ≡ front = none_more stands i d c.loop-stand-test.true none in
          record {
            entries = rw w.hits-is (c.loop-stand.invariant.entries ∙ ap met (sym same));
            counted = rw w.steps-is (c.loop-stand.invariant.counted ∙ ap (λ (es : List (ℕ × List Value)). c.args.steps.now + length es) (sym same));
          }
      | in-Some+then-meets_every+in_ok-push-in-Some w ↦
          let row : List Value = w.in-Some.row.now in
          let some : (get_or stands i d).row ≡ Some row = at ∙ sym w.in-Some.ensures.value in
          let passes : test row ≡ true = ap test (sym w.as_slice.ensures) ∙ sym w.meets_every.ensures ∙ w.if-meets_every.true in
          record {
            entries =
                rw (w.hits-is, w.in_ok-push-in-Some.ensures.items)
                (map-append (λ (h : Hit). (h.place, h.row.now)) c.loop-stand.hits.items (record { place = d.place; row = w.in-Some.row } ∷ [])
                ∙ ap (λ (es : List (ℕ × List Value)). es ++ (d.place, row) ∷ []) c.loop-stand.invariant.entries
                ∙ ap (λ (s : Stand). met front ++ (s.place, row) ∷ []) c.stand-item.is
                ∙ sym (ap met (one_more stands i d row c.loop-stand-test.true some) ∙ passing_more test front ((get_or stands i d).place, row) passes));
            counted = omega (arith, w.steps-is, w.tick.ensures, c.loop-stand.invariant.counted, one_counted stands i d row c.loop-stand-test.true some);
          }
      | in-Some+else-meets_every w ↦
          let row : List Value = w.in-Some.row.now in
          let some : (get_or stands i d).row ≡ Some row = at ∙ sym w.in-Some.ensures.value in
          let misses : test row ≡ false = ap test (sym w.as_slice.ensures) ∙ sym w.meets_every.ensures ∙ w.if-meets_every.false in
          record {
            entries =
                rw w.hits-is
                (c.loop-stand.invariant.entries
                ∙ sym (ap met (one_more stands i d row c.loop-stand-test.true some) ∙ missing_more test front ((get_or stands i d).place, row) misses));
            counted = omega (arith, w.steps-is, w.tick.ensures, c.loop-stand.invariant.counted, one_counted stands i d row c.loop-stand-test.true some);
          }
    ]
