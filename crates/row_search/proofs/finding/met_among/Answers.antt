use Rattle.std.proofs.Common.{◌≡◌, ◌∙◌, ◌∷◌, ◌++◌, [], ℕ, List, Option, Some, None, get_or, ap, sym, arith}
use Rattle.std.specs.Prelude.{option_map}
use Rattle.std.proofs.lemmas.List.{map-append}
use Rattle.okws_base.specs.declared.value.Value.{Value}
use Rattle.okws_plan.specs.Meaning.{meets_all}
use Rattle.row_index.specs.Places.{row_at}
use Rattle.row_search.specs.Hits.{entry_at, passing}
use Rattle.row_search.specs.declared.finding.Hit.{Hit}
use Rattle.row_search.proofs.Entries.{filter_map_some, filter_map_none}
use Rattle.row_search.proofs.finding.met_among.Goals as goal
use Rattle.row_search.proofs.finding.met_among.Goals.{in-Some+in_ok-push-in-Some, in-None}

pub loop-place-preserved : goal.loop-place-preserved
loop-place-preserved g c =
    let place : ℕ = get_or c.args.places.now c.loop-place.place-index 0 in
    let found : ℕ → Option (ℕ × List Value) = λ (p : ℕ). entry_at (meets_all c.args.args.now c.args.conditions.now) p (row_at c.args.rows.now.entries p) in
    elim c.match-row_met.branch [
      | in-Some+in_ok-push-in-Some w ↦
          let row = w.in-Some.row in
          let here : found place ≡ Some (place, row.now) = ap (option_map (λ (r : List Value). (place, r))) (ap (passing (meets_all c.args.args.now c.args.conditions.now)) (sym c.get.ensures) ∙ sym w.in-Some.ensures) in
          record {
            entries =
                rw (w.hits-is, w.in_ok-push-in-Some.ensures.items)
                (map-append (λ (h : Hit). (h.place, h.row.now)) c.loop-place.hits.items (record { place = place; row = row } ∷ [])
                ∙ ap (λ (front : List (ℕ × List Value)). front ++ (place, row.now) ∷ []) c.loop-place.invariant.entries
                ∙ sym (filter_map_some found c.args.places.now c.loop-place.place-index 0 (place, row.now) c.loop-place-test.true here));
            counted = omega (arith, c.tick.ensures, c.loop-place.invariant.counted);
          }
      | in-None w ↦
          let here : found place ≡ None = ap (option_map (λ (r : List Value). (place, r))) (ap (passing (meets_all c.args.args.now c.args.conditions.now)) (sym c.get.ensures) ∙ sym w.in-None.ensures) in
          record {
            entries =
                rw w.hits-is
                (c.loop-place.invariant.entries
                ∙ sym (filter_map_none found c.args.places.now c.loop-place.place-index 0 c.loop-place-test.true here));
            counted = omega (arith, c.tick.ensures, c.loop-place.invariant.counted);
          }
    ]
