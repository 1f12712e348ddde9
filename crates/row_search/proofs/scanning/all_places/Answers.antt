use Rattle.std.proofs.Common.{◌≡◌, ◌∙◌, ◌∷◌, ◌++◌, [], ℕ, List, None, Some, ap, get_or, sym, take}
use Rattle.std.specs.Map.{keys_of}
use Rattle.std.proofs.lemmas.List.{map-append}
use Rattle.okws_base.specs.declared.value.Value.{Value}
use Rattle.row_index.specs.Stands.{standing}
use Rattle.row_index.specs.declared.placed.Stand.{Stand}
use Rattle.row_search.proofs.Scanned.{one_more, none_more}
use Rattle.row_search.proofs.scanning.all_places.Goals as goal
use Rattle.row_search.proofs.scanning.all_places.Goals.{in-None, in-Some+in_ok-push-in-Some}

pub loop-stand-preserved : goal.loop-stand-preserved
loop-stand-preserved c =
    let stands : List Stand = c.args.stands.now in
    let i : ℕ = c.loop-stand.stand-index in
    let d : Stand = c.stand-item.result in
    let at : (get_or stands i d).row ≡ d.row = ap (λ (s : Stand). s.row) (sym c.stand-item.is) in
    let front : List (ℕ × List Value) = standing (take i stands) in
    elim c.match-as_ref.branch [
      | in-None w ↦
          let none : (get_or stands i d).row ≡ None = at ∙ sym w.in-None.ensures.value in
          rw w.places-is (c.loop-stand.invariant ∙ ap keys_of (sym (none_more stands i d c.loop-stand-test.true none)))
      | in-Some+in_ok-push-in-Some w ↦
          let row : List Value = w.in-Some.field-0.now in
          let some : (get_or stands i d).row ≡ Some row = at ∙ sym w.in-Some.ensures.value in
          rw (w.places-is, w.in_ok-push-in-Some.ensures.items)
          (ap (λ (places : List ℕ). places ++ d.place ∷ []) c.loop-stand.invariant
          ∙ ap (λ (s : Stand). keys_of front ++ s.place ∷ []) c.stand-item.is
          ∙ sym (ap keys_of (one_more stands i d row c.loop-stand-test.true some) ∙ map-append (λ (e : ℕ × List Value). e.0) front (((get_or stands i d).place, row) ∷ [])))
    ]
