use Rattle.std.proofs.Common.{◌≡◌, ◌∙◌, ℕ, List, Some, ap, sym}
use Rattle.std.specs.Prelude.{filter}
use Rattle.std.specs.Map.{keys_of}
use Rattle.okws_plan.specs.Meaning.{meets_all}
use Rattle.row_index.specs.Places.{row_at}
use Rattle.row_index.proofs.Stood.{each_here}
use Rattle.row_search.specs.Places.{passes_at, leading}
use Rattle.row_search.proofs.Found.{found_by}
use Rattle.index_keeper.proofs.Unstable.{all_tested}
use Rattle.index_keeper.proofs.rows.TableRows.tested.Goals as goal

pub returns-in_default : goal.returns-in_default
returns-in_default c =
    let entries = c.self.inside.rows.entries in
    let test = meets_all c.args.args.now c.args.conditions.now in
    rw (← c.self.view_is) (record {
      rising = c.self.invariant.rising;
      met = ap (filter (λ (p : ℕ). passes_at test (row_at entries p))) (c.in_ok-all.ensures ∙ ap keys_of c.stands.ensures) ∙ all_tested (row_at entries) test entries (each_here entries c.self.invariant.rising);
    })

pub returns : goal.returns
returns c =
    let rows = c.self.inside.rows.entries in
    let test = meets_all c.args.args.now c.args.conditions.now in
    let led : leading c.self.inside.columns.items c.args.conditions.now ≡ Some c.in-Some.condition.now =
    sym (c.in-Some.ensures ∙ ap (λ (cs : List ℕ). leading cs c.args.conditions.now) c.deref.ensures.value) in
    rw (← c.self.view_is) (record {
      rising = c.self.invariant.rising;
      met =
          ap (filter (λ (p : ℕ). passes_at test (row_at rows p))) (c.in_ok-places.ensures ∙ c.in_ok-some.ensures.places)
          ∙ found_by c.self.inside.columns.items rows c.self.inside.slots c.args.args.now c.args.conditions.now c.in-Some.condition.now c.self.invariant.index c.self.invariant.rising c.in_ok-some.ensures.ordered led;
    })
