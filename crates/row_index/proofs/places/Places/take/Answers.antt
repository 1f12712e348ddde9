use Rattle.std.proofs.Common.{◌≡◌, ◌∙◌, ap, sym, ℕ, rules}
use Rattle.std.specs.Prelude.{◌==◌, ◌&&◌, not}
use Rattle.std.specs.BTreeSet.{BTreeSet}
use Rattle.row_index.specs.GroupPlaces.{is_among, places_listed}
use Rattle.row_index.specs.declared.places.Places.{Places}
use Rattle.row_index.proofs.Listed.{sole_stays, sole_goes, taken_there}
use Rattle.row_index.proofs.places.Places.take.Goals as goal

pub returns-in-Sole-clause-left : goal.returns-in-Sole-clause-left
returns-in-Sole-clause-left c = λ h. λ (p : ℕ).
    sole_stays c.in-Sole.sole c.args.place p h
    ∙ ap (λ (places : Places). not (c.args.place == p) && is_among p (places_listed places)) (sym c.in-Sole.is)

pub returns-in-Sole-clause-last : goal.returns-in-Sole-clause-last
returns-in-Sole-clause-last c = λ h. λ (p : ℕ).
    ap (λ (places : Places). not (c.args.place == p) && is_among p (places_listed places)) c.in-Sole.is
    ∙ sole_goes c.in-Sole.sole c.args.place p h

pub returns-in-Several-clause-left : goal.returns-in-Several-clause-left
returns-in-Several-clause-left c =
    let lent : c.deref_mut.result.now ≡ c.in-Several.places.value = search rules in
    λ h. λ (p : ℕ).
    taken_there c.args.place p (is_among p c.remove.new.self.keys) (is_among p c.deref_mut.result.now.keys) (c.remove.ensures.updates.0 p)
    ∙ ap (λ (places : BTreeSet ℕ). not (c.args.place == p) && is_among p places.keys) lent
    ∙ ap (λ (places : Places). not (c.args.place == p) && is_among p (places_listed places)) (sym c.in-Several.is)
