use Rattle.std.proofs.Common.{◌≡◌, ◌∙◌, ap, sym, ℕ, List, [], ◌∷◌, refl, rules, Option, Some, true}
use Rattle.std.specs.Ordering.{is_eq, nat_cmp}
use Rattle.std.proofs.lemmas.Map.Iter.{rest_more, rest_all}
use Rattle.okws_base.specs.declared.value.Value.{Value}
use Rattle.row_index.specs.Places.{row_at}
use Rattle.row_index.specs.GroupPlaces.{is_among}
use Rattle.row_index.specs.Index.{cell, is_value}
use Rattle.row_index.specs.Changes.{changed, removals_at}
use Rattle.row_index.proofs.Bools.{or_second}
use Rattle.row_index.proofs.Leaving.{first_among, still_own}
use Rattle.row_index.proofs.removing.remove_others.Goals as goal

pub loop-place-init : goal.loop-place-init
loop-place-init c =
    let all : c.into_iter-place-iterator.result ≡ c.args.places.keys = search rules in
    record {
      index = c.requires.index;
      own = λ (p : ℕ) h. c.requires.own p (sym (ap (is_among p) all) ∙ h);
      left = λ (p : ℕ). ap (λ (places : List ℕ). changed (removals_at places) (row_at c.args.rows.now.entries p) p) all;
      rising = λ h. h;
      next = refl;
    }

pub remove_other-requires-clause-own : goal.remove_other-requires-clause-own
remove_other-requires-clause-own c =
    let rest : c.loop-place.place-iterator ≡ c.in-Some.place ∷ c.next.new.self = rest_more (λ (n : ℕ). n) c.loop-place.place-iterator c.next.new.self c.next.result c.in-Some.place c.in-Some.is c.next.ensures.steps in
    c.loop-place.invariant.own c.in-Some.place (ap (is_among c.in-Some.place) rest ∙ first_among c.in-Some.place c.next.new.self)

pub loop-place-preserved : goal.loop-place-preserved
loop-place-preserved c =
    let rest : c.loop-place.place-iterator ≡ c.in-Some.place ∷ c.next.new.self = rest_more (λ (n : ℕ). n) c.loop-place.place-iterator c.next.new.self c.next.result c.in-Some.place c.in-Some.is c.next.ensures.steps in
    record {
      index = c.remove_other.ensures.index;
      own = λ (p : ℕ) h.
          still_own c.in-Some.place p (row_at c.loop-place.rows.entries p) (row_at c.remove_other.new.rows.entries p) (λ (row : List Value). is_value c.args.group.now.value (cell c.args.group.now.column (Some row)) ≡ true)
          (c.remove_other.ensures.rows p)
          (c.loop-place.invariant.own p (ap (is_among p) rest ∙ or_second (is_eq (nat_cmp p c.in-Some.place)) (is_among p c.next.new.self) h));
      left = λ (p : ℕ).
          ap (λ (o : Option (List Value)). changed (removals_at c.next.new.self) o p) (c.remove_other.ensures.rows p)
          ∙ sym (ap (λ (places : List ℕ). changed (removals_at places) (row_at c.loop-place.rows.entries p) p) rest)
          ∙ c.loop-place.invariant.left p;
      rising = λ h. c.remove_other.ensures.rising (c.loop-place.invariant.rising h);
      next = c.remove_other.ensures.next ∙ c.loop-place.invariant.next;
    }

pub returns-clause-rows : goal.returns-clause-rows
returns-clause-rows c =
    let none : c.loop-place.place-iterator ≡ [] = rest_all (λ (n : ℕ). n) c.loop-place.place-iterator c.next.new.self c.next.result c.in-None.is c.next.ensures.steps in
    λ (p : ℕ).
    sym (ap (λ (places : List ℕ). changed (removals_at places) (row_at c.loop-place.rows.entries p) p) none)
    ∙ c.loop-place.invariant.left p
