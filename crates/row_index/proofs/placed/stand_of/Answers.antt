use Rattle.std.proofs.Common.{rules}
use Rattle.std.proofs.lemmas.List.Sorted.{answers_always}
use Rattle.row_index.specs.declared.placed.Stand.{Stand}
use Rattle.row_index.proofs.Stands.{sought}
use Rattle.row_index.proofs.placed.stand_of.Goals as goal

pub returns-clause-here : goal.returns-clause-here
returns-clause-here c =
    let facts = c.binary_search_by_key.ensures in
    let by_place = facts.position (λ (s : Stand). s.place) (answers_always _ _ _ (λ f a r g called. search rules)) in
    rw c.ok.ensures.value (sought c.args.stands.now c.args.place c.requires c.binary_search_by_key.result facts.bound by_place).0

pub returns-clause-none : goal.returns-clause-none
returns-clause-none c =
    let facts = c.binary_search_by_key.ensures in
    let by_place = facts.position (λ (s : Stand). s.place) (answers_always _ _ _ (λ f a r g called. search rules)) in
    rw c.ok.ensures.value (sought c.args.stands.now c.args.place c.requires c.binary_search_by_key.result facts.bound by_place).1
