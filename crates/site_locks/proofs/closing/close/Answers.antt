use Rattle.std.proofs.Common.{rules, arith, ◌∙◌, ◌++◌, ◌∷◌, [], sym, ap, subst}
use Rattle.turn_lock.proofs.Spots.{empty_of}
use Rattle.site_locks.specs.Closing.{AllSaw, SomeIs}
use Rattle.site_locks.proofs.Closes.{gather_first, gather_next, has_all, owns_first, owns_next}
use Rattle.site_locks.proofs.closing.close.Goals as goal

pub unreachable-requires : goal.unreachable-requires
unreachable-requires g c =
    let n = c.requires.count in
    subst (SomeIs 0) (empty_of c.args.seats.items (search rules)) (c.requires.all 0 (omega arith))

pub loop-more-init : goal.loop-more-init
loop-more-init g c =
    let all = c.args.seats.items in
    let left = c.pop.new.self.items in
    let first = c.in-Some.first in
    let is = c.in-Some.ensures.items in
    let put = c.push_reserved.ensures.items ∙ (ap (λ o. o ++ c.part-ends.result.1 ∷ []) c.requires.owns.0 ∙ ap (λ o. [] ++ o ∷ []) c.part-ends.ensures.own) in (
      gather_first c.args.locks all left first c.part-ends.result.0 is c.part-ends.ensures.rest c.part-ends.ensures.ends,
      owns_first all left first c.push_reserved.new.self.items is put,
      search rules,
    )

pub loop-more-preserved : goal.loop-more-preserved
loop-more-preserved g c =
    let all = c.args.seats.items in
    let more = c.loop-more.seats.items in
    let left = c.pop-in-loop-more.new.self.items in
    let next = c.in-Some-pop.more in
    let is = c.in-Some-pop.ensures.items in
    let taken = c.take_in.ensures.taken in
    let put = c.push_reserved-in-Some-pop.ensures.items ∙ ap (λ o. c.loop-more.owns.items ++ o ∷ []) c.take_in.ensures.own in (
      gather_next c.args.locks all more left next taken.0 c.loop-more.ends c.take_in.new.ends is taken.1 taken.2 c.take_in.ensures.rest c.loop-more.invariant.0,
      owns_next all more left next c.loop-more.owns.items c.push_reserved-in-Some-pop.new.self.items is put c.loop-more.invariant.1,
      search rules,
    )

pub end-requires-clause-all : goal.end-requires-clause-all
end-requires-clause-all g c = λ k l. has_all c.args.locks c.args.seats.items c.loop-more.seats.items c.loop-more.ends (empty_of c.loop-more.seats.items (search rules)) c.loop-more.invariant.0 k (c.requires.all k l)

pub returns-clause-saw : goal.returns-clause-saw
returns-clause-saw g c =
    let saw = c.end.ensures.saw in
    (saw.0, c.loop-more.invariant.0.saw c.args.count saw.0 saw.1 (subst (AllSaw c.args.count saw.0) (sym (empty_of c.loop-more.seats.items (search rules))) tt))
