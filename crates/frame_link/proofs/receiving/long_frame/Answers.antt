use Rattle.std.proofs.Common.{◌∙◌, ◌++◌, ◌+◌, ◌<◌, ℕ, List, ap, arith, length, refl, subst, sym}
use Rattle.std.specs.Io.KnownBytes.{Consumes}
use Rattle.std.proofs.KnownBytes.{Consumes-trans}
use Rattle.frame_codec.proofs.Sizes.{length-four}
use Rattle.frame_link.proofs.Nexts.{ended_next, ended_front, is_some, is_whole, not_fault, part_is_short, reads_front, reads_next, received_if, took_both}
use Rattle.frame_link.proofs.receiving.long_frame.Goals as goal

pub fill-requires : goal.fill-requires
fill-requires g c =
    let head = ap length c.in-Ok.ensures.items ∙ ap length c.requires.1 ∙ length-four c.args.size in
    omega (arith, head)

pub whole_frame-requires : goal.whole_frame-requires
whole_frame-requires g c =
    let s = c.in-Whole.ensures.bytes in
    rw c.deref.ensures.value (is_whole c.args.size c.args.head.now _ s.0 c.requires.0 c.requires.1 (s.2 ∙ ap (λ (t : List ℕ). t ++ s.0) c.in-Ok.ensures.items) s.3)

pub returns-in_default-clause-next : goal.returns-in_default-clause-next
returns-in_default-clause-next g c = λ old first. (c.args.head.now, first)

pub returns-in-Whole-clause-next : goal.returns-in-Whole-clause-next
returns-in-Whole-clause-next g c = λ old first.
    let s = c.in-Whole.ensures.bytes in
    let before = subst (λ (t : List ℕ). Consumes old (g.L.Link.wire c.args.link.now).left t) (sym c.in-Ok.ensures.items) first in
    reads_next g.F.Frame.parts g.F.Frame.fits _ _ _ c.whole_frame.result (took_both old _ _ _ _ s.0 before s.1 s.2) (rw c.deref.ensures.value at c.whole_frame.ensures)

pub returns-in-Whole-clause-bad : goal.returns-in-Whole-clause-bad
returns-in-Whole-clause-bad g c = λ old first.
    let s = c.in-Whole.ensures.bytes in
    let before = subst (λ (t : List ℕ). Consumes old (g.L.Link.wire c.args.link.now).left t) (sym c.in-Ok.ensures.items) first in
    reads_front g.F.Frame.parts g.F.Frame.fits _ _ _ c.whole_frame.result (took_both old _ _ _ _ s.0 before s.1 s.2) (rw c.deref.ensures.value at c.whole_frame.ensures)

pub returns-in-Whole-clause-link : goal.returns-in-Whole-clause-link
returns-in-Whole-clause-link g c = received_if _ _ _ _ (λ is. absurd (not_fault g.F.Frame.parts g.F.Frame.fits _ c.whole_frame.result c.whole_frame.ensures is)) (λ e. cc) c.in-Whole.ensures.link

pub returns-in-Ended-clause-next : goal.returns-in-Ended-clause-next
returns-in-Ended-clause-next g c = λ old first.
    let s = c.in-Ended.ensures.bytes in
    let few = subst (λ (t : List ℕ). length (t ++ s.0) < 4 + c.args.size) c.in-Ok.ensures.items s.2 in
    ended_next g.F.Frame.parts g.F.Frame.fits _ _ (c.args.head.now ++ s.0) (Consumes-trans old _ _ c.args.head.now s.0 first s.1) (part_is_short c.args.size c.args.head.now _ s.0 c.requires.0 c.requires.1 refl few) (is_some c.args.size c.args.head.now _ s.0 c.requires.1 refl) s.3

pub returns-in-Ended-clause-bad : goal.returns-in-Ended-clause-bad
returns-in-Ended-clause-bad g c = λ old first is.
    let s = c.in-Ended.ensures.bytes in
    let few = subst (λ (t : List ℕ). length (t ++ s.0) < 4 + c.args.size) c.in-Ok.ensures.items s.2 in
    ended_front g.F.Frame.parts g.F.Frame.fits _ _ (c.args.head.now ++ s.0) (Consumes-trans old _ _ c.args.head.now s.0 first s.1) (part_is_short c.args.size c.args.head.now _ s.0 c.requires.0 c.requires.1 refl few) (is_some c.args.size c.args.head.now _ s.0 c.requires.1 refl) s.3

pub returns-in-Failed-clause-next : goal.returns-in-Failed-clause-next
returns-in-Failed-clause-next g c = λ old first.
    let s = c.in-Failed.ensures.bytes in
    (c.args.head.now ++ s.0, Consumes-trans old _ _ c.args.head.now s.0 first s.1)

pub returns-clause-next : goal.returns-clause-next
returns-clause-next g c = λ old first.
    let s = c.in-NoMemory.ensures.bytes in
    (c.args.head.now ++ s.0, Consumes-trans old _ _ c.args.head.now s.0 first s.1)
