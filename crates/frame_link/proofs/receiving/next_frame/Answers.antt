use Rattle.std.proofs.Common.{arith, refl, rules}
use Rattle.std.proofs.lemmas.Grind.{common_steps}
use Rattle.frame_link.proofs.Nexts.{head_ended, head_in, head_in_room, head_is_end, head_untold, is_room, received_if, received_then}
use Rattle.frame_link.proofs.receiving.next_frame.Goals as goal

pub returns-in-Ended-clause-next : goal.returns-in-Ended-clause-next
returns-in-Ended-clause-next g c = head_is_end g.F.Frame.parts g.F.Frame.fits _ _ c.fill_up.new.room c.in-Ended.count c.in-Ended.ensures.bytes (search rules)

pub returns-in-Ended-2-clause-next : goal.returns-in-Ended-2-clause-next
returns-in-Ended-2-clause-next g c = (head_ended g.F.Frame.parts g.F.Frame.fits _ _ c.fill_up.new.room _ c.in-Ended-2.ensures.bytes (grind (arith, common_steps)) (search rules)).0

pub returns-in-Ended-2-clause-bad : goal.returns-in-Ended-2-clause-bad
returns-in-Ended-2-clause-bad g c = λ _. (head_ended g.F.Frame.parts g.F.Frame.fits _ _ c.fill_up.new.room _ c.in-Ended-2.ensures.bytes (grind (arith, common_steps)) (search rules)).1

pub returns-in_default-clause-next : goal.returns-in_default-clause-next
returns-in_default-clause-next g c = (head_untold g.F.Frame.parts g.F.Frame.fits _ _ c.fill_up.new.room _ (grind (arith, common_steps)) c.in-All.ensures.bytes (c.in_default.ensures.bad refl).1).0

pub returns-in_default-clause-bad : goal.returns-in_default-clause-bad
returns-in_default-clause-bad g c = λ _. (head_untold g.F.Frame.parts g.F.Frame.fits _ _ c.fill_up.new.room _ (grind (arith, common_steps)) c.in-All.ensures.bytes (c.in_default.ensures.bad refl).1).1

pub long_frame-requires : goal.long_frame-requires
long_frame-requires g c = c.in-Some.ensures.told

pub returns-then-size-gt-SHORT-clause-next : goal.returns-then-size-gt-SHORT-clause-next
returns-then-size-gt-SHORT-clause-next g c = c.long_frame.ensures.next _ (head_in _ _ c.fill_up.new.room _ (grind (arith, common_steps)) c.in-All.ensures.bytes)

pub returns-then-size-gt-SHORT-clause-bad : goal.returns-then-size-gt-SHORT-clause-bad
returns-then-size-gt-SHORT-clause-bad g c = c.long_frame.ensures.bad _ (head_in _ _ c.fill_up.new.room _ (grind (arith, common_steps)) c.in-All.ensures.bytes)

pub short_frame-requires : goal.short_frame-requires
short_frame-requires g c = is_room _ c.in-Some.size c.in-Some.ensures.told (grind (arith, common_steps))

pub returns-clause-next : goal.returns-clause-next
returns-clause-next g c = c.short_frame.ensures.next _ (head_in_room _ _ c.fill_up.new.room _ c.in-Some.size (grind (arith, common_steps)) c.in-All.ensures.bytes)

pub returns-clause-bad : goal.returns-clause-bad
returns-clause-bad g c = c.short_frame.ensures.bad _ (head_in_room _ _ c.fill_up.new.room _ c.in-Some.size (grind (arith, common_steps)) c.in-All.ensures.bytes)

pub returns-then-size-gt-SHORT-clause-link : goal.returns-then-size-gt-SHORT-clause-link
returns-then-size-gt-SHORT-clause-link g c = received_then _ _ _ _ (received_if _ _ _ ⊥ (λ f. absurd f) (λ e. cc) c.in-All.ensures.link) c.long_frame.ensures.link

pub returns-clause-link : goal.returns-clause-link
returns-clause-link g c = received_then _ _ _ _ (received_if _ _ _ ⊥ (λ f. absurd f) (λ e. cc) c.in-All.ensures.link) c.short_frame.ensures.link
