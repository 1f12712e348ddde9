use Rattle.std.proofs.Common.{◌++◌, take, rules}
use Rattle.std.proofs.KnownBytes.{Consumes-trans}
use Rattle.frame_link.proofs.Nexts.{room_is_whole, room_next, room_ended, not_fault, received_if}
use Rattle.frame_link.proofs.receiving.short_frame.Goals as goal

pub whole_frame-requires : goal.whole_frame-requires
whole_frame-requires g c = room_is_whole _ _ c.args.room.now c.fill_up.new.room c.requires (search rules) c.in-All.ensures.bytes

pub returns-in-All-clause-next : goal.returns-in-All-clause-next
returns-in-All-clause-next g c = λ old first. (room_next g.F.Frame.parts g.F.Frame.fits old _ _ c.args.room.now c.fill_up.new.room c.whole_frame.result c.in-All.ensures.bytes c.whole_frame.ensures first).0

pub returns-in-All-clause-bad : goal.returns-in-All-clause-bad
returns-in-All-clause-bad g c = λ old first. (room_next g.F.Frame.parts g.F.Frame.fits old _ _ c.args.room.now c.fill_up.new.room c.whole_frame.result c.in-All.ensures.bytes c.whole_frame.ensures first).1

pub returns-in-All-clause-link : goal.returns-in-All-clause-link
returns-in-All-clause-link g c = received_if _ _ _ _ (λ is. absurd (not_fault g.F.Frame.parts g.F.Frame.fits c.fill_up.new.room c.whole_frame.result c.whole_frame.ensures is)) (λ e. cc) c.in-All.ensures.link

pub returns-in-Ended-clause-next : goal.returns-in-Ended-clause-next
returns-in-Ended-clause-next g c = λ old first. (room_ended g.F.Frame.parts g.F.Frame.fits old _ _ c.args.room.now c.fill_up.new.room _ c.requires (search rules) c.in-Ended.ensures.bytes first).0

pub returns-in-Ended-clause-bad : goal.returns-in-Ended-clause-bad
returns-in-Ended-clause-bad g c = λ old first is. (room_ended g.F.Frame.parts g.F.Frame.fits old _ _ c.args.room.now c.fill_up.new.room _ c.requires (search rules) c.in-Ended.ensures.bytes first).1

pub returns-in-Failed-clause-next : goal.returns-in-Failed-clause-next
returns-in-Failed-clause-next g c = λ old first.
    let f = c.in-Failed.ensures.bytes in
    (take 4 c.args.room.now ++ f.0, Consumes-trans old _ _ (take 4 c.args.room.now) f.0 first f.1)
