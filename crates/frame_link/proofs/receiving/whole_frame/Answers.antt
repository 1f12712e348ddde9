use Rattle.std.proofs.Common.{List, ℕ, take, subst, sym}
use Rattle.frame_codec.specs.Spelling.{SpellsBy}
use Rattle.frame_codec.specs.Stream.{IsShort}
use Rattle.frame_codec.proofs.Stops.{whole_is_taken, whole_not_short}
use Rattle.frame_link.proofs.receiving.whole_frame.Goals as goal

pub returns-in-Frame : goal.returns-in-Frame
returns-in-Frame g c =
    let r = c.requires in
    let found = c.in-Frame.ensures in
    subst (λ (t : List ℕ). SpellsBy g.F.Frame.parts g.F.Frame.fits t c.in-Frame.frame) (sym r.3)
    (whole_is_taken g.F.Frame.parts g.F.Frame.fits r.0 c.in-Frame.field-1 r.1 c.in-Frame.frame r.2 r.4 (subst (λ (t : List ℕ). SpellsBy g.F.Frame.parts g.F.Frame.fits (take c.in-Frame.field-1 t) c.in-Frame.frame) r.3 found.1))

pub unreachable-requires : goal.unreachable-requires
unreachable-requires g c =
    let r = c.requires in
    whole_not_short r.0 r.1 r.2 r.4 (subst IsShort r.3 c.in-Short.ensures)
