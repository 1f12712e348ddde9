use Rattle.std.proofs.Common.{refl, ◌∙◌}
use Rattle.http_front.proofs.reading.Request.path.Goals as goal

pub returns : goal.returns
returns c = λ has.
    let same = c.target_bytes.ensures has.within in
    c.path_or_slash.ensures ∙ rw (same, has.taken) refl
