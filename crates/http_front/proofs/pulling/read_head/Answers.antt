use Rattle.std.proofs.Common.{length, refl, ap, ◌∙◌, arith}
use Rattle.std.proofs.lemmas.Grind.{common_steps}
use Rattle.http_text.specs.Reading.{Overlong, Hopeless}
use Rattle.http_front.proofs.Open.{looked_on, nothing_stands}
use Rattle.http_front.proofs.Progress.{nothing_is_unfinished, nothing_read, head_more, head_same, head_settled, still_unfinished, longer}
use Rattle.http_front.proofs.pulling.read_head.Goals as goal

pub loop-place-init : goal.loop-place-init
loop-place-init g c = record { read = λ written. nothing_read _ _ written c.requires; front = nothing_is_unfinished _ c.requires; at = nothing_stands _ c.requires; given = refl; still = refl }

pub returns-in-Ended : goal.returns-in-Ended
returns-in-Ended g c =
    let so_far = c.loop-place.invariant in
    let took = c.in-Ended.ensures.piece in
    head_same _ _ _ _ _ _ so_far.read so_far.given so_far.still took.bytes.0 took.bytes.1 took.bytes.2 took.given
    (record { later = took.faults.later; cause = λ e. cc }) (λ _. took.still (λ e. cc)) (still_unfinished _ _ took.bytes.0 so_far.front, took.bytes.3)

pub returns-in-Failed : goal.returns-in-Failed
returns-in-Failed g c =
    let so_far = c.loop-place.invariant in
    let took = c.in-Failed.ensures.piece in
    head_same _ _ _ _ _ _ so_far.read so_far.given so_far.still took.bytes.0 took.bytes.1 took.bytes.2 took.given
    (record { later = took.faults.later; cause = λ e. took.faults.cause refl }) (λ fine. absurd (fine refl)) (still_unfinished _ _ took.bytes.0 so_far.front)

pub returns-in-NoMemory : goal.returns-in-NoMemory
returns-in-NoMemory g c =
    let so_far = c.loop-place.invariant in
    let took = c.in-NoMemory.ensures.piece in
    head_same _ _ _ _ _ _ so_far.read so_far.given so_far.still took.bytes.0 took.bytes.1 took.bytes.2 took.given
    (record { later = took.faults.later; cause = λ e. cc }) (λ _. took.still (λ e. cc)) (still_unfinished _ _ took.bytes.0 so_far.front)

pub returns-in-Whole : goal.returns-in-Whole
returns-in-Whole g c =
    let so_far = c.loop-place.invariant in
    let took = c.in-Came.ensures.piece in
    let looks = (looked_on _ _ _ _ _ _ _ _ c.in-Whole.ensures c.deref.ensures.value took.bytes.3 (omega arith) so_far.at so_far.front).0 in
    head_settled _ _ _ _ _ _ so_far.read so_far.front so_far.given so_far.still (let within = c.in-Came.ensures.within in grind (arith, common_steps, within)) took (λ e. cc) looks

pub returns-in-TooLong : goal.returns-in-TooLong
returns-in-TooLong g c =
    let so_far = c.loop-place.invariant in
    let took = c.in-Came.ensures.piece in
    let looks = (looked_on _ _ _ _ _ _ _ _ c.in-TooLong.ensures c.deref.ensures.value took.bytes.3 (omega arith) so_far.at so_far.front).0 in
    head_settled _ _ _ _ _ _ so_far.read so_far.front so_far.given so_far.still (let within = c.in-Came.ensures.within in grind (arith, common_steps, within)) took (λ e. cc) (record { front = Overlong; has = looks; none = looks.0; refuses = refl })

pub returns-in-Broken : goal.returns-in-Broken
returns-in-Broken g c =
    let so_far = c.loop-place.invariant in
    let took = c.in-Came.ensures.piece in
    let looks = (looked_on _ _ _ _ _ _ _ _ c.in-Broken.ensures c.deref.ensures.value took.bytes.3 (omega arith) so_far.at so_far.front).0 in
    head_settled _ _ _ _ _ _ so_far.read so_far.front so_far.given so_far.still (let within = c.in-Came.ensures.within in grind (arith, common_steps, within)) took (λ e. cc) (record { front = Hopeless; has = looks; none = looks.0; refuses = refl })

pub loop-place-preserved : goal.loop-place-preserved
loop-place-preserved g c =
    let so_far = c.loop-place.invariant in
    let took = c.in-Came.ensures.piece in
    let looks = looked_on _ _ _ _ _ _ _ _ c.in-Open.ensures c.deref.ensures.value took.bytes.3 (omega arith) so_far.at so_far.front in
    record { read = λ written. head_more _ _ _ _ _ written (so_far.read written) so_far.front (let within = c.in-Came.ensures.within in grind (arith, common_steps, within)) took; front = looks.0; at = looks.1 refl; given = took.given ∙ so_far.given; still = took.still (λ e. cc) ∙ so_far.still }

pub look_on-requires : goal.look_on-requires
look_on-requires g c =
    let took = c.in-Came.ensures.piece in
    omega (arith, longer _ _ took.bytes.0 took.bytes.3, ap length c.deref.ensures.value)
