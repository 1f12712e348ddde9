use Rattle.std.proofs.Common.{◌≡◌, length, refl, arith}
use Rattle.std.proofs.lemmas.Grind.{common_steps}
use Rattle.okws_base.specs.declared.limit.TheConstants.{MOST_FIELDS}
use Rattle.http_front.proofs.Heads.{whole_looks}
use Rattle.http_front.proofs.looking.look_at.Goals as goal

pub returns-else-head-gt-LONGEST_HEAD : goal.returns-else-head-gt-LONGEST_HEAD
returns-else-head-gt-LONGEST_HEAD c =
    let within = rw c.in-Ok-Complete.field-0-is at c.in-Ok-Complete.ensures.within in
    let complete = rw c.in-Ok-Complete.field-0-is at c.in-Ok-Complete.ensures.complete in
    let room : length c.parse_request.new.headers ≡ MOST_FIELDS = grind (arith, common_steps) in
    whole_looks c.args.bytes.now c.parse_request.new.headers c.in-Ok-Complete.head complete.0 _ c.whole_head.result room (omega arith) within complete.1 refl c.whole_head.ensures
