use Rattle.std.proofs.Common.{ℕ, ◌<◌, List, length, subst, arith}
use Rattle.std.proofs.lemmas.Grind.{common_steps}
use Rattle.std.proofs.lemmas.Bool.Decides.{nat_tests}
use Rattle.http_front.specs.Writing.{Writes}
use Rattle.http_front.proofs.Gathering.{location_text}
use Rattle.http_front.proofs.writing.then_location.Goals as goal

pub returns : goal.returns
returns g c = λ start before text w.
    let some : 0 < length c.args.location.now = grind (arith, common_steps, nat_tests) in
    subst (λ (t : List ℕ). Writes start before t (g.C.Conn.wire c.then.new.conn) c.then.new.kept c.then.result) (location_text text c.args.location.now some)
    (c.then.ensures start before _ (c.then-sent-2.ensures start before _ (c.then-sent.ensures start before text w)))
