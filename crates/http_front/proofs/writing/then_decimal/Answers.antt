use Rattle.std.proofs.Common.{ℕ, List, ◌++◌, subst, ◌∙◌}
use Rattle.http_front.specs.Writing.{Writes}
use Rattle.http_front.proofs.writing.then_decimal.Goals as goal

pub returns : goal.returns
returns g c = λ start before text w.
    subst (λ (t : List ℕ). Writes start before (text ++ t) (g.C.Conn.wire c.then.new.conn) c.then.new.kept c.then.result) (c.as_bytes.ensures.value ∙ c.format.ensures.text) (c.then.ensures start before text w)
