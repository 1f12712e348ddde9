use Rattle.std.proofs.Common.{ℕ, List, [], subst, ◌∙◌}
use Rattle.http_front.specs.Writing.{Writes}
use Rattle.http_front.proofs.Gathering.{status_line_text}
use Rattle.http_front.proofs.writing.status_line.Goals as goal

pub returns : goal.returns
returns g c = λ start before w.
    subst (λ (t : List ℕ). Writes start before t (g.C.Conn.wire c.then.new.conn) c.then.new.kept c.then.result)
    (status_line_text c.args.status c.as_bytes.result.now c.as_bytes-2.result.now c.requires (c.as_bytes.ensures.value ∙ c.as_str.ensures) (c.as_bytes-2.ensures.value ∙ c.phrase_or_empty.ensures))
    (c.then.ensures start before _ (c.then-sent-3.ensures start before _ (c.then-sent-2.ensures start before _ (c.then-sent.ensures start before [] w))))
