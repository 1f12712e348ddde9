use Rattle.std.proofs.Common.{ℕ, List, [], length, refl, subst, decimal}
use Rattle.std.specs.Prelude.{if◌then◌else◌}
use Rattle.http_text.specs.Status.{status_text}
use Rattle.http_text.specs.Response.{is_head, location_line, response}
use Rattle.http_front.specs.Writing.{Responds}
use Rattle.http_front.proofs.Gathering.{nothing_written, response_text}
use Rattle.http_front.proofs.writing.respond.Goals as goal

pub returns : goal.returns
unfolding response
returns g c =
    let start = g.C.Conn.wire c.args.conn.now in
    let before = c.args.kept.now in
    let zero = nothing_written start before _ (record { bytes = refl; interim = refl; to_head = refl }) refl c.clear.ensures.items in
    let one = c.status_line-sent.ensures start before zero in
    let two = c.then-sent-3.ensures start before _ (c.then-sent-2.ensures start before _ (c.then-sent.ensures start before _ one)) in
    let three = c.then_decimal-sent.ensures start before _ (c.then-sent-4.ensures start before _ (c.then_location-sent.ensures start before _ two)) in
    let four = c.then_content-sent.ensures start before _ (c.then-sent-5.ensures start before _ three) in
    subst (λ (t : List ℕ). Responds start (g.C.Conn.wire c.then_flush.new.conn) before c.then_flush.new.kept t c.then_flush.result)
    (response_text (status_text c.args.status) c.args.content_type.now (location_line c.args.location.now) (decimal (length c.args.content.now)) (if is_head c.args.method.now then [] else c.args.content.now))
    (c.then_flush.ensures start before _ four)
