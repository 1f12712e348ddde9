use Rattle.std.proofs.Common.{◌≡◌, ◌∙◌, ◌<◌, ap, arith, length, map, subst}
use Rattle.std.proofs.lemmas.List.{length-map}
use Rattle.std.proofs.lemmas.Result.{IfOk-at_ok}
use Rattle.monitor_model.specs.Played.{record_of}
use Rattle.okws_play.specs.Cells.{AreClosed, past_of, stands_by}
use Rattle.okws_play.specs.Run.{Run}
use Rattle.okws_play.proofs.Cells.{stands_long}
use Rattle.okws_play.proofs.Closing.{closed_sent, closed_told, closed_long}
use Rattle.okws_play.proofs.play.run.Play.into_record.Goals as goal

pub returns-clause-record : goal.returns-clause-record
returns-clause-record c =
    let left = IfOk-at_ok _ c.in_ok-whole.ensures.1 c.close_cells.ensures _ _ c.self.invariant.seats_are in
    let base = c.in_ok-whole.ensures.0 ∙ c.in_ok-record.ensures.record in
    let cells : c.of.result ≡ map past_of (stands_by c.self.inside.cells.items) = c.of.ensures ∙ left.pasts_are in
    subst (λ (v : Run). record c.in_ok-whole.whole { cells = c.of.result; sents = c.of-2.result } ≡ record (record_of v.stage) { sents = c.of-2.result }) c.self.view_is
    (λ i. record (base i) { cells = cells i; sents = c.of-2.result })

pub returns-clause-sent : goal.returns-clause-sent
returns-clause-sent c = λ s below.
    let left = IfOk-at_ok _ c.in_ok-whole.ensures.1 c.close_cells.ensures _ _ c.self.invariant.seats_are in
    let pasts = c.in_ok-whole.left.pasts.items in
    let sents = c.in_ok-whole.left.sents.items in
    let closed = subst (λ (v : Run). AreClosed v.config v.seed 0 pasts sents) c.self.view_is left.closed in
    let within : s < length pasts =
    omega (arith, below, ap length left.pasts_are ∙ length-map (stands_by c.self.inside.cells.items) past_of, stands_long c.self.inside.cells.items, c.self.invariant.cells_are, ap (λ (v : Run). length v.config.services) c.self.view_is) in
    rw (c.of.ensures, c.of-2.ensures) (closed_sent _ _ 0 s s pasts sents closed within (omega arith))

pub returns-clause-told : goal.returns-clause-told
returns-clause-told c = λ s.
    let left = IfOk-at_ok _ c.in_ok-whole.ensures.1 c.close_cells.ensures _ _ c.self.invariant.seats_are in
    rw c.of-2.ensures (closed_told _ _ 0 s c.in_ok-whole.left.pasts.items c.in_ok-whole.left.sents.items left.closed)

pub returns-clause-many : goal.returns-clause-many
returns-clause-many c =
    let left = IfOk-at_ok _ c.in_ok-whole.ensures.1 c.close_cells.ensures _ _ c.self.invariant.seats_are in
    let sents = c.in_ok-whole.left.sents.items in
    let many : length sents ≡ length c.in_ok-whole.left.pasts.items = closed_long _ _ 0 c.in_ok-whole.left.pasts.items sents left.closed in
    let sum : length sents ≡ length c.args.self.config.services =
    omega (arith, many, ap length left.pasts_are ∙ length-map (stands_by c.self.inside.cells.items) past_of, stands_long c.self.inside.cells.items, c.self.invariant.cells_are, ap (λ (v : Run). length v.config.services) c.self.view_is) in
    rw c.of-2.ensures sum
