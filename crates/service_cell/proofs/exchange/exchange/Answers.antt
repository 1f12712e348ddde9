use Rattle.std.proofs.Common.{[], inl, refl}
use Rattle.service_cell.proofs.Wires.{took, broke_taking, stood, unmoved}
use Rattle.service_cell.proofs.Exchanging.{exchanged}
use Rattle.service_cell.proofs.exchange.exchange.Goals.{then-is_err-via-then-is_err, then-is_err-via-else-is_err+then-is_err-2}
use Rattle.service_cell.proofs.exchange.exchange.Goals as goal

pub exchange_frame-requires-clause-spelling : goal.exchange_frame-requires-clause-spelling
exchange_frame-requires-clause-spelling g c = let spells = c.in-Frame.ensures.next.1 in (spells.fits, spells.lawful)

pub returns-in-Frame-clause-exchanged : goal.returns-in-Frame-clause-exchanged
returns-in-Frame-clause-exchanged g c =
    let n = c.in-Frame.ensures in
    let before = took (g.L.Link.wire c.args.link.now) (g.L.Link.wire c.make_room.new.self) (g.L.Link.wire c.next.new.link) n.next.0 _ c.make_room.ensures.link n.next.2 n.link (λ e. cc) in
    exchanged (g.C.Columns.asker c.args.columns.now).config (record { worker = (g.C.Columns.asker c.args.columns.now).worker; service = c.args.who.service; incarnation = c.args.who.incarnation })
    (g.L.Link.wire c.args.link.now) (g.L.Link.wire c.next.new.link) (g.L.Link.wire c.exchange_frame.new.link) c.args.items.now.past c.in-Frame.said n.next.0 (g.C.Columns.seen c.args.columns.now) c.exchange_frame.result c.exchange_frame.new.items.past c.exchange_frame.new.due (g.C.Columns.seen c.exchange_frame.new.columns) n.next.1 before (rw c.begin_step.ensures.past at c.exchange_frame.ensures.exchanged)

pub returns-in-LinkFault-clause-exchanged : goal.returns-in-LinkFault-clause-exchanged
returns-in-LinkFault-clause-exchanged g c =
    let n = c.in-LinkFault.ensures in
    inl (n.next.0, broke_taking (g.L.Link.wire c.args.link.now) (g.L.Link.wire c.make_room.new.self) (g.L.Link.wire c.next.new.link) n.next.0 _ c.make_room.ensures.link n.next.1 n.link refl, c.begin_step.ensures.past, refl, c.requires.whole)

pub returns-then-is_err-clause-exchanged : goal.returns-then-is_err-clause-exchanged
returns-then-is_err-clause-exchanged g c =
    inl (
      [],
      elim c.then-is_err.branch [
        | then-is_err-via-then-is_err w ↦ rw w.link-is (unmoved (g.L.Link.wire c.args.link.now))
        | then-is_err-via-else-is_err+then-is_err-2 w ↦ rw w.link-is (stood (g.L.Link.wire c.args.link.now) (g.L.Link.wire w.make_room.new.self) w.make_room.ensures.link)
      ],
      c.begin_step.ensures.past,
      refl,
      c.requires.whole,
    )
