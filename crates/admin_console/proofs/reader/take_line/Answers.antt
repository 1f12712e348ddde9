use Rattle.std.proofs.Common.{◌≡◌, length, ap, arith}
use Rattle.std.proofs.lemmas.List.{length-take}
use Rattle.admin_console.specs.declared.reader.TheConstants.{HELD}
use Rattle.admin_console.proofs.Lines.{holds_none, holds_more, line_ended, line_cut, line_failed}
use Rattle.admin_console.proofs.reader.take_line.Goals as goal

pub loop-init : goal.loop-init
loop-init g c = record { holds = holds_none _ _ c.clear.ensures.items; room = omega (arith, c.clear.ensures.capacity) }

pub hold-requires-clause-within : goal.hold-requires-clause-within
hold-requires-clause-within g c = let h = c.loop.invariant.holds in omega (arith, ap length h.held_is, length-take HELD h.text)

pub loop-preserved : goal.loop-preserved
loop-preserved g c =
    let size : length c.pull.new.into ≡ 1 = omega (arith, c.pull.auto.into) in
    record {
      holds = holds_more _ _ _ _ _ c.pull.new.into c.in-Took.field-0 c.loop.invariant.holds c.in-Took.ensures size c.if-byte-eq10.false c.hold.ensures.items;
      room = c.hold.ensures.room;
    }

pub returns-then-byte-eq10-clause-line : goal.returns-then-byte-eq10-clause-line
returns-then-byte-eq10-clause-line g c =
    let size : length c.pull.new.into ≡ 1 = omega (arith, c.pull.auto.into) in
    line_ended _ _ _ _ c.pull.new.into c.in-Took.field-0 c.loop.invariant.holds c.in-Took.ensures size c.if-byte-eq10.true

pub returns-in-End-clause-line : goal.returns-in-End-clause-line
returns-in-End-clause-line g c = line_cut _ _ _ _ c.pull.new.into c.loop.invariant.holds c.in-End.ensures

pub returns-in-Failed-clause-line : goal.returns-in-Failed-clause-line
returns-in-Failed-clause-line g c = line_failed _ _ _ _ c.pull.new.into c.loop.invariant.holds c.in-Failed.ensures
