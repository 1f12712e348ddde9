use Rattle.std.proofs.Common.{arith}
use Rattle.admin_console.proofs.Lines.{skipped_none, skipped_more, command_taken, command_cut, command_failed, is_filled, is_empty}
use Rattle.admin_console.proofs.reader.take_command.Goals as goal

pub loop-init : goal.loop-init
loop-init g c = record { skipped = skipped_none _ _ (omega arith); room = c.requires }

pub returns-then-not-is_empty-clause-line : goal.returns-then-not-is_empty-clause-line
returns-then-not-is_empty-clause-line g c =
    command_taken _ _ _ _ _ _ _ c.loop.invariant.skipped c.in-Line.ensures.line (is_filled _ _ _ _ c.without_carriage_return.ensures c.deref.ensures.value c.is_empty.ensures c.if-not-is_empty.true) c.saturating_add-lines.ensures

pub loop-preserved : goal.loop-preserved
loop-preserved g c = record {
  skipped = skipped_more _ _ _ _ _ _ _ c.loop.invariant.skipped c.in-Line.ensures.line (is_empty _ _ _ _ c.without_carriage_return.ensures c.deref.ensures.value c.is_empty.ensures c.if-not-is_empty.false) c.saturating_add-lines.ensures;
  room = c.in-Line.ensures.room;
}

pub returns-in-Ended-clause-line : goal.returns-in-Ended-clause-line
returns-in-Ended-clause-line g c = command_cut _ _ _ _ _ _ c.loop.invariant.skipped c.in-Ended.ensures.line

pub returns-in-Failed-clause-line : goal.returns-in-Failed-clause-line
returns-in-Failed-clause-line g c = command_failed _ _ _ _ _ _ c.loop.invariant.skipped c.in-Failed.ensures.line
