use Rattle.std.proofs.Common.{◌∙◌, arith}
use Rattle.store_keeper.proofs.Reading.{alike_take, read_more, sound_at}
use Rattle.store_keeper.proofs.loading.read_tables.Goals as goal

pub loop-at-preserved : goal.loop-at-preserved
loop-at-preserved g c = record {
  many = omega (arith, c.push_reserved.ensures.len, c.loop-at.invariant.many);
  room = c.push_reserved.ensures.capacity ∙ c.loop-at.invariant.room;
  alike = alike_take c.loop-at.read.items _ c.args.tables.now c.loop-at.at c.in_ok-table.table c.index-tables-at.result c.loop-at-test.true c.push_reserved.ensures.items c.index-tables-at.is c.in_ok-table.ensures.alike c.loop-at.invariant.alike;
  read = read_more c.args.tables.now (g.K.Keeper.tables c.loop-at.keeper) (g.K.Keeper.told c.args.keeper.now) (g.K.Keeper.told c.loop-at.keeper) c.loop-at.read.items _ c.in_ok-table.table c.loop-at.at c.push_reserved.ensures.items
      (omega (arith, c.loop-at.invariant.many, c.loop-at.read.ok.0)) c.loop-at.invariant.made c.loop-at.invariant.told c.in_ok-table.ensures.read c.loop-at.invariant.read;
  told = c.read_table.ensures.told ∙ c.loop-at.invariant.told;
  made = c.read_table.ensures.tables ∙ c.loop-at.invariant.made;
  later = omega (arith, c.loop-at.invariant.later, c.read_table.ensures.faults.later);
}

pub read_table-requires-clause-sound : goal.read_table-requires-clause-sound
read_table-requires-clause-sound g c = sound_at c.args.tables.now c.loop-at.at c.index-tables-at.result c.requires.sound c.loop-at-test.true c.index-tables-at.is
