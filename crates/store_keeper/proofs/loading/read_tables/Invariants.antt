use Rattle.std.proofs.Common.{◌≡◌, ◌≤◌, length, take}
use Rattle.std.specs.Prelude.{vec_len, vec_capacity}
use Rattle.store_keeper.specs.Alike.{AreAlike}
use Rattle.store_keeper.specs.Loading.{AreRead}
use Rattle.store_keeper.proofs.loading.read_tables.Given as goal

abbrev pub invariant-loop-at : goal.invariant-loop-at
invariant-loop-at g l = record {
  many : vec_len l.read ≡ l.at;
  room : vec_capacity l.read ≡ length l.tables;
  alike : AreAlike l.read.items (take l.at l.tables);
  read : AreRead l.tables (g.K.Keeper.told l.fn.keeper) 0 l.read.items;
  told : g.K.Keeper.told l.keeper ≡ g.K.Keeper.told l.fn.keeper;
  made : g.K.Keeper.tables l.keeper ≡ l.tables;
  later : g.K.Keeper.faults l.fn.keeper ≤ g.K.Keeper.faults l.keeper;
}
